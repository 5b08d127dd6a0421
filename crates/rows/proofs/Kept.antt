-- What is kept from place to place: the register has what the running term names, and the term is well-typed and within its limits.
use Rattle.std.proofs.Common.{◌≡◌, ℕ, ◌<◌, ◌≤◌, Bool, true, false, ◌⊎◌, ◌↔◌, List, [], ◌∷◌, length, get_or, set, Some, None, Option, sym, refl, ap, ◌∙◌, subst, inl, inr, ⊎_elim, le_trans, arith}
use Rattle.std.proofs.lemmas.List.{length-set}
use Rattle.calculus.specs.declared.gates.Gate.{Gate}
use Rattle.calculus.specs.Types.{Ty}
use Rattle.calculus.specs.Terms.{held, Term, var, const, star, lam, app, pair, if_then_else, let_pair, Running, claim_of, size, erased}
use Rattle.calculus.specs.Reduction.{Effect, silent, prepares, reads, applies}
use Rattle.calculus.specs.Names.{Names, WellTyped, In}
use Rattle.calculus.specs.Contexts.{empty}
use Rattle.calculus.specs.Typing.{Derives, Claimed}
use Rattle.calculus.specs.Safety.{Answerable}
use Rattle.calculus.proofs.Erasure.{derives, erasure_laws}
use Rattle.calculus.proofs.Preservation.{subject_reduction}
use Rattle.calculus.proofs.Values.{free_present, none_present}
use Rattle.calculus.proofs.Ways.{free?, wires_qubits}
use Rattle.registers.specs.declared.fault.RegisterReason.TheVariants.{NoPulses, Full}
use Rattle.registers.specs.Meaning.{Meaning, Changes, Live, counted}
use Rattle.registers.specs.Sheet.{to_prepare}
use Rattle.rows.specs.Members.{NamesGate, gate_here, gate_lam, gate_fun, gate_arg, gate_left, gate_right, gate_test, gate_then, gate_else, gate_pair, gate_body, Member}
use Rattle.rows.specs.Places.{Place, New}
use Rattle.rows.specs.Refusing.{most_cells, already_loaded, gate_not_made, too_long}
use Rattle.rows.specs.Stepping.{Accepts, Acts, without, Steps}
use Rattle.rows.specs.Doing.{running, Many, no_more, one_more, Does, refused, loads, steps, runs, collects, abandons}
use Rattle.rows.proofs.Lists.{lit_after_true, lit_after_false, none_lit, counted_none}
use Rattle.registers.proofs.Room.{counted_more, counted_less}
use Rattle.rows.proofs.Names.{Brings, names_before, brought_named, asked_apart, gate_before}
use Rattle.rows.proofs.Wants.{Serves}

-- What the register's act leaves.
pub record Acted {C : Type 0} (r : Meaning C) (e : Effect) (s : Meaning C) : Type 0 where
  pub long : length s.live ≡ 32
  pub made : (u : Gate) → s.makes u ≡ r.makes u
  pub capable : s.capacity ≡ r.capacity
  pub roomy : counted r.live ≤ r.capacity → counted s.live ≤ r.capacity
  pub live_after : (h : ℕ) → Live s h ↔ Live r h ⊎ Brings e h
  pub fresh : (h : ℕ) → Brings e h → Live r h → ⊥

-- A call that prepares is accepted only where a pulse is left and there is room.
pub prepare_room : {C : Type 0} (r : Meaning C) (b : Bool) → Accepts r (to_prepare b) → (0 < r.pulses) × (counted r.live < r.capacity)
prepare_room r b x =
    let p = λ (e : r.pulses ≡ 0). x NoPulses (tt, e) in
    let q = λ (l : r.capacity ≤ counted r.live). x Full (tt, l) in (omega arith, omega arith)

module _ {C : Type 0} (changes : Changes C) where
  same_live : {r s : Meaning C} {e : Effect} → ((h : ℕ) → Brings e h → ⊥) → s.live ≡ r.live → s.capacity ≡ r.capacity → s.makes ≡ r.makes → length r.live ≡ 32 → Acted r e s
  same_live {r} {s} {e} none live capacity makes long = record {
    long = ap length live ∙ long;
    made = λ u. ap (λ f. f u) makes;
    capable = capacity;
    roomy = λ x. subst (λ bs. counted bs ≤ r.capacity) (sym live) x;
    live_after = λ h. (λ x. inl (subst (λ bs. get_or bs h false ≡ true) live x), ⊎_elim (λ x. subst (λ bs. get_or bs h false ≡ true) (sym live) x) (λ b. absurd (none h b)));
    fresh = λ h b. absurd (none h b);
  }

  pub acted : {r s : Meaning C} (e : Effect) → length r.live ≡ 32 → Acts changes r e s → Acted r e s
  acted silent l q = same_live (λ h b. b) (ap (λ m. m.live) q) (ap (λ m. m.capacity) q) (ap (λ m. m.makes) q) l
  acted {r} (prepares b h) l (x, f, q) =
      let room = prepare_room r b x in
      let free = f room.0 room.1 in
      let below = free.0 in
      subst (Acted r (prepares b h)) (sym q) (record {
        long = length-set r.live h true ∙ l;
        made = λ u. refl;
        capable = refl;
        roomy = λ _. let y = counted_more r.live h in let z = room.1 in omega arith;
        live_after = λ k. lit_after_true r.live h k (omega arith);
        fresh = λ k e y. let z : ◌≡◌ {A = ℕ} 0 1 = (let w = sym (subst (Live r) e y) ∙ free.1 in cc) in omega arith;
      })
  acted (reads h b) l (x, q) = same_live (λ h b. b) (ap (λ m. m.live) q) (ap (λ m. m.capacity) q) (ap (λ m. m.makes) q) l
  acted (applies u hs) l (x, q) = same_live (λ h b. b) (ap (λ m. m.live) q) (ap (λ m. m.capacity) q) (ap (λ m. m.makes) q) l

  -- What letting go leaves.
  without_long : (hs : List ℕ) (r : Meaning C) → length (without changes hs r).live ≡ length r.live
  without_long [] r = refl
  without_long (h ∷ hs) r = without_long hs _ ∙ length-set r.live h false

  without_makes : (hs : List ℕ) (r : Meaning C) (u : Gate) → (without changes hs r).makes u ≡ r.makes u
  without_makes [] r u = refl
  without_makes (h ∷ hs) r u = without_makes hs _ u

  without_capacity : (hs : List ℕ) (r : Meaning C) → (without changes hs r).capacity ≡ r.capacity
  without_capacity [] r = refl
  without_capacity (h ∷ hs) r = without_capacity hs _

  without_counted : (hs : List ℕ) (r : Meaning C) → counted (without changes hs r).live ≤ counted r.live
  without_counted [] r = omega arith
  without_counted (h ∷ hs) r = le_trans (without_counted hs _) (counted_less r.live h)

  without_live : (hs : List ℕ) (r : Meaning C) (h : ℕ) → Live (without changes hs r) h ↔ Live r h × (In h hs → ⊥)
  without_live [] r h = ((λ x. (x, λ i. i)), λ p. p.0)
  without_live (k ∷ hs) r h = go (without_live hs _ h)
    where
      go : {A : Type 0} → A ↔ (get_or (set r.live k false) h false ≡ true) × (In h hs → ⊥) → A ↔ Live r h × (In h (k ∷ hs) → ⊥)
      go e = (
        (λ x. let b = (lit_after_false r.live k h).0 (e.0 x).0 in (b.0, ⊎_elim b.1 (e.0 x).1)),
        λ p. e.1 ((lit_after_false r.live k h).1 (p.0, λ q. p.1 (inl q)), λ i. p.1 (inr i)),
      )

-- What holds of a running term, its type and the register, through all steps.
pub record KeptTerm {C : Type 0} (m : Running) (a : Ty) (r : Meaning C) : Type 0 where
  pub long : length r.live ≡ 32
  pub same : (h : ℕ) → Live r h ↔ Names m h
  pub typed : WellTyped m a
  pub short : size m ≤ most_cells
  pub roomy : counted r.live ≤ r.capacity
  pub top : r.capacity ≤ 32
  pub made : (u : Gate) → NamesGate u m → r.makes u ≡ true

pub serves : {C : Type 0} {m : Running} {a : Ty} {r : Meaning C} → KeptTerm m a r → Serves r m
serves k = record {
  live = λ h f. (k.same h).1 f;
  made = k.made;
  apart = λ i. asked_apart (k.typed.1.no_binder, wires_qubits k.typed.1) i k.typed.2;
}

answer : {m : Running} (e : Effect) → ((h : ℕ) → Brings e h → Names m h → ⊥) → Answerable m e
answer silent f = tt
answer (prepares b h) f = f h refl
answer (reads h b) f = tt
answer (applies u hs) f = tt

module _ {C : Type 0} (changes : Changes C) where
  pub stepped : {m n : Running} {a : Ty} {r s : Meaning C} → KeptTerm m a r → (most_cells < size n → ⊥) → Steps changes m r n s → KeptTerm n a s
  stepped {m} {n} {a} {r} k o t = subst (KeptTerm n a) (sym t.after) (record {
    long = without_long changes t.dropped t.between ∙ d.long;
    same = λ h. (down h, up h);
    typed = subject_reduction m n t.effect a k.typed t.reduces (answer t.effect (λ h b x. d.fresh h b ((k.same h).1 x)));
    short = omega arith;
    roomy = rw (c) (le_trans (without_counted changes t.dropped t.between) (d.roomy k.roomy));
    top = rw (c) k.top;
    made = λ u g. without_makes changes t.dropped t.between u ∙ d.made u ∙ k.made u (gate_before t.reduces g);
  })
    where
      d : Acted r t.effect t.between
      d = acted changes t.effect k.long t.acts

      c : (without changes t.dropped t.between).capacity ≡ r.capacity
      c = without_capacity changes t.dropped t.between ∙ d.capable

      still : (h : ℕ) → (In h t.dropped → ⊥) → Names m h → Dec (Names n h) → Names n h
      still h i x (yes y) = y
      still h i x (no y) = absurd (i ((t.dropped_are h).1 (x, y)))

      down : (h : ℕ) → Live (without changes t.dropped t.between) h → Names n h
      down h x = let p = (without_live changes t.dropped t.between h).0 x in
          ⊎_elim (λ y. still h p.1 ((k.same h).0 y) (free? n (held h))) (λ b. brought_named h t.reduces b) ((d.live_after h).0 p.0)

      up : (h : ℕ) → Names n h → Live (without changes t.dropped t.between) h
      up h x = (without_live changes t.dropped t.between h).1
          ((d.live_after h).1 (⊎_elim (λ y. inl ((k.same h).1 y)) inr (names_before h t.reduces x)), λ i. ((t.dropped_are h).0 i).1 x)

-- A loaded term is its program's, which names no qubit, and the program's gates.
gate_erased : {D : Type 0} {u : Gate} (m : Term D) → NamesGate u (erased m) → NamesGate u m
gate_erased (var c y) f = elim f [ ]
gate_erased (const c k) gate_here = gate_here
gate_erased (star c) f = elim f [ ]
gate_erased (lam c m) (gate_lam f) = gate_lam (gate_erased m f)
gate_erased (app c m n) (gate_fun f) = gate_fun (gate_erased m f)
gate_erased (app c m n) (gate_arg f) = gate_arg (gate_erased n f)
gate_erased (pair c m n) (gate_left f) = gate_left (gate_erased m f)
gate_erased (pair c m n) (gate_right f) = gate_right (gate_erased n f)
gate_erased (if_then_else c p m n) (gate_test f) = gate_test (gate_erased p f)
gate_erased (if_then_else c p m n) (gate_then f) = gate_then (gate_erased m f)
gate_erased (if_then_else c p m n) (gate_else f) = gate_else (gate_erased n f)
gate_erased (let_pair c m n) (gate_pair f) = gate_pair (gate_erased m f)
gate_erased (let_pair c m n) (gate_body f) = gate_body (gate_erased n f)

size_erased : {D : Type 0} (m : Term D) → size (erased m) ≡ size m
size_erased (var c y) = refl
size_erased (const c k) = refl
size_erased (star c) = refl
size_erased (lam c m) = let i = size_erased m in omega arith
size_erased (app c m n) = let i = size_erased m in let j = size_erased n in omega arith
size_erased (pair c m n) = let i = size_erased m in let j = size_erased n in omega arith
size_erased (if_then_else c p m n) = let h = size_erased p in let i = size_erased m in let j = size_erased n in omega arith
size_erased (let_pair c m n) = let i = size_erased m in let j = size_erased n in omega arith

loaded_names_none : {m : Term Ty} {t : Ty} → Derives Claimed empty m t → (h : ℕ) → Names (erased m) h → ⊥
loaded_names_none r h f = none_present refl (free_present (derives r) f)

-- What holds of a place, through all members.
abbrev pub KeptAt : {C : Type 0} → Option (Running × Ty) → Meaning C → Type 0
KeptAt None r = (length r.live ≡ 32) × ((h : ℕ) → Live r h → ⊥) × (r.capacity ≤ 32)
KeptAt (Some (m, a)) r = KeptTerm m a r

abbrev pub Kept : {C : Type 0} → Place C → Type 0
Kept p = KeptAt p.loaded p.register

pub kept_loaded : {C : Type 0} {p : Place C} {m : Running} {a : Ty} → p.loaded ≡ Some (m, a) → Kept p → KeptTerm m a p.register
kept_loaded {p = p} e k = subst (λ (o : Option (Running × Ty)). KeptAt o p.register) e k

top : {C : Type 0} (r : Meaning C) (o : Option (Running × Ty)) → KeptAt o r → r.capacity ≤ 32
top r None k = k.2
top r (Some (m, a)) k = k.top

module _ {C : Type 0} (changes : Changes C) where
  many : {j : ℕ} {p q : Place C} → Kept p → Many changes j p q → Kept q
  many k no_more = k
  many {p = p} k (one_more {m = m} {n = n} {a = a} {s = s} e x t rest) =
      many {p = running changes n a s} (stepped changes (kept_loaded e k) (λ y. x (37, too_long e (t.effect, n, t.reduces, y))) t) rest

  pub does : {p q : Place C} {x : Member} → Kept p → Does changes p x q → Kept q
  does k (refused f) = k
  does {p} k (loads {x = x} n) = go p.loaded refl k
    where
      made : (u : Gate) → NamesGate u (erased x.term) → (b : Bool) → p.register.makes u ≡ b → b ≡ true
      made u g true e = refl
      made u g false e = absurd (n (33, gate_not_made u (gate_erased x.term g) e))

      go : (o : Option (Running × Ty)) → p.loaded ≡ o → KeptAt o p.register → KeptTerm (erased x.term) (claim_of x.term) p.register
      go None e k = record {
        long = k.0;
        same = λ h. ((λ y. absurd (k.1 h y)), λ f. absurd (loaded_names_none x.accepted h f));
        typed = erasure_laws.starts x.term (claim_of x.term) x.accepted;
        short = let s = size_erased x.term in let t = x.short in omega arith;
        roomy = rw (counted_none p.register.live k.1) (omega arith);
        top = k.2;
        made = λ u g. made u g (p.register.makes u) refl;
      }
      go (Some (m, a)) e k = absurd (n (32, already_loaded e))
  does k (steps n t) = many k t
  does k (runs n l t s) = many k t
  does {p} k (collects n) = (refl, none_lit 32, top p.register p.loaded k)
  does {p} k (abandons n) = (refl, none_lit 32, top p.register p.loaded k)

  pub new : {p : Place C} → New changes p → Kept p
  new {p} n = subst (λ (o : Option (Running × Ty)). KeptAt o p.register) (sym n.nothing)
      (ap (λ r. length r.live) n.cleared, (λ h x. none_lit 32 h (subst (λ r. get_or r.live h false ≡ true) n.cleared x)), rw n.cleared n.small)

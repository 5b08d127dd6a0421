-- Every row is made, whatever the register answers, and sizes stay within their limits.
use Rattle.std.proofs.Common.{◌≡◌, ℕ, zero, suc, ◌<◌, ◌≤◌, Bool, true, false, ◌⊎◌, List, [], ◌∷◌, length, Some, None, Option, sym, refl, ap, ◌∙◌, subst, inl, inr, ⊎_elim, arith}
use native.Mathlib.Decide.{dec_le, dec_lt}
use Rattle.calculus.specs.declared.gates.Gate.{Gate}
use Rattle.calculus.specs.Types.{Ty}
use Rattle.calculus.specs.Terms.{gate, bit_of, meas, new as prepared, Term, var, const, star, lam, app, pair, if_then_else, let_pair, Running, size}
use Rattle.calculus.specs.Cells.{type_cells}
use Rattle.calculus.specs.Reduction.{Value}
use Rattle.calculus.specs.Safety.{Goes}
use Rattle.registers.specs.Meaning.{Meaning, Changes}
use Rattle.rows.specs.Members.{Program, NamesGate, gate_here, gate_lam, gate_fun, gate_arg, gate_left, gate_right, gate_test, gate_then, gate_else, gate_pair, gate_body, Member, load, step, run, collect, abandon}
use Rattle.rows.specs.Places.{Place}
use Rattle.rows.specs.Refusing.{most_cells, Holds, nothing_to_step, nothing_to_run, nothing_to_collect, nothing_to_abandon, already_loaded, gate_not_made, short_to_run, too_long, no_value_yet, short_to_collect, Refused}
use Rattle.rows.specs.Doing.{running, Many, no_more, one_more, Stops, at_value, at_budget, at_refusal, Does, refused, loads, runs, collects, abandons}
use Rattle.rows.specs.Rows.{Row, row_end, row_next, Reached, at_start, then_does}
use Rattle.rows.specs.Bounds.{Bounded, EveryPlaceIsBounded}
use Rattle.rows.specs.Making.{EveryRowIsMade, EveryAnswerIsServed}
use Rattle.rows.proofs.Lists.{lit_within, false_true, counted_none}
use Rattle.rows.proofs.Going.{no_value}
use Rattle.rows.proofs.Kept.{KeptTerm, KeptAt, Kept, kept_loaded, stepped, does, new}
use Rattle.rows.proofs.Sound.{same_term, same_type, some_none, at_each}
use Rattle.rows.proofs.Steps.{value_or_goes, step?, an_answer, a_step, is_served}

-- Sizes.
bounded : {C : Type 0} (p : Place C) → Kept p → Bounded p
bounded p k = go p.loaded refl k
  where
    go : (o : Option (Running × Ty)) → p.loaded ≡ o → KeptAt o p.register → Bounded p
    go None e k = record { long = k.0; live_count = rw (counted_none p.register.live k.1) (omega arith); capacity = k.2; fits = rw e tt }
    go (Some (m, a)) e k = record {
      long = k.long;
      live_count = k.roomy;
      capacity = k.top;
      fits = rw e (record {
        short = k.short;
        handles = λ h f. let z = lit_within p.register.live h ((k.same h).1 f) in let l = k.long in omega arith;
        gates = k.made;
      });
    }

pub every_place_is_bounded : (C : Type 0) → EveryPlaceIsBounded C
every_place_is_bounded C changes p xs ps n r = at_each changes Bounded bounded (new changes n) r

-- Whether a program names a gate that is not made.
abbrev pub Check : (Gate → Bool) → (Gate → Type 0) → Type 0
Check f P = ((u : Gate) × P u × (f u ≡ false)) ⊎ ((u : Gate) → P u → f u ≡ true)

join : {f : Gate → Bool} (P Q R : Gate → Type 0) → ((u : Gate) → P u → R u) → ((u : Gate) → Q u → R u) → ((u : Gate) → R u → P u ⊎ Q u) → Check f P → Check f Q → Check f R
join P Q R l r s (inl x) y = inl (x.0, l x.0 x.1, x.2)
join P Q R l r s (inr x) (inl y) = inl (y.0, r y.0 y.1, y.2)
join P Q R l r s (inr x) (inr y) = inr (λ u z. ⊎_elim (x u) (y u) (s u z))

here_check : {C : Type 0} {c : C} (f : Gate → Bool) (v : Gate) (b : Bool) → f v ≡ b → Check f (λ u. NamesGate u (const c (gate v)))
here_check f v true e = inr (λ u g. go u g)
  where
    go : {D : Type 0} {d : D} (u : Gate) → NamesGate u (const d (gate v)) → f u ≡ true
    go u gate_here = e
here_check f v false e = inl (v, gate_here, e)

of_lam : {u : Gate} {c : Ty} {m : Term Ty} → NamesGate u (lam c m) → NamesGate u m
of_lam (gate_lam g) = g

of_app : {u : Gate} {c : Ty} {m n : Term Ty} → NamesGate u (app c m n) → NamesGate u m ⊎ NamesGate u n
of_app (gate_fun g) = inl g
of_app (gate_arg g) = inr g

of_pair : {u : Gate} {c : Ty} {m n : Term Ty} → NamesGate u (pair c m n) → NamesGate u m ⊎ NamesGate u n
of_pair (gate_left g) = inl g
of_pair (gate_right g) = inr g

of_if : {u : Gate} {c : Ty} {p m n : Term Ty} → NamesGate u (if_then_else c p m n) → NamesGate u p ⊎ (NamesGate u m ⊎ NamesGate u n)
of_if (gate_test g) = inl g
of_if (gate_then g) = inr (inl g)
of_if (gate_else g) = inr (inr g)

of_let : {u : Gate} {c : Ty} {m n : Term Ty} → NamesGate u (let_pair c m n) → NamesGate u m ⊎ NamesGate u n
of_let (gate_pair g) = inl g
of_let (gate_body g) = inr g

pub check : (f : Gate → Bool) (m : Term Ty) → Check f (λ u. NamesGate u m)
check f (var c x) = inr (λ u g. elim g [ ])
check f (const c (bit_of b)) = inr (λ u g. elim g [ ])
check f (const c meas) = inr (λ u g. elim g [ ])
check f (const c prepared) = inr (λ u g. elim g [ ])
check f (const c (gate v)) = here_check f v (f v) refl
check f (star c) = inr (λ u g. elim g [ ])
check f (lam c m) = ⊎_elim (λ x. inl (x.0, gate_lam x.1, x.2)) (λ x. inr (λ u g. x u (of_lam g))) (check f m)
check f (app c m n) = join (λ u. NamesGate u m) (λ u. NamesGate u n) (λ u. NamesGate u (app c m n)) (λ u g. gate_fun g) (λ u g. gate_arg g) (λ u g. of_app g) (check f m) (check f n)
check f (pair c m n) = join (λ u. NamesGate u m) (λ u. NamesGate u n) (λ u. NamesGate u (pair c m n)) (λ u g. gate_left g) (λ u g. gate_right g) (λ u g. of_pair g) (check f m) (check f n)
check f (if_then_else c p m n) = join (λ u. NamesGate u p) (λ u. NamesGate u m ⊎ NamesGate u n) (λ u. NamesGate u (if_then_else c p m n)) (λ u g. gate_test g) (λ u. ⊎_elim gate_then gate_else) (λ u g. of_if g) (check f p)
    (join (λ u. NamesGate u m) (λ u. NamesGate u n) (λ u. NamesGate u m ⊎ NamesGate u n) (λ u. inl) (λ u. inr) (λ u g. g) (check f m) (check f n))
check f (let_pair c m n) = join (λ u. NamesGate u m) (λ u. NamesGate u n) (λ u. NamesGate u (let_pair c m n)) (λ u g. gate_pair g) (λ u g. gate_body g) (λ u g. of_let g) (check f m) (check f n)

module _ {C : Type 0} (changes : Changes C) where
  -- Runs.
  stops_more : {b k : ℕ} {q : Place C} → Stops changes b k q → Stops changes (suc b) (suc k) q
  stops_more (at_value e v) = at_value e v
  stops_more (at_budget e v q) = at_budget e v (ap suc q)
  stops_more (at_refusal e v l x) = at_refusal e v (omega arith) x

  abbrev MadeRun : ℕ → Place C → Type 0
  MadeRun b p = (k : ℕ) × (q : Place C) × (k ≤ b) × Many changes k p q × Stops changes b k q

  a_run : (b : ℕ) (p : Place C) {m : Running} {a : Ty} → p.loaded ≡ Some (m, a) → KeptTerm m a p.register → Value m ⊎ Goes m → MadeRun b p
  a_run b p e k (inl v) = (0, p, omega arith, no_more, at_value e v)
  a_run zero p e k (inr g) = (0, p, omega arith, no_more, at_budget e (no_value g) refl)
  a_run (suc b) p {m} {a} e k (inr g) = go (step? most_cells e k (inr g)) (λ n s k'. a_run b (running changes n a s) refl k' (value_or_goes k'))
    where
      go : Dec (Refused p (step most_cells)) → ((n : Running) (s : Meaning C) → KeptTerm n a s → MadeRun b (running changes n a s)) → MadeRun (suc b) p
      go (yes x) next = (0, p, omega arith, no_more, at_refusal e (no_value g) (omega arith) x)
      go (no x) next =
          let i = an_answer changes most_cells e k x in
          let t = a_step changes most_cells e k x i.0 i.1 i.2 i.3 in
          let c = next i.1 t.0 (stepped changes k (λ y. x (37, too_long e (i.0, i.1, i.2, y))) t.1) in
          let l = c.2 in
          (suc c.0, c.1, omega arith, one_more e x t.1 c.3, stops_more c.4)

-- Every member does something.
module _ {C : Type 0} (changes : Changes C) (p : Place C) where
  pub load_taken : {f : ℕ} {x : Program} → p.loaded ≡ None → ((u : Gate) → NamesGate u x.term → p.register.makes u ≡ true) → Holds p f (load x) → ⊥
  load_taken e g (already_loaded q) = some_none q e
  load_taken e g (gate_not_made u h q) = false_true (sym q ∙ g u h)

  pub run_taken : {f b w : ℕ} {y : Running × Ty} → p.loaded ≡ Some y → most_cells ≤ w → Holds p f (run b w) → ⊥
  run_taken e l (nothing_to_run q) = some_none e q
  run_taken e l (short_to_run q) = omega arith

  pub collect_taken : {f t k : ℕ} {m : Running} {a : Ty} → p.loaded ≡ Some (m, a) → Value m → (t < size m → ⊥) → (k < length (type_cells a) → ⊥) → Holds p f (collect t k) → ⊥
  collect_taken e v x y (nothing_to_collect q) = some_none e q
  collect_taken e v x y (no_value_yet q n) = n (subst Value (sym (same_term e q)) v)
  collect_taken {t = t} e v x y (short_to_collect q (inl l)) = x (subst (λ (z : Running). t < size z) (same_term e q) l)
  collect_taken {k = k} e v x y (short_to_collect q (inr l)) = y (subst (λ (z : Ty). k < length (type_cells z)) (same_type e q) l)

  pub abandon_taken : {f : ℕ} {y : Running × Ty} → p.loaded ≡ Some y → Holds p f abandon → ⊥
  abandon_taken e (nothing_to_abandon q) = some_none e q

  abbrev DoesSome : Member → Type 0
  DoesSome x = (q : Place C) × Does changes p x q

  loading : (x : Program) → (o : Option (Running × Ty)) → p.loaded ≡ o → DoesSome (load x)
  loading x None e = ⊎_elim (λ y. (p, refused (33, gate_not_made y.0 y.1 y.2))) (λ y. (_, loads (λ r. load_taken e y r.1))) (check p.register.makes x.term)
  loading x (Some (m, a)) e = (p, refused (32, already_loaded e))

  step_made : (w : ℕ) → (o : Option (Running × Ty)) → p.loaded ≡ o → KeptAt o p.register → DoesSome (step w)
  step_made w None e k = (p, refused (31, nothing_to_step e))
  step_made w (Some (m, a)) e k = go (step? w e k (value_or_goes k))
    where
      go : Dec (Refused p (step w)) → DoesSome (step w)
      go (yes x) = (p, refused x)
      go (no x) = let i = an_answer changes w e k x in let t = (is_served changes w e k x).every i.0 i.1 i.2 i.3 in (_, t.1)

  run_made : (b w : ℕ) → (o : Option (Running × Ty)) → p.loaded ≡ o → KeptAt o p.register → DoesSome (run b w)
  run_made b w None e k = (p, refused (31, nothing_to_run e))
  run_made b w (Some (m, a)) e k = go (dec_le most_cells w)
    where
      go : Dec (most_cells ≤ w) → DoesSome (run b w)
      go (yes l) = let c = a_run changes b p e k (value_or_goes k) in (c.1, runs (λ x. run_taken e l x.1) c.2 c.3 c.4)
      go (no x) = (p, refused (34, short_to_run (omega arith)))

  collect_made : (t c : ℕ) → (o : Option (Running × Ty)) → p.loaded ≡ o → KeptAt o p.register → DoesSome (collect t c)
  collect_made t c None e k = (p, refused (31, nothing_to_collect e))
  collect_made t c (Some (m, a)) e k = go (value_or_goes k) (dec_lt t (size m)) (dec_lt c (length (type_cells a)))
    where
      go : Value m ⊎ Goes m → Dec (t < size m) → Dec (c < length (type_cells a)) → DoesSome (collect t c)
      go (inr g) i j = (p, refused (38, no_value_yet e (no_value g)))
      go (inl v) (yes i) j = (p, refused (39, short_to_collect e (inl i)))
      go (inl v) (no i) (yes j) = (p, refused (39, short_to_collect e (inr j)))
      go (inl v) (no i) (no j) = (_, collects (λ x. collect_taken e v i j x.1))

  abandon_made : (o : Option (Running × Ty)) → p.loaded ≡ o → DoesSome abandon
  abandon_made None e = (p, refused (31, nothing_to_abandon e))
  abandon_made (Some (m, a)) e = (_, abandons (λ x. abandon_taken e x.1))

  made : Kept p → (x : Member) → DoesSome x
  made k (load x) = loading x p.loaded refl
  made k (step w) = step_made w p.loaded refl k
  made k (run b w) = run_made b w p.loaded refl k
  made k (collect t c) = collect_made t c p.loaded refl k
  made k abandon = abandon_made p.loaded refl

module _ {C : Type 0} (changes : Changes C) where
  a_row : (p : Place C) (xs : List Member) → Kept p → (ps : List (Place C)) × Row changes p xs ps
  a_row p [] k = (_, row_end)
  a_row p (x ∷ xs) k = let d = made changes p k x in let r = a_row d.0 xs (does changes k d.1) in (_, row_next d.1 r.1)

  pub reached : {p q : Place C} → Kept p → Reached changes p q → Kept q
  reached k at_start = k
  reached k (then_does r d) = does changes (reached k r) d

pub every_row_is_made : (C : Type 0) → EveryRowIsMade C
every_row_is_made C changes p xs n = a_row changes p xs (new changes n)

pub every_answer_is_served : (C : Type 0) → EveryAnswerIsServed C
every_answer_is_served C changes p q w m a n r e x = is_served changes w e (kept_loaded e (reached changes (new changes n) r)) x

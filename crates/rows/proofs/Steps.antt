-- A step that is not refused is made, whatever the register answers.
use Rattle.std.proofs.Common.{◌≡◌, ℕ, ◌≤◌, true, ◌⊎◌, List, [], ◌∷◌, Some, refl, subst, sym, inl, inr, ⊎_elim, arith}
use native.Mathlib.Decide.{ℕ_discrete, dec_le}
use Rattle.calculus.specs.Types.{Ty}
use Rattle.calculus.specs.Terms.{held, Running}
use Rattle.calculus.specs.Reduction.{Value, Effect, silent, prepares, reads, applies, Reduces}
use Rattle.calculus.specs.Names.{Names, In, Rising}
use Rattle.calculus.specs.Safety.{Goes, goes_silent, goes_prepare, goes_read, goes_gate}
use Rattle.calculus.proofs.Canonical.{progresses}
use Rattle.calculus.proofs.Ways.{free?, wires_qubits}
use Rattle.registers.specs.Meaning.{Meaning, Changes, counted}
use Rattle.registers.specs.Sheet.{Call}
use Rattle.rows.specs.Members.{step}
use Rattle.rows.specs.Places.{Place}
use Rattle.rows.specs.Asking.{Calls, asks}
use Rattle.rows.specs.Refusing.{most_cells, short_to_step, step_of_value, register_refuses, Refused}
use Rattle.rows.specs.Stepping.{Accepts, Acts, Steps}
use Rattle.rows.specs.Doing.{no_more, one_more, steps}
use Rattle.rows.specs.Making.{Possible, Served}
use Rattle.rows.proofs.Lists.{lit, in_lit, of_lit, rising_lit, dark}
use Rattle.rows.proofs.Kept.{KeptTerm, prepare_room}
use Rattle.rows.proofs.Sound.{only_want}
use Rattle.rows.proofs.Going.{no_value, overflows?, spends?, prepares?, or?, and?, as?}

-- The qubits that a step drops, in a rising list.
abbrev left_out : {A : Type 0} → Dec A → ℕ → List ℕ → List ℕ
left_out (yes a) h hs = hs
left_out (no n) h hs = h ∷ hs

abbrev unnamed : Running → List ℕ → List ℕ
unnamed n [] = []
unnamed n (h ∷ hs) = left_out (free? n (held h)) h (unnamed n hs)

of_unnamed : (n : Running) (h : ℕ) (hs : List ℕ) → In h (unnamed n hs) → In h hs × (Names n h → ⊥)
of_unnamed n h [] i = absurd i
of_unnamed n h (k ∷ hs) i = go (free? n (held k)) (of_unnamed n h hs) i
  where
    go : (d : Dec (Names n k)) → (In h (unnamed n hs) → In h hs × (Names n h → ⊥)) → In h (left_out d k (unnamed n hs)) → In h (k ∷ hs) × (Names n h → ⊥)
    go (yes a) f i = (inr (f i).0, (f i).1)
    go (no x) f (inl e) = (inl e, λ y. x (subst (Names n) e y))
    go (no x) f (inr i) = (inr (f i).0, (f i).1)

in_unnamed : (n : Running) (h : ℕ) (hs : List ℕ) → In h hs → (Names n h → ⊥) → In h (unnamed n hs)
in_unnamed n h [] i x = i
in_unnamed n h (k ∷ hs) i x = go (free? n (held k)) (λ j. in_unnamed n h hs j x) i
  where
    go : (d : Dec (Names n k)) → (In h hs → In h (unnamed n hs)) → In h (k ∷ hs) → In h (left_out d k (unnamed n hs))
    go (yes a) f (inl e) = absurd (x (subst (Names n) (sym e) a))
    go (yes a) f (inr i) = f i
    go (no y) f (inl e) = inl e
    go (no y) f (inr i) = inr (f i)

rising_unnamed : (n : Running) (hs : List ℕ) → Rising hs → Rising (unnamed n hs)
rising_unnamed n [] r = tt
rising_unnamed n (k ∷ hs) r = go (free? n (held k)) (rising_unnamed n hs r.1)
  where
    go : (d : Dec (Names n k)) → Rising (unnamed n hs) → Rising (left_out d k (unnamed n hs))
    go (yes a) f = f
    go (no x) f = ((λ j i. r.0 j (of_unnamed n j hs i).0), f)

pub value_or_goes : {C : Type 0} {m : Running} {a : Ty} {r : Meaning C} → KeptTerm m a r → Value m ⊎ Goes m
value_or_goes k = progresses (k.typed.1.no_binder, wires_qubits k.typed.1) k.typed.2

pub step? : {C : Type 0} {p : Place C} {m : Running} {a : Ty} (w : ℕ) → p.loaded ≡ Some (m, a) → KeptTerm m a p.register → Value m ⊎ Goes m → Dec (Refused p (step w))
step? w e k (inl v) = yes (35, step_of_value e v)
step? {C} {p} {m} w e k (inr g) = go (dec_le most_cells w)
  where
    go : Dec (most_cells ≤ w) → Dec (Refused p (step w))
    go (no x) = yes (34, short_to_step (omega arith))
    go (yes l) = as? (only_want e k w l (no_value g)) (or? (overflows? g) (or? (and? (spends? g) (ℕ_discrete p.register.pulses 0)) (and? (prepares? g) (dec_le p.register.capacity (counted p.register.live)))))

module _ {C : Type 0} (changes : Changes C) where
  acting : {m n : Running} (r : Meaning C) (e : Effect) → ((call : Call) → Calls m call → Accepts r call) → Reduces m e n → Possible r e → (s : Meaning C) × Acts changes r e s
  acting r silent f i p = (r, refl)
  acting r (prepares b h) f i p = (_, (f _ (asks i refl), p, refl))
  acting r (reads h b) f i p = (_, (f _ (asks i refl), refl))
  acting r (applies u hs) f i p = (_, (f _ (asks i refl), refl))

  stepping : {m n : Running} {a : Ty} {r : Meaning C} {e : Effect} → KeptTerm m a r → Reduces m e n → (s : Meaning C) × Acts changes r e s → (s : Meaning C) × Steps changes m r n s
  stepping {m} {n} {r = r} {e = e} k i s = (
    _,
    record {
      effect = e;
      reduces = i;
      between = s.0;
      acts = s.1;
      dropped = unnamed n (lit r.live);
      rising = rising_unnamed n (lit r.live) (rising_lit r.live);
      dropped_are = λ h. (
        (λ j. let q = of_unnamed n h (lit r.live) j in ((k.same h).0 (of_lit h r.live q.0), q.1)),
        λ q. in_unnamed n h (lit r.live) (in_lit h r.live ((k.same h).1 q.0)) q.1,
      );
      after = refl;
    },
  )

  -- A step that is not refused.
  module _ {q : Place C} {m : Running} {a : Ty} (w : ℕ) (e : q.loaded ≡ Some (m, a)) (k : KeptTerm m a q.register) (x : Refused q (step w) → ⊥) where
    going : Goes m
    going = ⊎_elim (λ v. absurd (x (35, step_of_value e v))) (λ g. g) (value_or_goes k)

    long_enough : most_cells ≤ w
    long_enough = go (dec_le most_cells w)
      where
        go : Dec (most_cells ≤ w) → most_cells ≤ w
        go (yes l) = l
        go (no n) = absurd (x (34, short_to_step (omega arith)))

    not_at_limit : Refused q (step most_cells) → ⊥
    not_at_limit y = x ((only_want e k w long_enough (no_value going)).1 ((only_want e k most_cells (omega arith) (no_value going)).0 y))

    accepts : (call : Call) → Calls m call → Accepts q.register call
    accepts call c reason h = x (_, register_refuses reason e c h)

    pub an_answer : (e : Effect) × (n : Running) × Reduces m e n × Possible q.register e
    an_answer = go going
      where
        go : Goes m → (e : Effect) × (n : Running) × Reduces m e n × Possible q.register e
        go (goes_silent r) = (silent, _, r, tt)
        go (goes_prepare b r) =
            let room = prepare_room q.register b (accepts _ (asks (r 0).1 refl)) in
            let l = k.long in let t = k.top in let c = room.1 in
            let d = dark q.register.live (omega arith) in
            let i = d.1 in (prepares b d.0, (r d.0).0, (r d.0).1, λ _ _. (omega arith, d.2))
        go (goes_read h n r) = (reads h true, _, (r true).1, tt)
        go (goes_gate u hs d n r) = (applies u hs, _, r, tt)

    pub a_step : (f : Effect) (n : Running) → Reduces m f n → Possible q.register f → (s : Meaning C) × Steps changes m q.register n s
    a_step f n i p = stepping k i (acting q.register f accepts i p)

    pub is_served : Served changes q w m a
    is_served = record {
      some = an_answer;
      every = λ f n i p. ((a_step f n i p).0, steps x (one_more e not_at_limit (a_step f n i p).1 no_more));
    }

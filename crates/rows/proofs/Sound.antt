-- What is kept is sound.
use Rattle.std.proofs.Common.{◌≡◌, ℕ, ◌≤◌, true, ◌⊎◌, List, Some, None, Option, sym, refl, ap, subst, inl, inr, arith}
use Rattle.calculus.specs.Types.{Ty}
use Rattle.calculus.specs.Terms.{Running}
use Rattle.calculus.specs.Reduction.{Value, Effect, Reduces}
use Rattle.calculus.specs.Safety.{Goes, goes_silent, goes_prepare, goes_read, goes_gate}
use Rattle.calculus.proofs.Canonical.{progress}
use Rattle.calculus.proofs.Ways.{no_way_names_twice}
use Rattle.registers.specs.declared.fault.RegisterReason.TheVariants.{NoPulses, Full}
use Rattle.registers.specs.Meaning.{Changes, counted}
use Rattle.registers.specs.Sheet.{Call}
use Rattle.rows.specs.Members.{Member, step}
use Rattle.rows.specs.Places.{Place}
use Rattle.rows.specs.Asking.{Calls, SpendsPulse, PreparesQubit, Overflows}
use Rattle.rows.specs.Refusing.{most_cells, Holds, nothing_to_step, short_to_step, step_of_value, no_rule, too_long, register_refuses, Refused}
use Rattle.rows.specs.Rows.{Row, row_end, row_next, AtEach}
use Rattle.rows.specs.Sound.{OnlyWantStops, SoundAt, Sound, EveryPlaceIsSound}
use Rattle.rows.proofs.Lists.{lit, in_lit, of_lit, distinct_lit, counted_lit, counted_none}
use Rattle.rows.proofs.Wants.{Want, wants}
use Rattle.rows.proofs.Kept.{KeptTerm, serves, KeptAt, Kept, does, new}

pub same_term : {o : Option (Running × Ty)} {m n : Running} {a b : Ty} → o ≡ Some (m, a) → o ≡ Some (n, b) → n ≡ m
same_term {m = m} {n = n} {a = a} {b = b} e f = let q : ◌≡◌ {A = Running × Ty} (n, b) (m, a) = cc in ap (λ (x : Running × Ty). x.0) q

pub same_type : {o : Option (Running × Ty)} {m n : Running} {a b : Ty} → o ≡ Some (m, a) → o ≡ Some (n, b) → b ≡ a
same_type {m = m} {n = n} {a = a} {b = b} e f = let q : ◌≡◌ {A = Running × Ty} (n, b) (m, a) = cc in ap (λ (x : Running × Ty). x.1) q

pub some_none : {o : Option (Running × Ty)} {x : Running × Ty} → o ≡ Some x → o ≡ None → ⊥
some_none e f = let z : ◌≡◌ {A = ℕ} 0 1 = cc in omega arith

goes_reduces : {m : Running} → Goes m → ((e : Effect) (n : Running) → Reduces m e n → ⊥) → ⊥
goes_reduces (goes_silent r) f = f _ _ r
goes_reduces (goes_prepare b r) f = f _ _ (r 0).1
goes_reduces (goes_read h x r) f = f _ _ (r true).1
goes_reduces (goes_gate u hs d x r) f = f _ _ r

-- a step of the term at the place is refused for want
abbrev pub Wanted : {C : Type 0} → Running → Place C → Type 0
Wanted m p = Overflows most_cells m ⊎ ((SpendsPulse m × (p.register.pulses ≡ 0)) ⊎ (PreparesQubit m × (p.register.capacity ≤ counted p.register.live)))

wanted : {C : Type 0} {m : Running} (p : Place C) (call : Call) → Calls m call → Want p.register call → Wanted m p
wanted p call c (inl x) = inr (inl ((call, c, x.0), x.1))
wanted p call c (inr x) = inr (inr ((call, c, x.0), x.1))

pub only_want : {C : Type 0} {p : Place C} {m : Running} {a : Ty} → p.loaded ≡ Some (m, a) → KeptTerm m a p.register → OnlyWantStops m p
only_want {p = p} {m = m} {a = a} e k w l n = ((λ x. why x.1), back)
  where
    why : {f : ℕ} → Holds p f (step w) → Wanted m p
    why (nothing_to_step q) = absurd (some_none e q)
    why (short_to_step q) = absurd (omega arith)
    why (step_of_value q v) = absurd (n (subst Value (same_term e q) v))
    why (no_rule q v r) = absurd (goes_reduces (progress m a k.typed n) (λ e' n' x. r e' n' (subst (λ (y : Running). Reduces y e' n') (sym (same_term e q)) x)))
    why (too_long q x) = inl (subst (Overflows most_cells) (same_term e q) x)
    why (register_refuses {call = call} reason q c h) = let d = subst (λ (y : Running). Calls y call) (same_term e q) c in wanted p call d (wants p.register (serves k) call reason d h)

    back : Wanted m p → Refused p (step w)
    back (inl x) = (37, too_long e x)
    back (inr (inl x)) = (41, register_refuses NoPulses e x.0.1 (x.0.2, x.1))
    back (inr (inr x)) = (42, register_refuses Full e x.0.1 (x.0.2, x.1))

pub sound : {C : Type 0} (p : Place C) → Kept p → Sound p
sound {C} p k = go p.loaded refl k
  where
    go : (o : Option (Running × Ty)) → p.loaded ≡ o → KeptAt o p.register → SoundAt o p
    go None e k = (k.1, counted_none p.register.live k.1)
    go (Some (m, a)) e k = (
      record {
        same = k.same;
        named = lit p.register.live;
        named_are = λ h. ((λ i. (k.same h).0 (of_lit h p.register.live i)), λ f. in_lit h p.register.live ((k.same h).1 f));
        named_once = distinct_lit p.register.live;
        counts = counted_lit p.register.live;
        no_way_twice = λ hs w. no_way_names_twice m a hs k.typed w;
      },
      k.typed,
      only_want e k,
    )

module _ {C : Type 0} (changes : Changes C) where
  pub at_each : {p : Place C} {xs : List Member} {ps : List (Place C)} (P : Place C → Type 0) → ((q : Place C) → Kept q → P q) → Kept p → Row changes p xs ps → AtEach P ps
  at_each {p} P f k row_end = (f p k, tt)
  at_each {p} P f k (row_next d r) = (f p k, at_each P f (does changes k d) r)

pub every_place_is_sound : (C : Type 0) → EveryPlaceIsSound C
every_place_is_sound C changes p xs ps n r = at_each changes Sound sound (new changes n) r

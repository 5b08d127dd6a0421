-- The first step of a run.
use Rattle.std.proofs.Common.{◌≡◌, ℕ, suc, ◌≤◌, ◌⊎◌, refl, inl, inr, arith}
use Rattle.calculus.specs.Types.{Ty}
use Rattle.calculus.specs.Terms.{Running}
use Rattle.registers.specs.Meaning.{Meaning, Changes}
use Rattle.rows.specs.Members.{step, run}
use Rattle.rows.specs.Places.{Place}
use Rattle.rows.specs.Refusing.{most_cells, Holds, nothing_to_run, short_to_run, Refused}
use Rattle.rows.specs.Doing.{running, Many, no_more, one_more, Stops, at_value, at_budget}
use Rattle.rows.specs.Doing.{at_refusal, Does, refused, steps, runs}
use Rattle.rows.specs.Runs.{StopsAtOnce, RunsAreSteps}
use Rattle.rows.proofs.Sound.{some_none}

module _ {C : Type 0} (changes : Changes C) where
  stays : {k : ℕ} {p q : Place C} → k ≤ 0 → Many changes k p q → q ≡ p
  stays l no_more = refl
  stays l (one_more e x t rest) = absurd (omega arith)

  none : (p q : Place C) (w : ℕ) → (Refused p (run 0 w) → ⊥) → Does changes p (run 0 w) q → q ≡ p
  none p q w n (refused x) = refl
  none p q w n (runs x l many stop) = stays l many

  at_once : {b : ℕ} {p : Place C} → Stops changes (suc b) 0 p → StopsAtOnce p
  at_once (at_value e v) = inl (_, _, e, v)
  at_once (at_budget e v q) = absurd (omega arith)
  at_once (at_refusal e v l x) = inr x

  one_less : {b k : ℕ} {q : Place C} → Stops changes (suc b) (suc k) q → Stops changes b k q
  one_less (at_value e v) = at_value e v
  one_less (at_budget e v q) = at_budget e v (omega arith)
  one_less (at_refusal e v l x) = at_refusal e v (omega arith) x

  still_taken : {p : Place C} {n : Running} {a : Ty} {s : Meaning C} {b w f : ℕ}
      → (Refused p (run (suc b) w) → ⊥) → Holds (running changes n a s) f (run b w) → ⊥
  still_taken x (nothing_to_run q) = some_none refl q
  still_taken x (short_to_run l) = x (34, short_to_run l)

  first : {b w k : ℕ} {p q : Place C} → (Refused p (run (suc b) w) → ⊥) → k ≤ suc b
      → Many changes k p q → Stops changes (suc b) k q
      → ((q ≡ p) × StopsAtOnce p)
      ⊎ ((r : Place C) × Does changes p (step most_cells) r × Does changes r (run b w) q)
  first x l no_more stop = inl (refl, at_once stop)
  first x l (one_more e y t rest) stop =
      inr (_, steps y (one_more e y t no_more), runs (λ z. still_taken x z.1) (omega arith) rest (one_less stop))

  more : (p q : Place C) (b w : ℕ) → (Refused p (run (suc b) w) → ⊥) → Does changes p (run (suc b) w) q
      → ((q ≡ p) × StopsAtOnce p)
      ⊎ ((r : Place C) × Does changes p (step most_cells) r × Does changes r (run b w) q)
  more p q b w n (refused x) = absurd (n x)
  more p q b w n (runs x l many stop) = first n l many stop

pub runs_are_steps : (C : Type 0) → RunsAreSteps C
runs_are_steps C = record { none = none; more = more }

-- A run is its steps.
use Rattle.std.specs.Prelude.{◌≡◌, ℕ, suc, ◌⊎◌}
use Rattle.calculus.specs.Types.{Ty}
use Rattle.calculus.specs.Terms.{Running}
use Rattle.calculus.specs.Reduction.{Value}
use Rattle.registers.specs.Meaning.{Changes}
use Rattle.rows.specs.Members.{step, run}
use Rattle.rows.specs.Places.{Place}
use Rattle.rows.specs.Refusing.{most_cells, Runs, Refused}
use Rattle.rows.specs.Doing.{Does}

-- the term is a value, or its step is refused
abbrev pub StopsAtOnce : {C : Type 0} → Place C → Type 0
StopsAtOnce p =
    ((m : Running) × (a : Ty) × Runs p m a × Value m) ⊎ Refused p (step most_cells)

-- A run of no budget stays where it is. One of more stays only where it stops at once. Else it is a
-- step and a run of one less.
pub record RunsAreSteps (C : Type 0) : Type 0 where
  pub none : (changes : Changes C) (p q : Place C) (w : ℕ)
      → (Refused p (run 0 w) → ⊥) → Does changes p (run 0 w) q → q ≡ p
  pub more : (changes : Changes C) (p q : Place C) (b w : ℕ)
      → (Refused p (run (suc b) w) → ⊥) → Does changes p (run (suc b) w) q
      → ((q ≡ p) × StopsAtOnce p)
      ⊎ ((r : Place C) × Does changes p (step most_cells) r × Does changes r (run b w) q)

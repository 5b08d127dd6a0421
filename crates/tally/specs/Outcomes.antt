-- How a shot ended, as it is tallied.
use Rattle.std.specs.Prelude.{◌≡◌, ℕ, ◌+◌, ◌-◌, ◌^◌, min, Bool, true, false, if◌then◌else◌}
use Rattle.std.specs.BTreeMap.{BTreeMap, get, is_at, IsUnchanged}
use Rattle.std.specs.Option.{unwrap_or}
use Rattle.std.specs.declared.cmp.Ordering.{Ordering}
use Rattle.controller.specs.Faults.{fault_number}
use Rattle.controller.specs.declared.faults.Stop.{Stop}
use Rattle.controller.specs.declared.faults.Stop.TheVariants.{Value, Budget, Refused as StepRefused}
use Rattle.listing.specs.declared.shots.Shot.{Shot}
use Rattle.listing.specs.declared.shots.Shot.TheVariants.{Refused, Ran}
use Rattle.tally.specs.declared.Outcome.{Outcome}
use Rattle.tally.specs.declared.Outcome.TheVariants.{ShotValue, ShotBudget, ShotRefused}
use Rattle.tally.specs.declared.Outcome.TheVariants.{CheckAccepted, CheckRefused}
use Rattle.tally.specs.declared.Outcome.TheVariants.{FindValue, FindRule, FindRefused}

-- a run at a value, at a spent budget, or refused by a number
abbrev pub stopped : Stop → Outcome
stopped Value = ShotValue
stopped Budget = ShotBudget
stopped (StepRefused fault steps) = ShotRefused (fault_number fault)

-- the number that a shot was refused by, or else how its run ended
abbrev pub outcome_of : Shot → Outcome
outcome_of (Refused number place) = ShotRefused number
outcome_of (Ran steps stop value kinds journal) = stopped stop

-- the outcome is that of a shot
abbrev pub is_shot : Outcome → Bool
is_shot ShotValue = true
is_shot ShotBudget = true
is_shot (ShotRefused number) = true
is_shot CheckAccepted = false
is_shot (CheckRefused number) = false
is_shot FindValue = false
is_shot FindRule = false
is_shot (FindRefused number) = false

-- one more where the test holds, as far as a count goes
abbrev pub counted : Bool → ℕ → ℕ
counted test n = if test then min (n + 1) (2 ^ 64 - 1) else n

module _ (compare : Outcome → Outcome → Ordering) where
  -- how often both came to an outcome: 0 of one that is not listed
  abbrev pub count_of : BTreeMap Outcome ℕ → Outcome → ℕ
  count_of agreements outcome = unwrap_or (get compare agreements outcome) 0

  -- one more of this outcome, and as many as before of each other
  pub record CountsOne (old new : BTreeMap Outcome ℕ) (outcome : Outcome) : Type 0 where
    pub this_outcome : count_of new outcome ≡ counted true (count_of old outcome)
    pub other_outcomes : (other : Outcome) → is_at (compare outcome) other ≡ false
        → count_of new other ≡ count_of old other

-- one more of this outcome where the test holds, and else as many as before of each
abbrev pub CountsOneIf : Bool → (Outcome → Outcome → Ordering)
    → BTreeMap Outcome ℕ → BTreeMap Outcome ℕ → Outcome → Type 0
CountsOneIf true compare old new outcome = CountsOne compare old new outcome
CountsOneIf false compare old new outcome = IsUnchanged old new

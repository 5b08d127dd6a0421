-- The steps of a row since its last load.
use Rattle.std.specs.Prelude.{ℕ, ◌+◌, min}
use Rattle.controller.specs.Stepping.{most_steps}
use Rattle.registers.specs.Meaning.{Changes}
use Rattle.rows.specs.Members.{Member}
use Rattle.rows.specs.Places.{Place}
use Rattle.rows.specs.Doing.{Does, refused, loads, steps, runs, collects, abandons}
use Rattle.rows.specs.Rows.{Reached, at_start, then_does}

-- a count of steps after so many more, which stops at its last number
abbrev pub later : ℕ → ℕ → ℕ
later made more = min (made + more) most_steps

module _ {C : Type 0} {changes : Changes C} where
  -- the count of the steps since the load after a member, by what it does
  abbrev pub counted_on : ℕ → {p q : Place C} {x : Member} → Does changes p x q → ℕ
  counted_on n (refused f) = n
  counted_on n (loads f) = 0
  counted_on n (steps f m) = later n 1
  counted_on n (runs {k = k} f l m s) = later n k
  counted_on n (collects f) = 0
  counted_on n (abandons f) = 0

  -- the accepted steps of a row since its last accepted load, as long as that is loaded
  abbrev pub steps_since_load : {p q : Place C} → Reached changes p q → ℕ
  steps_since_load at_start = 0
  steps_since_load (then_does r d) = counted_on (steps_since_load r) d

-- Each row of the sheet of refusals, at a place where it is the one that answers; and that a member
-- that is refused changes nothing.
use Rattle.std.specs.Prelude.{◌≡◌, Bool, List, Some, None}
use Rattle.calculus.specs.declared.gates.Gate.TheVariants.{H}
use Rattle.calculus.specs.Types.{bit, qbit, arrow}
use Rattle.calculus.specs.Terms.{new, gate, const, app}
use Rattle.registers.specs.Meaning.{Changes, none_live}
use Rattle.rows.specs.Members.{Program, Member, load, step, run, collect, abandon}
use Rattle.rows.specs.Places.{Place}
use Rattle.rows.specs.Refusing.{Refused, Answers}
use Rattle.rows.specs.Doing.{Does}
use Rattle.rows.specs.Sample.{place_with, start}
use Rattle.rows.specs.Unsound.{zero_bit}

-- a refused member leads to the place where it was made
abbrev pub RefusedStays : Type 0 → Type 0
RefusedStays C =
    (changes : Changes C) (p q : Place C) (x : Member)
    → Does changes p x q → Refused p x → q ≡ p

-- places at which a value runs, a term that goes on, and one without a rule
abbrev pub at_value : Place (List Bool)
at_value = place_with (Some (zero_bit, bit)) none_live 1 none_live

abbrev pub going : Place (List Bool)
going = place_with (Some (app tt (const tt new) zero_bit, qbit)) none_live 1 none_live

abbrev pub stuck : Place (List Bool)
stuck = place_with (Some (app tt zero_bit zero_bit, bit)) none_live 1 none_live

-- The row that answers, by its number. A row is missed here, 37, and the register's.
pub record SampleRefusals : Type 0 where
  pub nothing_to_step : Answers start (step 1024) (Some 31)
  pub nothing_to_run : Answers start (run 1 1024) (Some 31)
  pub nothing_to_collect : Answers start (collect 1 1) (Some 31)
  pub nothing_to_abandon : Answers start abandon (Some 31)
  pub already_loaded : (x : Program) → Answers at_value (load x) (Some 32)
  pub gate_not_made : (x : Program) → x.term ≡ const (arrow qbit qbit) (gate H)
      → Answers start (load x) (Some 33)
  pub short_to_step : Answers at_value (step 1023) (Some 34)
  pub short_to_run : Answers at_value (run 1 1023) (Some 34)
  pub step_of_value : Answers at_value (step 1024) (Some 35)
  pub no_rule : Answers stuck (step 1024) (Some 36)
  pub no_value_yet : Answers going (collect 9 9) (Some 38)
  pub short_of_cells : Answers at_value (collect 0 1) (Some 39)
  pub short_of_kinds : Answers at_value (collect 1 0) (Some 39)
  pub collected : Answers at_value (collect 1 1) None

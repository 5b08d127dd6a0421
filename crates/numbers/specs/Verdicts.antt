-- What calls answer in numbers.
use Rattle.std.specs.Prelude.{ℕ, replicate, List, Some, None, Ok, Err, Option, Result}
use Rattle.calculus.specs.Cells.{blank}
use Rattle.calculus.specs.declared.cells.TypeCell.{TypeCell}
use Rattle.calculus.specs.declared.limits.TheConstants.{MOST_TYPE_CELLS, MOST_TERM_CELLS}
use Rattle.controller.specs.declared.faults.Refusal.{Refusal}
use Rattle.controller.specs.Faults as controller
use Rattle.finder.specs.declared.faults.FindFault.{FindFault}
use Rattle.finder.specs.declared.rules.Rule.{Rule}
use Rattle.finder.specs.declared.rules.Rule.TheVariants.{Function, Pair, Then, Else}
use Rattle.finder.specs.declared.rules.Rule.TheVariants.{Prepare, Read, Gates}
use Rattle.finder.specs.Faults as finder
use Rattle.reader.specs.declared.faults.ReadFault.{ReadFault}
use Rattle.reader.specs.Faults.{number_of}
use Rattle.reader.specs.Reading.{Outcome, reading}
use Rattle.verdict.specs.Faults as verdict
use Rattle.verdict.specs.declared.faults.CheckFault.{CheckFault}
use Rattle.numbers.specs.declared.answers.Verdict.{Verdict}

-- an accepted call that has nothing more to tell
abbrev pub acceptance : Verdict
acceptance = record { number = 0; rule = 0; place = 0; steps = 0; type_cells = 0; term_cells = 0 }

abbrev pub refusal : ℕ → ℕ → Verdict
refusal number place = record acceptance { number = number; place = place }

-- the fault and its cell
abbrev pub check_refusal : CheckFault → Verdict
check_refusal f = refusal (verdict.number_of f.reason) f.cell

abbrev pub find_refusal : FindFault → Verdict
find_refusal f = refusal (finder.number_of f.reason) f.cell

-- the fault and its line
abbrev pub read_refusal : ReadFault → Verdict
read_refusal f = refusal (number_of f.reason) f.line

-- the fault and where it is
abbrev pub call_refusal : Refusal → Verdict
call_refusal r = refusal (controller.fault_number r.fault) r.place

-- a new table of as many kinds as a program may have
abbrev pub fresh_kinds : List TypeCell
fresh_kinds = replicate MOST_TYPE_CELLS (record { kind = 0 })

-- a read into new tables, of as many kinds and ops as a program may have
abbrev pub fresh_reading : List ℕ → Outcome
fresh_reading text = reading text fresh_kinds (replicate MOST_TERM_CELLS blank)

-- both counts, or the fault and its line
abbrev pub verdict_of : Result (ℕ × ℕ) ReadFault → Verdict
verdict_of (Ok n) = record acceptance { type_cells = n.0; term_cells = n.1 }
verdict_of (Err f) = read_refusal f

-- nothing, or the fault and its cell
abbrev pub checked : Result (Unit {0}) CheckFault → Verdict
checked (Ok u) = acceptance
checked (Err f) = check_refusal f

-- the rules by their numbers, from 1 on
abbrev pub rule_number : Rule → ℕ
rule_number Function = 1
rule_number Pair = 2
rule_number Then = 3
rule_number Else = 4
rule_number Prepare = 5
rule_number Read = 6
rule_number Gates = 7

-- the rule and the cell it applies at
abbrev pub rule_at : Rule × ℕ → Verdict
rule_at r = record acceptance { rule = rule_number r.0; place = r.1 }

-- the same, nothing for a value, or the fault and its cell
abbrev pub located : Result (Option (Rule × ℕ)) FindFault → Verdict
located (Ok None) = acceptance
located (Ok (Some r)) = rule_at r
located (Err f) = find_refusal f

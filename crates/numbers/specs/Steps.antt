-- One step in numbers.
use Rattle.std.specs.Prelude.{ℕ, List, Some, None, Ok, Err, Option, Result}
use Rattle.calculus.specs.declared.cells.TermCell.{TermCell}
use Rattle.controller.specs.declared.faults.ControllerFault.TheVariants.{AtValue, TooLong}
use Rattle.controller.specs.Faults.{fault_number}
use Rattle.finder.specs.declared.faults.FindFault.{FindFault}
use Rattle.finder.specs.declared.rules.Rule.{Rule}
use Rattle.stepper.specs.declared.writing.Answer.{Answer}
use Rattle.stepper.specs.Next.{next_cells}
use Rattle.stepper.specs.Writing.{counted, fronted}
use Rattle.numbers.specs.declared.answers.Verdict.{Verdict}
use Rattle.numbers.specs.Verdicts.{refusal, rule_at, find_refusal}

-- the rule, its cell and how many cells the next term has, unless they are too many
abbrev pub counted_at : Rule × ℕ → Option ℕ → Verdict
counted_at r None = refusal (fault_number TooLong) r.1
counted_at r (Some n) = record (rule_at r) { term_cells = n }

-- the verdict on the step that the finder's answer leads to, with a register's answer; there is
-- none from a value
abbrev pub stepped : List TermCell → Answer → Result (Option (Rule × ℕ)) FindFault → Verdict
stepped cs answer (Ok None) = refusal (fault_number AtValue) 0
stepped cs answer (Ok (Some r)) = counted_at r (counted (next_cells cs r.0 r.1 answer))
stepped cs answer (Err f) = find_refusal f

-- a table to which the next term is written, if there is one
abbrev pub stepped_in : List TermCell → Answer → List TermCell
    → Result (Option (Rule × ℕ)) FindFault → List TermCell
stepped_in cs answer work (Ok None) = work
stepped_in cs answer work (Ok (Some r)) = fronted (next_cells cs r.0 r.1 answer) work
stepped_in cs answer work (Err f) = work

-- One step, with a register's answer as a number.
use Rattle.std.specs.Prelude.{ℕ, true, false, cond, nat_eq, nat_lt}
use Rattle.std.specs.Prelude.{replicate, List, Some, None, Ok, Err, Option, Result}
use Rattle.calculus.specs.Cells.{blank}
use Rattle.calculus.specs.declared.cells.TermCell.{TermCell}
use Rattle.calculus.specs.declared.limits.TheConstants.{MOST_RUNNING_CELLS}
use Rattle.finder.specs.declared.faults.FindFault.{FindFault}
use Rattle.finder.specs.declared.rules.Rule.{Rule}
use Rattle.stepper.specs.declared.writing.Answer.{Answer}
use Rattle.stepper.specs.declared.writing.Answer.TheVariants.{Nothing, Handle, Outcome}
use Rattle.stepper.specs.Next.{next_cells}
use Rattle.stepper.specs.Writing.{counted, fronted}
use Rattle.exported.specs.declared.stepping.TheConstants.{NOTHING, ZERO, ONE}
use Rattle.numbers.specs.declared.tables.Node.{Node}
use Rattle.numbers.specs.Cells.{node_of, handed}

-- a register's answer by its number: a handle, nothing, or one of the two outcomes
abbrev pub answer_of : ℕ → Answer
answer_of n =
    cond (nat_lt n NOTHING) (Handle n)
    (cond (nat_eq n ZERO) (Outcome false)
    (cond (nat_eq n ONE) (Outcome true) Nothing))

-- a table of nodes to which the next term is handed back, in the front of a new table, if there is
-- one
abbrev pub counted_to : List TermCell → List Node → Option ℕ → List Node
counted_to next to None = to
counted_to next to (Some n) = handed node_of (fronted next (replicate MOST_RUNNING_CELLS blank)) to

abbrev pub stepped_to : List TermCell → Answer → List Node
    → Result (Option (Rule × ℕ)) FindFault → List Node
stepped_to cs answer to (Ok None) = to
stepped_to cs answer to (Ok (Some r)) =
    counted_to (next_cells cs r.0 r.1 answer) to (counted (next_cells cs r.0 r.1 answer))
stepped_to cs answer to (Err f) = to

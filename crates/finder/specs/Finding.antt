-- The finder's answer: the tests of cells that may be a running term, and then what the term that
-- they are waits for.
use Rattle.std.specs.Prelude.{ℕ, cond, List, length, Some, None, Ok, Err, Option, Result, nat_lt}
use Rattle.calculus.specs.declared.limits.TheConstants.{MOST_RUNNING_CELLS}
use Rattle.trees.specs.Failing.{first_failing, none_at}
use Rattle.trees.specs.Reach.{not_one_tree}
use Rattle.calculus.specs.Letters.{allowed, arity}
use Rattle.calculus.specs.Terms.{erased}
use Rattle.calculus.specs.Reading.{term_at}
use Rattle.calculus.specs.declared.cells.TermCell.{TermCell}
use Rattle.finder.specs.Faults.{fault}
use Rattle.finder.specs.Search.{Found, found}
use Rattle.finder.specs.declared.rules.Rule.{Rule}
use Rattle.finder.specs.declared.faults.FindFault.{FindFault}
use Rattle.finder.specs.declared.faults.FindReason.TheVariants.{TooManyCells, BadCell, NotWhole}
use Rattle.finder.specs.declared.faults.FindReason.TheVariants.{NoRule}

-- the tests of cells that may be a running term: not too many, each allowed, exactly one tree
abbrev pub tested : List TermCell → Result (Unit {0}) FindFault
tested cs =
    cond (nat_lt MOST_RUNNING_CELLS (length cs))
    (Err (fault TooManyCells MOST_RUNNING_CELLS))
    (none_at (fault BadCell) (first_failing allowed cs 0)
    (none_at (fault NotWhole) (not_one_tree arity cs) (Ok tt)))

-- the answer for a term that waits for this
abbrev pub told : Found → Result (Option (Rule × ℕ)) FindFault
told None = Ok None
told (Some (k, Some r)) = Ok (Some (r, k))
told (Some (k, None)) = Err (fault NoRule k)

abbrev pub past_tests : List TermCell → Result (Unit {0}) FindFault
    → Result (Option (Rule × ℕ)) FindFault
past_tests cs (Ok u) = told (found 0 (erased (term_at cs 0)))
past_tests cs (Err f) = Err f

abbrev pub answer : List TermCell → Result (Option (Rule × ℕ)) FindFault
answer cs = past_tests cs (tested cs)

abbrev pub end_or : ℕ → Option ℕ → ℕ
end_or at None = at
end_or at (Some e) = e

-- The tests of whole tables, types before terms, each with the first cell at fault.
use Rattle.std.specs.Prelude.{ℕ, Bool, not, ◌&&◌, List, length, Ok, ◌==◌, nat_le, nat_lt}
use Rattle.calculus.specs.Alphabet.{op_qubit}
use Rattle.calculus.specs.declared.limits.TheConstants.{MOST_TYPE_CELLS, MOST_TERM_CELLS}
use Rattle.trees.specs.Failing.{first_failing, none_at}
use Rattle.trees.specs.Reach.{not_one_tree}
use Rattle.trees.specs.Whole.{whole}
use Rattle.calculus.specs.Letters.{allowed, arity, kind_arity}
pub use Rattle.calculus.specs.Letters.{known_kind}
use Rattle.calculus.specs.declared.cells.TypeCell.{TypeCell}
use Rattle.calculus.specs.declared.cells.TermCell.{TermCell}
use Rattle.verdict.specs.Faults.{Verdict, fault, must}
use Rattle.verdict.specs.declared.faults.CheckReason.TheVariants.{TooManyCells, BadCell}
use Rattle.verdict.specs.declared.faults.CheckReason.TheVariants.{NotWhole, ClaimOutside}

-- a cell that may stand in a program: q, the name of a qubit, may not
abbrev pub storable : TermCell → Bool
storable c = allowed c && not (c.op == op_qubit)

abbrev pub claim_in : ℕ → TermCell → Bool
claim_in n c = nat_lt c.claim n

abbrev pub tables_tested : List TypeCell → List TermCell → Verdict
tables_tested types terms =
    must (nat_le (length types) MOST_TYPE_CELLS) (fault TooManyCells MOST_TYPE_CELLS)
    (must (nat_le (length terms) MOST_TERM_CELLS) (fault TooManyCells MOST_TERM_CELLS)
    (none_at (fault BadCell) (first_failing known_kind types 0)
    (none_at (fault BadCell) (first_failing storable terms 0)
    (must (whole kind_arity types) (fault NotWhole 0)
    (none_at (fault NotWhole) (not_one_tree arity terms)
    (none_at (fault ClaimOutside) (first_failing (claim_in (length types)) terms 0) (Ok tt)))))))

use Rattle.std.proofs.Common.{◌≡◌, ◌≤◌, ◌++◌, List, length, true}
use Rattle.trees.specs.Whole.{height, whole}
use Rattle.trees.proofs.count.Given as goal

-- the cells that were seen are whole trees
abbrev pub invariant-loop-cell : goal.invariant-loop-cell
invariant-loop-cell g l =
    (seen : List g.row.T.Denot)
    × (l.cells ≡ l.cell-iterator.iter.rest.now ++ seen)
    × (l.trees ≡ height g.T.Cell.arity seen)
    × (whole g.T.Cell.arity seen ≡ true)
    × (l.trees ≤ length seen)

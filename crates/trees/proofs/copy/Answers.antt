use Rattle.std.proofs.Common.{arith}
use Rattle.trees.proofs.Ends.{end_within}
use Rattle.trees.proofs.copy.Goals as goal

pub overflow_sub-len : goal.overflow_sub-len
overflow_sub-len g c = (end_within g.T.Cell.arity c.args.cells.now c.args.at c.in_ok-len.field-0 c.in_ok-len.ensures).0

pub slice_bounds-copy_from_slice-end-3 : goal.slice_bounds-copy_from_slice-end-3
slice_bounds-copy_from_slice-end-3 g c =
    let w = end_within g.T.Cell.arity c.args.cells.now c.args.at c.in_ok-len.field-0 c.in_ok-len.ensures in
    omega arith

use Rattle.std.proofs.Common.{map, take}
use Rattle.listing.specs.Listing.{op_line}
use Rattle.listing.specs.Writing.{Appends}
use Rattle.listing.proofs.lines.push_ops.Given as goal

abbrev pub invariant-loop-cell : goal.invariant-loop-cell
invariant-loop-cell l = Appends l.fn.out l.out (map op_line (take l.cell-index l.value))

use Rattle.std.proofs.Common.{◌≡◌, ◌++◌, replicate}
use Rattle.calculus.specs.Cells.{kind_cell}
use Rattle.kinds.proofs.+write_kind.Given as goal

abbrev pub invariant-loop : goal.invariant-loop
invariant-loop l = l.cells.items ≡ l.initial.cells.items ++ replicate l.counter (kind_cell 33)

use Rattle.std.proofs.Common.{◌≡◌, ◌++◌, map, take, drop}
use Rattle.controller.specs.Shots.{claiming_nothing}
use Rattle.controller.proofs.loading.forget_claims.Given as goal

abbrev pub invariant-loop-cell : goal.invariant-loop-cell
invariant-loop-cell l = l.cell-items ≡ map claiming_nothing (take l.cell-index l.initial.cell-items) ++ drop l.cell-index l.initial.cell-items

use Rattle.std.proofs.Common.{◌≡◌, ◌+◌, ◌<◌, drop}
use Rattle.trees.specs.Reach.{ends}
use Rattle.trees.proofs.reach.Given as goal

abbrev pub invariant-loop-i : goal.invariant-loop-i
invariant-loop-i g l = (0 < l.due) × (ends g.T.Cell.arity l.due (drop l.i l.rest) (l.at + l.i) ≡ ends g.T.Cell.arity 1 (drop l.at l.cells) l.at)

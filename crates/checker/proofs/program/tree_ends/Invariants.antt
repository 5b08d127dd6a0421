use Rattle.std.proofs.Common.{◌≡◌, ◌≤◌, length}
use Rattle.checker.specs.Ending.{EndsFrom}
use Rattle.checker.proofs.program.tree_ends.Given as goal

abbrev pub invariant-loop-i : goal.invariant-loop-i
invariant-loop-i l = (length l.ends ≡ 512) × ((l.i ≤ length l.terms) × EndsFrom l.i l.terms l.ends)

use Rattle.std.proofs.Common.{◌≤◌}
use Rattle.termview.proofs.layout.best_break.Given as goal

abbrev pub invariant-loop-at : goal.invariant-loop-at
invariant-loop-at l = (1 ≤ l.best) × (l.best ≤ l.room)

use Rattle.std.proofs.Common.{◌≡◌}
use Rattle.numbers.specs.Cells.{fronted_by}
use Rattle.numbers.proofs.tables.hand_back.Given as goal

abbrev pub invariant-loop-i : goal.invariant-loop-i
invariant-loop-i g l = (f : g.row.X.Denot → g.row.Y.Denot) → ((x : g.row.X.Denot) (y : g.row.Y.Denot) → goal.F-post g l.turned x y → y ≡ f x) → l.values ≡ fronted_by l.i f l.cells l.initial.values

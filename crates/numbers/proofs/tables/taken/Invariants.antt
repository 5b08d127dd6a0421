use Rattle.std.proofs.Common.{◌≡◌, ◌≤◌, ◌+◌, ◌++◌, map, take, length}
use Rattle.numbers.proofs.tables.taken.Given as goal

abbrev pub invariant-loop-value : goal.invariant-loop-value
invariant-loop-value g l =
    let i = l.value-iterator in
    (length l.cells.items + i.n ≤ g.row.ROOM)
    × ((f : g.row.X.Denot → g.row.Y.Denot) → ((x : g.row.X.Denot) (y : g.row.Y.Denot) → goal.F-post g l.turned x y → y ≡ f x) → map f (take g.row.ROOM l.values) ≡ l.cells.items ++ map f (take i.n i.iter.rest.now))

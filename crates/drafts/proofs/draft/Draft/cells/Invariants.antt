use Rattle.std.proofs.Common.{◌≡◌, ◌++◌, map, take}
use Rattle.drafts.specs.Cells.{term_cell}
use Rattle.drafts.proofs.draft.Draft.cells.Given as goal

abbrev pub invariant-loop-op : goal.invariant-loop-op
invariant-loop-op l = (l.self.types ≡ l.initial.self.types) × (l.self.terms.items ≡ l.initial.self.terms.items ++ map term_cell (take l.op-index l.cells))

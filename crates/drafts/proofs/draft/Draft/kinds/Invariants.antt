use Rattle.std.proofs.Common.{◌≡◌, ◌++◌, map}
use Rattle.calculus.specs.Cells.{kind_cell}
use Rattle.drafts.proofs.draft.Draft.kinds.Given as goal

abbrev pub invariant-loop-kind : goal.invariant-loop-kind
invariant-loop-kind l = (l.self.terms ≡ l.initial.self.terms) × (l.self.types.items ≡ l.initial.self.types.items ++ map kind_cell l.yielded)

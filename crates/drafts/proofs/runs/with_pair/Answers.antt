use Rattle.std.proofs.Common.{List, ◌++◌, ap₂, ◌∙◌}
use Rattle.calculus.specs.declared.cells.TypeCell.{TypeCell}
use Rattle.drafts.proofs.Programs.{pair_cells}
use Rattle.drafts.proofs.runs.with_pair.Goals as goal

pub returns-clause-types : goal.returns-clause-types
returns-clause-types c = c.in_ok-kinds.ensures.types ∙ ap₂ (λ (cs ds : List TypeCell). cs ++ ds) c.in_ok-draft.ensures.types pair_cells

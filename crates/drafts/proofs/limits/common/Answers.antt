use Rattle.std.proofs.Common.{List, ◌++◌, ap, ◌∙◌}
use Rattle.calculus.specs.declared.cells.TypeCell.{TypeCell}
use Rattle.drafts.proofs.Programs.{common_cells}
use Rattle.drafts.proofs.limits.common.Goals as goal

pub returns-clause-types : goal.returns-clause-types
returns-clause-types c = c.in_ok-kinds.ensures.types ∙ ap (λ (cs : List TypeCell). cs ++ _) c.new-draft.ensures.0 ∙ common_cells

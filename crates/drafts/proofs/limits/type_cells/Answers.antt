use Rattle.std.proofs.Common.{List, ℕ, map, ap, ◌∙◌}
use Rattle.std.specs.Str.{chars}
use Rattle.calculus.specs.Cells.{kind_cell}
use Rattle.drafts.proofs.Programs.{if_ok, bit_letters}
use Rattle.drafts.proofs.limits.type_cells.Goals as goal

pub returns-clause-types : goal.returns-clause-types
returns-clause-types c =
    if_ok c.bit.result (λ d e. e ∙ ap (λ (bs : List ℕ). map kind_cell (chars bs)) (c.deref.ensures ∙ c.in_ok-repeat.ensures.bytes) ∙ bit_letters c.args.cells) c.bit.ensures.types

use Rattle.std.proofs.Common.{◌≡◌, map, refl, ◌∙◌, rules}
use Rattle.std.specs.Prelude.{codes}
use Rattle.std.specs.Str.{chars}
use Rattle.calculus.specs.Cells.{kind_cell}
use Rattle.drafts.proofs.Applications.{letters}
use Rattle.drafts.proofs.runs.turns.Goals as goal

pub returns-clause-types : goal.returns-clause-types
returns-clause-types c =
    let e : c.turning.new.draft.types.items ≡ map kind_cell (chars (codes "!b>!b!b!>!b!b*!b!b!>!>!b!b!>!b!b>!>!b!b>!b!b>!>!>!b!b!>!b!b!b")) = search rules in
    e ∙ letters (codes "!b>!b!b!>!b!b*!b!b!>!>!b!b!>!b!b>!>!b!b>!b!b>!>!>!b!b!>!b!b!b") refl

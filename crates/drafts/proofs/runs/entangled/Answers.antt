use Rattle.std.proofs.Common.{◌≡◌, map, refl, ◌∙◌, rules}
use Rattle.std.specs.Prelude.{codes}
use Rattle.std.specs.Str.{chars}
use Rattle.calculus.specs.Cells.{kind_cell}
use Rattle.drafts.proofs.Applications.{letters}
use Rattle.drafts.proofs.runs.entangled.Goals as goal

pub returns-clause-types : goal.returns-clause-types
returns-clause-types c =
    let e : c.cells-7.new.self.types.items ≡ map kind_cell (chars (codes "*bb*>ub>ub*qq>*qq*qq>qq>bq>qbu")) = search rules in
    e ∙ letters (codes "*bb*>ub>ub*qq>*qq*qq>qq>bq>qbu") refl

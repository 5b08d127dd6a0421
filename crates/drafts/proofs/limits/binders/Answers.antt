use Rattle.std.proofs.Common.{◌≡◌, ℕ, ◌*◌, List, ◌++◌, map, refl, ap, ap₂, ◌∙◌, rules, arith}
use Rattle.std.specs.Prelude.{codes}
use Rattle.std.specs.Str.{chars}
use Rattle.calculus.specs.declared.cells.TypeCell.{TypeCell}
use Rattle.calculus.specs.Cells.{kind_cell, placed_cells}
use Rattle.drafts.specs.Limits.{innermost_term}
use Rattle.drafts.proofs.Applications.{letters}
use Rattle.drafts.proofs.Nested.{arrows, functions, arrows_cells, functions_cells}
use Rattle.drafts.proofs.limits.binders.Goals as goal

pub returns-clause-types : goal.returns-clause-types
returns-clause-types c =
    let all : c.loop-i.i ≡ c.args.functions = omega arith in
    let e : c.innermost.new.draft.types.items ≡ arrows c.loop-i.i ++ map kind_cell (chars (codes "b*bb")) = search rules in
    e ∙ ap₂ (λ (n : ℕ) (cs : List TypeCell). arrows n ++ cs) all (letters (codes "b*bb") refl) ∙ arrows_cells c.args.functions _

pub returns-clause-terms : goal.returns-clause-terms
returns-clause-terms c =
    let all : c.loop-i.i ≡ c.args.functions = omega arith in
    let e : c.innermost.new.draft.terms.items ≡ functions c.loop-i.i ++ placed_cells (innermost_term (2 * c.args.functions) c.args.variable) = search rules in
    e ∙ ap (λ (n : ℕ). functions n ++ placed_cells (innermost_term (2 * c.args.functions) c.args.variable)) all ∙ functions_cells c.args.functions _

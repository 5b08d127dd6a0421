use Rattle.std.proofs.Common.{◌≡◌, ℕ, ◌*◌, List, [], ◌∷◌, ◌++◌, map, refl, ap, ap₂, ◌∙◌, rules}
use Rattle.std.specs.Prelude.{codes}
use Rattle.std.specs.List.{repeat}
use Rattle.std.specs.Str.{chars}
use Rattle.calculus.specs.declared.cells.TypeCell.{TypeCell}
use Rattle.calculus.specs.Cells.{kind_cell, placed_cells}
use Rattle.drafts.specs.Runs.{held_qubits, reread_bit}
use Rattle.drafts.proofs.Applications.{letters, held_letters, held_cells}
use Rattle.drafts.proofs.runs.rounds.Goals as goal

pub returns-clause-types : goal.returns-clause-types
returns-clause-types c =
    let first : c.kinds.new.self.types.items ≡ map kind_cell (chars (repeat c.args.held (42 ∷ 113 ∷ []))) =
    c.in_ok-kinds.ensures.types ∙ ap₂ (λ (cs ds : List TypeCell). cs ++ ds) c.new-draft.ensures.0
    (ap (λ (bs : List ℕ). map kind_cell (chars bs)) (c.deref.ensures ∙ c.in_ok-repeat.ensures.bytes ∙ ap (λ (n : ℕ). repeat n (42 ∷ 113 ∷ [])) c.into.ensures)) in
    let e : c.reread.new.draft.types.items ≡ c.kinds-2.new.self.types.items = search rules in
    e ∙ c.in_ok-kinds-2.ensures.types ∙ ap₂ (λ (cs ds : List TypeCell). cs ++ ds) first (letters (codes "b>bq>qb>bbq") refl) ∙ held_letters c.args.held _

pub returns-clause-terms : goal.returns-clause-terms
returns-clause-terms c =
    let e : c.reread.new.draft.terms.items ≡ held_qubits (2 * c.args.held) c.args.held ++ placed_cells (reread_bit (2 * c.args.held) c.args.times) = search rules in
    e ∙ held_cells (2 * c.args.held) c.args.held (reread_bit (2 * c.args.held) c.args.times)

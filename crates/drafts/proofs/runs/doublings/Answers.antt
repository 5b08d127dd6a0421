use Rattle.std.proofs.Common.{◌≡◌, List, [], ◌∷◌, ◌++◌, refl, ap, ap₂, ◌∙◌, rules, arith}
use Rattle.std.specs.Prelude.{codes}
use Rattle.std.proofs.lemmas.List.{append_assoc}
use Rattle.calculus.specs.Alphabet.{op_function, op_application}
use Rattle.calculus.specs.declared.cells.TypeCell.{TypeCell}
use Rattle.calculus.specs.declared.cells.TermCell.{TermCell}
use Rattle.calculus.specs.Cells.{cell_of, placed_cells}
use Rattle.drafts.specs.Limits.{zero_bit, wrapped}
use Rattle.drafts.specs.Runs.{applications, doubled_identity, doubling_function}
use Rattle.drafts.proofs.Applications.{letters, applied_then, wraps_then}
use Rattle.drafts.proofs.runs.doublings.Goals as goal

pub returns-clause-types : goal.returns-clause-types
returns-clause-types c =
    let e : c.cell.new.self.types.items ≡ c.kinds.new.self.types.items = search rules in
    e ∙ c.in_ok-kinds.ensures.types
    ∙ ap₂ (λ (cs ds : List TypeCell). cs ++ ds) c.in_ok-draft.ensures.types (letters (codes "!>!>bb!>bb>!>bb>bb>!>!>bb!>bbb") refl)

pub returns-clause-terms : goal.returns-clause-terms
returns-clause-terms c =
    let start : c.cells.new.self.terms.items ≡ cell_of op_application 0 0 ∷ cell_of op_function 0 35 ∷ [] = search rules in
    simp (c.in_ok-cell.ensures.terms, c.in_ok-cells-3.ensures.terms, c.in_ok-cells-2.ensures.terms, c.in_ok-wrap.ensures.terms, c.loop.invariant.1, start, append_assoc)
    (ap (λ (cs : List TermCell). cell_of op_application 0 0 ∷ cell_of op_function 0 35 ∷ (applications c.loop.counter 0 (doubled_identity c.args.depth) ++ cs)) (wraps_then c.args.more zero_bit (placed_cells doubling_function))
    ∙ ap (λ (cs : List TermCell). cell_of op_application 0 0 ∷ cell_of op_function 0 35 ∷ cs)
    (applied_then c.loop.counter c.args.times 0 (doubled_identity c.args.depth) (wrapped c.args.more zero_bit) (placed_cells doubling_function) (omega arith)))

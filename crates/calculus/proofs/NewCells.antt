-- New cells are blank.
use Rattle.std.proofs.Common.{◌≡◌, ap, ◌∙◌}
use Rattle.calculus.specs.Cells.{kind_cell, cell_of, blank}
use Rattle.calculus.specs.declared.cells.TypeCell.{TypeCell}
use Rattle.calculus.specs.declared.cells.TermCell.{TermCell}

pub new_kind : (t : TypeCell) → t.kind ≡ 0 → t ≡ kind_cell 0
new_kind t e = ap kind_cell e

pub new_cell : (t : TermCell) → (t.op ≡ 0) × ((t.argument ≡ 0) × (t.claim ≡ 0)) → t ≡ blank
new_cell t (e, (f, g)) = ap (λ n. cell_of n t.argument t.claim) e ∙ ap (λ n. cell_of 0 n t.claim) f ∙ ap (λ n. cell_of 0 0 n) g

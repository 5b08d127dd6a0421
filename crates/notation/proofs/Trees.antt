-- The cells of a type or of a term, and the tree that they make.
use Rattle.std.proofs.Common.{◌≡◌, ℕ, true, false, List, ◌∷◌, ◌++◌, append_assoc, refl, ap, ◌∙◌}
use Rattle.calculus.specs.Cells.{cell_of, placed_cells, type_cells}
use Rattle.calculus.specs.Terms.{Term, bit_of, meas, new, gate, bound, held, var, const, star, lam, app, pair, if_then_else, let_pair}
use Rattle.calculus.specs.Types.{Ty, bit, qbit, unit, bang, arrow, tensor}
use Rattle.calculus.specs.declared.cells.TermCell.{TermCell}
use Rattle.calculus.specs.declared.cells.TypeCell.{TypeCell}
use Rattle.notation.specs.Calculus.{term_tree, type_tree}
use Rattle.notation.specs.Terms.{term_trees, with_op}
use Rattle.notation.specs.Types.{type_trees, with_kind}

pub types_meant : (a : Ty) (cs : List TypeCell) → type_trees (type_cells a ++ cs) ≡ type_tree a ∷ type_trees cs
types_meant bit cs = refl
types_meant qbit cs = refl
types_meant unit cs = refl
types_meant (bang a) cs = ap (with_kind 33) (types_meant a cs)
types_meant (arrow a b) cs = ap (with_kind 62) (ap type_trees (append_assoc (type_cells a) (type_cells b) cs) ∙ types_meant a (type_cells b ++ cs) ∙ ap (λ ts. type_tree a ∷ ts) (types_meant b cs))
types_meant (tensor a b) cs = ap (with_kind 42) (ap type_trees (append_assoc (type_cells a) (type_cells b) cs) ∙ types_meant a (type_cells b ++ cs) ∙ ap (λ ts. type_tree a ∷ ts) (types_meant b cs))

-- two terms, and three
two : (m n : Term ℕ) (cs : List TermCell) → ((ds : List TermCell) → term_trees (placed_cells m ++ ds) ≡ term_tree m ∷ term_trees ds) → ((ds : List TermCell) → term_trees (placed_cells n ++ ds) ≡ term_tree n ∷ term_trees ds)
    → term_trees ((placed_cells m ++ placed_cells n) ++ cs) ≡ term_tree m ∷ term_tree n ∷ term_trees cs
two m n cs h k = ap term_trees (append_assoc (placed_cells m) (placed_cells n) cs) ∙ h (placed_cells n ++ cs) ∙ ap (λ ts. term_tree m ∷ ts) (k cs)

pub terms_meant : (m : Term ℕ) (cs : List TermCell) → term_trees (placed_cells m ++ cs) ≡ term_tree m ∷ term_trees cs
terms_meant (var c (bound i)) cs = refl
terms_meant (var c (held h)) cs = refl
terms_meant (const c (bit_of true)) cs = refl
terms_meant (const c (bit_of false)) cs = refl
terms_meant (const c meas) cs = refl
terms_meant (const c new) cs = refl
terms_meant (const c (gate u)) cs = refl
terms_meant (star c) cs = refl
terms_meant (lam c m) cs = ap (with_op (cell_of 108 0 c)) (terms_meant m cs)
terms_meant (app c m n) cs = ap (with_op (cell_of 97 0 c)) (two m n cs (terms_meant m) (terms_meant n))
terms_meant (pair c m n) cs = ap (with_op (cell_of 112 0 c)) (two m n cs (terms_meant m) (terms_meant n))
terms_meant (let_pair c m n) cs = ap (with_op (cell_of 100 0 c)) (two m n cs (terms_meant m) (terms_meant n))
terms_meant (if_then_else c p m n) cs =
    ap (with_op (cell_of 105 0 c))
    (ap term_trees (append_assoc (placed_cells p) (placed_cells m ++ placed_cells n) cs)
    ∙ terms_meant p ((placed_cells m ++ placed_cells n) ++ cs)
    ∙ ap (λ ts. term_tree p ∷ ts) (two m n cs (terms_meant m) (terms_meant n)))

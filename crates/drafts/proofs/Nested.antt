-- The cells of functions one in the other, piece by piece.
use Rattle.std.proofs.Common.{◌≡◌, ℕ, zero, suc, ◌+◌, ◌*◌, List, [], ◌∷◌, ◌++◌, map, refl, ap, ◌∙◌, arith}
use Rattle.std.specs.Str.{chars}
use Rattle.std.proofs.lemmas.List.{append_assoc}
use Rattle.calculus.specs.Alphabet.{op_function}
use Rattle.calculus.specs.declared.cells.TypeCell.{TypeCell}
use Rattle.calculus.specs.declared.cells.TermCell.{TermCell}
use Rattle.calculus.specs.Terms.{Term}
use Rattle.calculus.specs.Cells.{kind_cell, type_cells, cell_of, placed_cells}
use Rattle.drafts.specs.Limits.{nested_type, nested}
use Rattle.drafts.proofs.Applications.{letters}

-- what is written before what they are around
abbrev pub arrows : ℕ → List TypeCell
arrows zero = []
arrows (suc n) = arrows n ++ map kind_cell (chars (62 ∷ 98 ∷ []))

abbrev pub functions : ℕ → List TermCell
functions zero = []
functions (suc n) = functions n ++ (cell_of op_function 0 (2 * n) ∷ [])

-- Functions behind others are functions within them.
arrows_on : (n k : ℕ) (r : List TypeCell) → arrows n ++ (type_cells (nested_type k) ++ r) ≡ type_cells (nested_type (n + k)) ++ r
arrows_on zero k r = ap (λ (j : ℕ). type_cells (nested_type j) ++ r) (omega arith)
arrows_on (suc n) k r =
    ap (λ (cs : List TypeCell). (arrows n ++ cs) ++ (type_cells (nested_type k) ++ r)) (letters (62 ∷ 98 ∷ []) refl)
    ∙ append_assoc (arrows n) _ (type_cells (nested_type k) ++ r)
    ∙ arrows_on n (suc k) r ∙ ap (λ (j : ℕ). type_cells (nested_type j) ++ r) (omega arith)

pub arrows_cells : (n : ℕ) (r : List TypeCell) → arrows n ++ (kind_cell 98 ∷ r) ≡ type_cells (nested_type n) ++ r
arrows_cells n r = arrows_on n 0 r ∙ ap (λ (j : ℕ). type_cells (nested_type j) ++ r) (omega arith)

functions_on : (n k : ℕ) (m : Term ℕ) → functions n ++ placed_cells (nested (2 * n) k m) ≡ placed_cells (nested 0 (n + k) m)
functions_on zero k m = ap (λ (j : ℕ). placed_cells (nested 0 j m)) (omega arith)
functions_on (suc n) k m =
    append_assoc (functions n) _ (placed_cells (nested (2 * suc n) k m))
    ∙ ap (λ (p : ℕ). functions n ++ (cell_of op_function 0 (2 * n) ∷ placed_cells (nested p k m))) (omega arith)
    ∙ functions_on n (suc k) m ∙ ap (λ (j : ℕ). placed_cells (nested 0 j m)) (omega arith)

pub functions_cells : (n : ℕ) (m : Term ℕ) → functions n ++ placed_cells m ≡ placed_cells (nested 0 n m)
functions_cells n m = functions_on n 0 m ∙ ap (λ (j : ℕ). placed_cells (nested 0 j m)) (omega arith)

-- How far types reach: one past the cells that they are written as.
use Rattle.std.proofs.Common.{◌≡◌, ℕ, suc, ◌+◌, ◌<◌, List, [], ◌∷◌, ◌++◌, length, drop, Some, refl, ap, ◌∙◌, ap₂, arith}
use Rattle.std.proofs.lemmas.List.{append_assoc, length-append}
use Rattle.trees.specs.Reach.{ends}
use Rattle.calculus.specs.declared.cells.TypeCell.{TypeCell}
use Rattle.calculus.specs.Cells.{type_cells}
use Rattle.calculus.specs.Letters.{kind_arity}
use Rattle.calculus.specs.Reading.{type_at, TypesStand}
use Rattle.calculus.specs.Types.{Ty, bit, qbit, unit, bang, arrow, tensor}
use Rattle.calculus.proofs.ReadTypes.{at_place}
use Rattle.subtyping.specs.Placing.{type_end}

same_ends : (cs : List TypeCell) (d e a b : ℕ) → d ≡ e → a ≡ b → ends kind_arity d cs a ≡ ends kind_arity e cs b
same_ends cs d e a b p q = ap₂ (λ d a. ends kind_arity d cs a) p q

abbrev Passed : List TypeCell → Type 0
Passed cs = (due : ℕ) (ds : List TypeCell) (at : ℕ) → ends kind_arity (suc due) (cs ++ ds) at ≡ ends kind_arity due ds (at + length cs)

two_passed : (c : TypeCell) (xs ys : List TypeCell) → kind_arity c ≡ 2 → Passed xs → Passed ys → Passed (c ∷ (xs ++ ys))
two_passed c xs ys k f g due ds at =
    same_ends ((xs ++ ys) ++ ds) (due + kind_arity c) (suc (suc due)) (suc at) (suc at) (omega arith) refl
    ∙ ap (λ zs. ends kind_arity (suc (suc due)) zs (suc at)) (append_assoc xs ys ds)
    ∙ f (suc due) (ys ++ ds) (suc at)
    ∙ g due ds (suc at + length xs)
    ∙ same_ends ds due due (suc at + length xs + length ys) (at + suc (length (xs ++ ys))) refl (omega (arith, length-append xs ys))

one_passed : (c : TypeCell) (xs : List TypeCell) → kind_arity c ≡ 1 → Passed xs → Passed (c ∷ xs)
one_passed c xs k f due ds at =
    same_ends (xs ++ ds) (due + kind_arity c) (suc due) (suc at) (suc at) (omega arith) refl
    ∙ f due ds (suc at)
    ∙ same_ends ds due due (suc at + length xs) (at + suc (length xs)) refl (omega arith)

leaf_passed : (c : TypeCell) → kind_arity c ≡ 0 → Passed (c ∷ [])
leaf_passed c k due ds at = same_ends ds (due + kind_arity c) due (suc at) (at + 1) (omega arith) (omega arith)

-- a type's cells are passed as one tree
passed : (a : Ty) → Passed (type_cells a)
passed bit = leaf_passed record { kind = 98 } refl
passed qbit = leaf_passed record { kind = 113 } refl
passed unit = leaf_passed record { kind = 117 } refl
passed (bang a) = one_passed record { kind = 33 } (type_cells a) refl (passed a)
passed (arrow a b) = two_passed record { kind = 62 } (type_cells a) (type_cells b) refl (passed a) (passed b)
passed (tensor a b) = two_passed record { kind = 42 } (type_cells a) (type_cells b) refl (passed a) (passed b)

-- a place of a whole table reaches its type's end
pub reaches : (cs : List TypeCell) (p : ℕ) → TypesStand cs → p < length cs → ends kind_arity 1 (drop p cs) p ≡ Some (type_end cs p)
reaches cs p h l =
    let at = at_place cs p h l in
    ap (λ xs. ends kind_arity 1 xs p) at.1 ∙ passed (type_at cs p) 0 at.0 p

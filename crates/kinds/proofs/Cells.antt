-- The cells of a boxed type, mark by mark and then of its head.
use Rattle.std.proofs.Common.{arith, ◌≤◌, ◌≡◌, ℕ, zero, suc, List, [], ◌∷◌, ◌++◌, replicate, Result, Ok, Err, OnOk, sym, refl, ap, ap₂, ◌∙◌}
use Rattle.std.proofs.lemmas.List.{append_assoc}
use Rattle.calculus.specs.declared.cells.TypeCell.{TypeCell}
use Rattle.calculus.specs.Types.{Ty, bangs}
use Rattle.calculus.specs.Cells.{kind_cell, type_cells}
use Rattle.kinds.specs.declared.Kind.{Kind}
use Rattle.kinds.specs.Kinds.{head_type, kind_type}

pub on_ok : {A E P Q : Type 0} (r : Result A E) → (P → Q) → OnOk r P → OnOk r Q
on_ok (Ok x) f p = f p
on_ok (Err e) f p = p

bangs_cells : (n : ℕ) (t : Ty) → type_cells (bangs n t) ≡ replicate n (kind_cell 33) ++ type_cells t
bangs_cells zero t = refl
bangs_cells (suc n) t = ap (λ (cs : List TypeCell). kind_cell 33 ∷ cs) (bangs_cells n t)

-- The marks are written, and then the cells of the head: of a leaf, or of a kind with two parts.
module _ (k : Kind) (n letter : ℕ) (before marked : List TypeCell) (e : marked ≡ before ++ replicate n (kind_cell 33)) (few : n ≤ k.marks) (all : k.marks ≤ n) where
  headed : before ++ type_cells (kind_type k) ≡ marked ++ type_cells (head_type k.head)
  headed =
      let f : k.marks ≡ n = omega arith in
      ap (λ (cs : List TypeCell). before ++ cs) (bangs_cells k.marks (head_type k.head))
      ∙ sym (append_assoc before (replicate k.marks (kind_cell 33)) (type_cells (head_type k.head)))
      ∙ ap (λ (cs : List TypeCell). cs ++ type_cells (head_type k.head)) (ap (λ i. before ++ replicate i (kind_cell 33)) f ∙ sym e)

  pub leaf_written : {new : List TypeCell} → new ≡ marked ++ (kind_cell letter ∷ []) → type_cells (head_type k.head) ≡ kind_cell letter ∷ []
      → new ≡ before ++ type_cells (kind_type k)
  leaf_written g h = g ∙ ap (λ (cs : List TypeCell). marked ++ cs) (sym h) ∙ sym headed

  pub parts_written : {started half new : List TypeCell} {a b c d : Kind} → started ≡ marked ++ (kind_cell letter ∷ []) → half ≡ started ++ type_cells (kind_type a)
      → new ≡ half ++ type_cells (kind_type b) → a ≡ c → b ≡ d → type_cells (head_type k.head) ≡ kind_cell letter ∷ (type_cells (kind_type c) ++ type_cells (kind_type d))
      → new ≡ before ++ type_cells (kind_type k)
  parts_written {half = half} {a = a} {b = b} {c = c} {d = d} s f g p q h =
      g ∙ ap (λ (x : Kind). half ++ type_cells (kind_type x)) q ∙ ap (λ (cs : List TypeCell). cs ++ type_cells (kind_type d)) (f ∙ ap₂ (λ (cs : List TypeCell) (x : Kind). cs ++ type_cells (kind_type x)) s p)
      ∙ simp append_assoc (ap (λ (cs : List TypeCell). marked ++ cs) (sym h) ∙ sym headed)

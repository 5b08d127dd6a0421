-- The laws of the walk that substitutes.
use Rattle.std.proofs.Common.{◌≡◌, ℕ, zero, suc, ◌+◌, ◌-◌, ◌<◌, ◌≤◌, ◌⊎◌, List, [], ◌∷◌, ◌++◌, length, get_or, sym, refl, ap, ◌∙◌, inl, inr, add-one, arith}
use native.Mathlib.Numerals.{add-two}
use Rattle.std.specs.Borrow.{Bor}
use Rattle.std.proofs.lemmas.Bool.Decides.{nat_tests}
use Rattle.std.proofs.lemmas.List.{append_assoc, length-append}
use Rattle.calculus.specs.Letters.{Letter, at_v, at_q, at_g, at_0, at_1, at_m, at_n, at_s, at_l, at_a, at_p, at_d, at_i, other, letter, parts_of}
use Rattle.calculus.specs.declared.cells.TermCell.{TermCell}
use Rattle.stepper.specs.Parts.{after}
use Rattle.stepper.specs.Substitution.{depths, values_of, value_cells, substitute_cell, substitute}
use Rattle.stepper.specs.Writing.{running_cell}

-- there are as many depths as parts
pub depths_length : (l : Letter) (k : ℕ) → length (depths l k) ≡ parts_of l
depths_length at_v k = refl
depths_length at_q k = refl
depths_length at_g k = refl
depths_length at_0 k = refl
depths_length at_1 k = refl
depths_length at_m k = refl
depths_length at_n k = refl
depths_length at_s k = refl
depths_length at_l k = refl
depths_length at_a k = refl
depths_length at_p k = refl
depths_length at_d k = refl
depths_length at_i k = refl
depths_length other k = refl

-- a variable of the binders that are looked at, by the values that there are
module _ (k : ℕ) where
  value_at : (vs : List (Bor (List TermCell))) (v : Bor (List TermCell)) (j : ℕ) → j < length vs → v ≡ get_or vs j v → v.now ≡ value_cells k (values_of vs) j
  value_at [] v j l e = absurd (omega arith)
  value_at (w ∷ vs) v zero l e = ap (λ x. x.now) e
  value_at (w ∷ vs) v (suc j) l e = value_at vs v j (omega arith) e

  value_past : (vs : List (Bor (List TermCell))) (j : ℕ) → length vs ≤ j → running_cell 118 (k + j - length vs) ∷ [] ≡ value_cells k (values_of vs) j
  value_past [] j l = ap (λ i. running_cell 118 i ∷ []) (omega arith)
  value_past (w ∷ vs) zero l = absurd (omega arith)
  value_past (w ∷ vs) (suc j) l = ap (λ i. running_cell 118 i ∷ []) (omega arith) ∙ value_past vs j (omega arith)

  module _ (vs : List (Bor (List TermCell))) (c : TermCell) (e : c.op ≡ 118) (l : k ≤ c.argument) where
    variable : substitute_cell (values_of vs) k c ≡ value_cells k (values_of vs) (c.argument - k)
    variable = grind (arith, nat_tests)

    pub variable_at : (v : Bor (List TermCell)) → c.argument - k < length vs → v ≡ get_or vs (c.argument - k) v → v.now ≡ substitute_cell (values_of vs) k c
    variable_at v m f = value_at vs v (c.argument - k) m f ∙ sym variable

    pub variable_past : length vs ≤ c.argument - k → running_cell 118 (c.argument - length vs) ∷ [] ≡ substitute_cell (values_of vs) k c
    variable_past m = ap (λ i. running_cell 118 (i - length vs) ∷ []) (omega arith) ∙ value_past vs (c.argument - k) m ∙ sym variable

module _ (vs : List (List TermCell)) where
  pub substitute_none : (ks : List ℕ) → substitute vs ks [] ≡ []
  substitute_none [] = refl
  substitute_none (k ∷ ks) = refl

  -- the trees are walked one after the other
  pub substitute_more : (cs : List TermCell) (js ks : List ℕ) → substitute vs (js ++ ks) cs ≡ substitute vs js cs ++ substitute vs ks (after (length js) cs)
  substitute_more cs [] ks = refl
  substitute_more [] (j ∷ js) ks = sym (substitute_none ks)
  substitute_more (c ∷ cs) (j ∷ js) ks =
      let ds = depths (letter c.op) j in
      let due : length (ds ++ js) ≡ length js + parts_of (letter c.op) = omega (arith, length-append ds js, depths_length (letter c.op) j) in
      ap (λ es. substitute_cell vs j c ++ es)
      (ap (λ es. substitute vs es cs) (sym (append_assoc ds js ks))
      ∙ substitute_more cs (ds ++ js) ks
      ∙ ap (λ n. substitute vs (ds ++ js) cs ++ substitute vs ks (after n cs)) due)
      ∙ sym (append_assoc (substitute_cell vs j c) (substitute vs (ds ++ js) cs) (substitute vs ks (after (length js + parts_of (letter c.op)) cs)))

-- the parts of each letter that has parts
pub depths_lambda : (o k : ℕ) → o ≡ 108 → depths (letter o) k ≡ (k + 1) ∷ []
depths_lambda o k e = ap (λ n. depths (letter n) k) e ∙ ap (λ n. n ∷ []) (sym (add-one k))

pub depths_two : (o k : ℕ) → (o ≡ 97) ⊎ (o ≡ 112) → depths (letter o) k ≡ k ∷ k ∷ []
depths_two o k (inl e) = ap (λ n. depths (letter n) k) e
depths_two o k (inr e) = ap (λ n. depths (letter n) k) e

pub depths_let : (o k : ℕ) → o ≡ 100 → depths (letter o) k ≡ k ∷ (k + 2) ∷ []
depths_let o k e = ap (λ n. depths (letter n) k) e ∙ ap (λ n. k ∷ n ∷ []) (sym (add-two k))

pub depths_if : (o k : ℕ) → o ≡ 105 → depths (letter o) k ≡ k ∷ k ∷ k ∷ []
depths_if o k e = ap (λ n. depths (letter n) k) e

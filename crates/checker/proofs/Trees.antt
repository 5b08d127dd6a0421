-- The trees of a term table, one after the other.
use Rattle.std.proofs.Common.{◌≡◌, ℕ, zero, suc, ◌+◌, ◌<◌, ◌≤◌, Bool, T, List, [], ◌∷◌, length, get_or, drop, sym, ap, ◌∙◌, subst, inl, inr, arith}
use Rattle.std.proofs.lemmas.Bool.{cases_lt}
use Rattle.std.proofs.lemmas.List.{drop_more, length-drop, length-append, at_drop_all}
use Rattle.trees.specs.Whole.{height}
use Rattle.calculus.specs.declared.cells.TermCell.{TermCell}
use Rattle.calculus.specs.Letters.{Letter, at_v, at_q, at_g, at_0, at_1, at_m, at_n, at_s, at_l, at_a, at_p, at_d, at_i, other, letter, parts_of, allowed, arity}
use Rattle.calculus.specs.Terms.{Term, size}
use Rattle.calculus.specs.Cells.{placed_cells}
use Rattle.calculus.specs.Reading.{top, rest, no_term, read_term, terms_of, term_at, every, TermsStand}
use Rattle.calculus.proofs.Reading.{after, both, stand_next, stand_from}
use Rattle.calculus.proofs.ReadTerms.{written, read_back, at_place, cells_counted}
use Rattle.checker.specs.Ending.{tree_end, trees_end}

-- the terms from a place on
abbrev pub trees : List TermCell → ℕ → List (Term ℕ)
trees cs p = terms_of (drop p cs)

pub present : (cs : List TermCell) (p : ℕ) → 0 < height arity (drop p cs) → p < length cs
present cs p h = elim (cases_lt p (length cs)) [
  | inl l ↦ l
  | inr l ↦ (let n : height arity (drop p cs) ≡ 0 = at_drop_all (height arity) cs p l in absurd (omega arith))
]

module _ (cs : List TermCell) (stand : TermsStand cs) where
  pub counted : (p : ℕ) → length (trees cs p) ≡ height arity (drop p cs)
  counted p = (written (drop p cs) (stand_from allowed arity p cs stand)).1

  pub next_tree : (p : ℕ) → p < length cs → trees cs p ≡ term_at cs p ∷ trees cs (tree_end cs p)
  next_tree p l =
      let m = term_at cs p in
      let a = at_place cs p stand l in
      ap terms_of a.1 ∙ read_back m a.0 ∙ ap (λ xs. m ∷ terms_of xs) (sym (after cs (placed_cells m) a.0 p (size m) a.1 (cells_counted m)))

  pub next_height : (p : ℕ) → p < length cs → height arity (drop p cs) ≡ suc (height arity (drop (tree_end cs p) cs))
  next_height p l = sym (counted p) ∙ ap length (next_tree p l) ∙ ap suc (counted (tree_end cs p))

  pub end_within : (p : ℕ) → p < length cs → tree_end cs p ≤ length cs
  end_within p l =
      let m = term_at cs p in
      let a = at_place cs p stand l in
      omega (arith, length-drop p cs, ap length a.1, length-append (placed_cells m) a.0, cells_counted m)

  -- what the cell at a place passes, and its parts stand after it
  pub here : (p : ℕ) (d : TermCell) → p < length cs → T (allowed (get_or cs p d)) × (arity (get_or cs p d) ≤ height arity (drop (p + 1) cs))
  here p d l =
      let s = stand_next allowed arity (get_or cs p d) (drop (p + 1) cs) (subst TermsStand (drop_more cs p d l) (stand_from allowed arity p cs stand)) in
      (s.0, s.1)

  pub second_tree : (q : ℕ) → 1 < height arity (drop q cs) → top no_term (rest (trees cs q)) ≡ term_at cs (tree_end cs q)
  second_tree q h = ap (λ ms. top no_term (rest ms)) (next_tree q (present cs q (omega arith)))

  pub third_tree : (q : ℕ) → 2 < height arity (drop q cs) → top no_term (rest (rest (trees cs q))) ≡ term_at cs (tree_end cs (tree_end cs q))
  third_tree q h =
      let l = present cs q (omega arith) in
      ap (λ ms. top no_term (rest (rest ms))) (next_tree q l) ∙ second_tree (tree_end cs q) (omega (arith, next_height q l))

  -- a tree is its first cell and the trees of its parts
  sized : (l : Letter) (x c q : ℕ) → parts_of l ≤ height arity (drop q cs) → size (top no_term (read_term l x c (trees cs q))) + q ≡ suc (trees_end cs q (parts_of l))
  sized at_v x c q h = omega arith
  sized at_q x c q h = omega arith
  sized at_g x c q h = omega arith
  sized at_0 x c q h = omega arith
  sized at_1 x c q h = omega arith
  sized at_m x c q h = omega arith
  sized at_n x c q h = omega arith
  sized at_s x c q h = omega arith
  sized at_l x c q h = omega arith
  sized at_a x c q h = omega (arith, ap size (second_tree q h))
  sized at_p x c q h = omega (arith, ap size (second_tree q h))
  sized at_d x c q h = omega (arith, ap size (second_tree q h))
  sized at_i x c q h = omega (arith, ap size (second_tree q (omega arith)), ap size (third_tree q h))
  sized other x c q h = omega arith

  -- the terms from a place on, by the cell that stands there
  pub by_cell : (p : ℕ) (d : TermCell) → p < length cs → term_at cs p ≡ top no_term (read_term (letter (get_or cs p d).op) (get_or cs p d).argument (get_or cs p d).claim (trees cs (p + 1)))
  by_cell p d l = ap (λ xs. top no_term (terms_of xs)) (drop_more cs p d l)

  pub by_parts : (p : ℕ) (d : TermCell) → p < length cs → tree_end cs p ≡ trees_end cs (p + 1) (arity (get_or cs p d))
  by_parts p d l =
      let c = get_or cs p d in
      let s = sized (letter c.op) c.argument c.claim (p + 1) (here p d l).1 in
      omega (arith, s, ap size (by_cell p d l))

-- each element of a list that passes a test
pub every_at : {X : Type 0} (f : X → Bool) (xs : List X) (p : ℕ) (d : X) → T (every f xs) → p < length xs → T (f (get_or xs p d))
every_at f [] p d h l = absurd (omega arith)
every_at f (x ∷ xs) zero d h l = (both (f x) (every f xs) h).0
every_at f (x ∷ xs) (suc p) d h l = every_at f xs p d (both (f x) (every f xs) h).1 (omega arith)

-- The steps of a walk over names: what is named so far, and what the rest names.
use Rattle.std.proofs.Common.{◌≡◌, ℕ, ◌+◌, ◌<◌, Bool, true, false, cond, eqb, ◌≢◌, ◌⊎◌, List, length, get_or, drop, set, Some, None, Option, sym, refl, ap, ◌∙◌, inl, inr, arith, get_or-set_other, get_or-set_same}
use Rattle.std.proofs.lemmas.Bool.Decides.{nat_tests}
use Rattle.std.proofs.lemmas.List.{drop_more}
use Rattle.std.proofs.lemmas.Bool.{eq-eqb, ne_eqb, cases_eq}
use Rattle.calculus.specs.Cells.{blank}
use Rattle.calculus.specs.declared.cells.TermCell.{TermCell}
use Rattle.stepper.specs.Naming.{name_of, is_name, names}

pub name_below : (c : TermCell) (k : ℕ) → Some k ≡ name_of c → k < 32
name_below c k e = grind (arith, nat_tests)

set_name : (ns : List Bool) (k h : ℕ) → k < length ns → get_or (set ns k true) h false ≡ cond (eqb k h) true (get_or ns h false)
set_name ns k h l = go (cases_eq k h)
  where
    go : (k ≡ h) ⊎ (k ≢ h) → get_or (set ns k true) h false ≡ cond (eqb k h) true (get_or ns h false)
    go (inl e) = ap (λ j. get_or (set ns k true) j false) (sym e) ∙ get_or-set_same ns k true false l ∙ sym (simp (eq-eqb k h e))
    go (inr d) = get_or-set_other ns k h true false (λ e. d (sym e)) ∙ sym (simp (ne_eqb k h d))

swapped : (x y z : Bool) → cond (cond x true y) true z ≡ cond y true (cond x true z)
swapped true true z = refl
swapped true false z = refl
swapped false y z = refl

pub named_all : (x : Bool) → cond x true false ≡ x
named_all true = refl
named_all false = refl

module _ (cs : List TermCell) (i h : ℕ) (l : i < length cs) where
  -- what the cells from a place on name is what its cell names, and what those after it name
  names_from : (r : Option ℕ) → r ≡ name_of (get_or cs i blank) → names (drop i cs) h ≡ cond (is_name r h) true (names (drop (i + 1) cs) h)
  names_from r e = ap (λ ds. names ds h) (drop_more cs i blank l) ∙ ap (λ x. cond (is_name x h) true (names (drop (i + 1) cs) h)) (sym e)

  pub none_more : (b : Bool) → None ≡ name_of (get_or cs i blank) → cond b true (names (drop i cs) h) ≡ names cs h → cond b true (names (drop (i + 1) cs) h) ≡ names cs h
  none_more b e f = ap (λ x. cond b true x) (sym (names_from None e)) ∙ f

  pub name_more : (ns : List Bool) (k : ℕ) → k < length ns → Some k ≡ name_of (get_or cs i blank) → cond (get_or ns h false) true (names (drop i cs) h) ≡ names cs h
      → cond (get_or (set ns k true) h false) true (names (drop (i + 1) cs) h) ≡ names cs h
  name_more ns k m e f =
      ap (λ b. cond b true (names (drop (i + 1) cs) h)) (set_name ns k h m)
      ∙ swapped (eqb k h) (get_or ns h false) (names (drop (i + 1) cs) h)
      ∙ ap (λ x. cond (get_or ns h false) true x) (sym (names_from (Some k) e))
      ∙ f

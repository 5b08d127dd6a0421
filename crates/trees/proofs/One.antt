-- Cells that are exactly one tree.
use Rattle.std.proofs.Common.{◌≡◌, ℕ, zero, suc, ◌+◌, Bool, true, false, cond, ◌&&◌, T, eqb, List, [], ◌∷◌, length, Some, None, Option, sym, refl, ap, ◌∙◌, subst, arith, eqb→eq}
use lib.Dec.{eqb_refl}
use Rattle.std.proofs.lemmas.Bool.{le-leb}
use Rattle.trees.specs.Reach.{ends, not_one, not_one_tree}
use Rattle.trees.specs.Whole.{height, whole}

by_end : (n : ℕ) (o : Option ℕ) → not_one n o ≡ None → o ≡ Some n
by_end n None h = let z : ◌≡◌ {A = ℕ} 0 1 = cc in absurd (omega arith)
by_end n (Some e) h = go (eqb e n) refl h
  where
    go : (b : Bool) → eqb e n ≡ b → cond b None (Some e) ≡ None → Some e ≡ Some n
    go true p h = ap Some (eqb→eq e n (subst T (sym p) tt))
    go false p h = let z : ◌≡◌ {A = ℕ} 0 1 = cc in absurd (omega arith)

module _ {X : Type 0} (arity : X → ℕ) where
  pub one_ends : (cs : List X) → not_one_tree arity cs ≡ None → ends arity 1 cs 0 ≡ Some (length cs)
  one_ends cs h = by_end (length cs) (ends arity 1 cs 0) h

  pub ends_one : (cs : List X) → ends arity 1 cs 0 ≡ Some (length cs) → not_one_tree arity cs ≡ None
  ends_one cs e = ap (not_one (length cs)) e ∙ ap (λ b. cond b None (Some (length cs))) (T_true (eqb (length cs) (length cs)) (eqb_refl (length cs)))
    where
      T_true : (b : Bool) → T b → b ≡ true
      T_true true h = refl
      T_true false h = absurd h

  -- trees that end with the cells are whole
  all_whole : (cs : List X) (due at : ℕ) → ends arity due cs at ≡ Some (at + length cs) → T (whole arity cs) × (height arity cs ≡ due)
  all_whole [] zero at e = (tt, refl)
  all_whole [] (suc due) at e = let z : ◌≡◌ {A = ℕ} 0 1 = cc in absurd (omega arith)
  all_whole (c ∷ cs) zero at e = let z : at ≡ at + suc (length cs) = cc in absurd (omega arith)
  all_whole (c ∷ cs) (suc due) at e =
      let later : suc at + length cs ≡ at + suc (length cs) = omega arith in
      let (w, h) = all_whole cs (due + arity c) (suc at) (e ∙ ap Some (sym later)) in
      (subst (λ b. T (b && whole arity cs)) (sym (le-leb (arity c) (height arity cs) (omega arith))) w, omega arith)

  pub one_whole : (cs : List X) → not_one_tree arity cs ≡ None → T (whole arity cs) × (height arity cs ≡ 1)
  one_whole cs h = let z : length cs ≡ 0 + length cs = omega arith in all_whole cs 1 0 (one_ends cs h ∙ ap Some z)

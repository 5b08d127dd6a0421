-- The comparison of ops with a word.
use Rattle.std.proofs.Common.{◌≡◌, ℕ, ◌+◌, ◌-◌, ◌<◌, ◌≤◌, ◌⊎◌, false, Bool, ◌&&◌, eqb, List, [], ◌∷◌, length, drop, Option, Some, None, sym, refl, ap, ◌∙◌, Bor, arith}
use Rattle.std.proofs.Math.Bool.{and-false}
use Rattle.std.proofs.lemmas.List.{drop_all, take_all, length-drop}
use Rattle.std.specs.List.{zip, list_all, slice_range}
use Rattle.std.specs.Option.{MatchOption, UnwrapsOrElse}
use Rattle.calculus.specs.declared.cells.TermCell.{TermCell}
use Rattle.finder.specs.Words.{spelt}

-- an op and the letter that is to be there
abbrev pub is_letter : TermCell × ℕ → Bool
is_letter p = eqb p.0.op p.1

pub spelt_zipped : (ws : List ℕ) (cs : List TermCell) → length ws ≤ length cs → list_all is_letter (zip cs ws) ≡ spelt ws cs
spelt_zipped [] [] l = refl
spelt_zipped [] (c ∷ cs) l = refl
spelt_zipped (w ∷ ws) [] l = absurd (omega arith)
spelt_zipped (w ∷ ws) (c ∷ cs) l = ap (λ b. eqb c.op w && b) (spelt_zipped ws cs (omega arith))

pub spelt_short : (ws : List ℕ) (cs : List TermCell) → length cs < length ws → spelt ws cs ≡ false
spelt_short [] cs l = absurd (omega arith)
spelt_short (w ∷ ws) [] l = refl
spelt_short (w ∷ ws) (c ∷ cs) l = ap (λ b. eqb c.op w && b) (spelt_short ws cs (omega arith)) ∙ and-false (eqb c.op w)

-- the cells from a place on, none where the place is past the end
pub rest_is : (cs : List TermCell) (at : ℕ) (r : Option (Bor (List TermCell))) (d : Bor (List TermCell) → Type 0) (x : Bor (List TermCell))
    → MatchOption r ((length cs < at) ⊎ (length cs < length cs)) (λ y. (at ≤ length cs) × (length cs ≤ length cs) × (y.now ≡ slice_range cs at (length cs)) × (length y.now + at ≡ length cs))
    → ((y : Bor (List TermCell)) → d y → y.now ≡ []) → UnwrapsOrElse r d x → x.now ≡ drop at cs
rest_is cs at None d x m e u = e x u ∙ sym (drop_all at cs (omega arith))
rest_is cs at (Some y) d x (p, q, s, t) e u = ap (λ z. z.now) u ∙ s ∙ take_all (length cs - at) (drop at cs) (omega (arith, length-drop at cs))

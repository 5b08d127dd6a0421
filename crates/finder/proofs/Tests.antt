-- The tests pass exactly the cells of a running term.
use Rattle.std.proofs.Common.{◌≡◌, ℕ, ◌<◌, ◌≤◌, Bool, true, false, cond, ltb, List, [], ◌∷◌, length, Some, None, Ok, Err, Option, refl, arith}
use Rattle.std.proofs.lemmas.Bool.{ltb-false}
use Rattle.trees.specs.Failing.{first_failing, none_at}
use Rattle.trees.specs.Reach.{not_one_tree}
use Rattle.trees.specs.Whole.{height}
use Rattle.trees.proofs.One.{one_whole}
use Rattle.calculus.specs.declared.cells.TermCell.{TermCell}
use Rattle.calculus.specs.Letters.{allowed, arity}
use Rattle.calculus.specs.Reading.{TermsStand}
use Rattle.calculus.proofs.Failing.{all_pass}
use Rattle.finder.specs.Faults.{fault}
use Rattle.finder.specs.Finding.{tested}
use Rattle.finder.specs.declared.faults.FindReason.TheVariants.{TooManyCells, BadCell, NotWhole}

-- what passed tests show
pub passed : (cs : List TermCell) → tested cs ≡ Ok tt → (length cs ≤ 1024) × TermsStand cs × (height arity cs ≡ 1)
passed cs e = go (ltb 1024 (length cs)) refl (first_failing allowed cs 0) (not_one_tree arity cs) refl refl e
  where
    go : (b : Bool) → ltb 1024 (length cs) ≡ b → (f o : Option ℕ) → first_failing allowed cs 0 ≡ f → not_one_tree arity cs ≡ o
        → cond b (Err (fault TooManyCells 1024)) (none_at (fault BadCell) f (none_at (fault NotWhole) o (Ok tt))) ≡ Ok tt
        → (length cs ≤ 1024) × TermsStand cs × (height arity cs ≡ 1)
    go true p f o q r e = let z : ◌≡◌ {A = ℕ} 0 1 = cc in absurd (omega arith)
    go false p (Some k) o q r e = let z : ◌≡◌ {A = ℕ} 0 1 = cc in absurd (omega arith)
    go false p None (Some k) q r e = let z : ◌≡◌ {A = ℕ} 0 1 = cc in absurd (omega arith)
    go false p None None q r e = let (w, h) = one_whole arity cs r in (ltb-false 1024 (length cs) p, (all_pass allowed cs 0 q, w), h)

pub standing : (cs : List TermCell) → tested cs ≡ Ok tt → TermsStand cs × (0 < length cs)
standing cs e = let (n, s, h) = passed cs e in (s, some cs h)
  where
    some : (ds : List TermCell) → height arity ds ≡ 1 → 0 < length ds
    some [] h = absurd (omega arith)
    some (d ∷ ds) h = omega arith

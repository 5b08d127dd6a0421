-- The first element that fails a test is the first that passes its negation.
use Rattle.std.proofs.Common.{◌≡◌, ℕ, ◌+◌, Bool, true, false, not, cond, List, [], ◌∷◌, Some, position, refl, ◌∙◌}
use Rattle.std.specs.List.{position_from}
use Rattle.std.proofs.lemmas.Iterator.Adapters.{position_from-zero}
use Rattle.trees.specs.Failing.{first_failing}

module _ {T : Type 0} (f : T → Bool) where
  from : (cs : List T) (k : ℕ) → position_from (λ c. not (f c)) k cs ≡ first_failing f cs k
  from [] k = refl
  from (c ∷ cs) k = by (f c) (from cs (k + 1))
    where
      by : {n : _} (b : Bool) → position_from (λ c. not (f c)) (k + 1) cs ≡ n → cond (not b) (Some k) (position_from (λ c. not (f c)) (k + 1) cs) ≡ cond b n (Some k)
      by true e = e
      by false e = refl

  pub first_failing_position : (cs : List T) → position (λ c. not (f c)) cs ≡ first_failing f cs 0
  first_failing_position cs = position_from-zero (λ c. not (f c)) cs ∙ from cs 0

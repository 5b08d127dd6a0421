-- How many places are true, in the library's word.
use Rattle.std.proofs.Common.{◌≡◌, ◌+◌, Bool, true, false, cond, List, ◌∷◌, refl, arith}
use Rattle.std.specs.List.{count_by}
use Rattle.std.proofs.lemmas.List.Recursion.{is_count_by}
use Rattle.registers.specs.Meaning.{counted}

one_more : (b : Bool) (bs : List Bool) → counted (b ∷ bs) ≡ cond b (1 + counted bs) (counted bs)
one_more true bs = omega arith
one_more false bs = refl

pub counted_by : (bs : List Bool) → counted bs ≡ count_by (λ b. b) bs
counted_by = is_count_by counted (λ b. b) refl one_more

-- How much room characters and lines take.
use Rattle.std.proofs.Common.{ℕ, ◌+◌, ◌/◌, ◌%◌, ◌≤◌, Bool, true, false, cond, [], ◌∷◌, length, ltb, arith}
use Rattle.std.specs.Char.{encode_utf8}

-- a character takes at most four bytes
pub encoded_short : (c : ℕ) → length (encode_utf8 c) ≤ 4
unfolding encode_utf8
encoded_short c = by (ltb c 128) (ltb c 2048) (ltb c 65536)
  where
    by : (x y z : Bool)
        → length (cond x (c ∷ []) (cond y ((192 + c / 64) ∷ (128 + c % 64) ∷ []) (cond z ((224 + c / 4096) ∷ (128 + c / 64 % 64) ∷ (128 + c % 64) ∷ []) ((240 + c / 262144) ∷ (128 + c / 4096 % 64) ∷ (128 + c / 64 % 64) ∷ (128 + c % 64) ∷ [])))) ≤ 4
    by true y z = omega arith
    by false true z = omega arith
    by false false true = omega arith
    by false false false = omega arith

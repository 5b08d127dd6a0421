-- A line of a text.
use Rattle.std.specs.Prelude.{ℕ, zero, suc, Bool, true, false, List, [], ◌∷◌}

-- the piece that has so many before it, or the last one, and whether another follows
abbrev pub line_in : ℕ → List (List ℕ) → List ℕ × Bool
line_in n [] = ([], false)
line_in n (p ∷ []) = (p, false)
line_in zero (p ∷ q ∷ ps) = (p, true)
line_in (suc n) (p ∷ q ∷ ps) = line_in n (q ∷ ps)

-- Bytes as printed characters, and columns of them.
use Rattle.std.specs.Prelude.{ℕ, ◌+◌, ◌-◌, ◌/◌, ◌%◌, cond, ◌&&◌, List, [], ◌∷◌, ◌++◌, codes}
use Rattle.std.specs.Prelude.{decimal, length, nat_le, nat_lt, replicate, take, ◌==◌}
use Rattle.std.specs.List.{flat_map}

-- a digit of base 16
abbrev pub digit_of : ℕ → ℕ
digit_of d = cond (nat_lt d 10) (48 + d) (87 + d)

-- a byte by its number
abbrev pub coded : ℕ → List ℕ
coded b = codes "\\x" ++ (digit_of (b / 16) ∷ (digit_of (b % 16) ∷ []))

-- A byte stands for itself from the blank to `~`, but for the stroke that begins escapes.
abbrev pub shown_byte : ℕ → List ℕ
shown_byte b =
    cond (b == 9) (codes "\\t")
    (cond (b == 13) (codes "\\r")
    (cond (b == 92) (codes "\\\\")
    (cond (nat_le 32 b && nat_le b 126) (b ∷ []) (coded b))))

-- a number at the right of a column
abbrev pub right : ℕ → ℕ → List ℕ
right width n = replicate (width - length (decimal n)) 32 ++ decimal n

-- bytes at the left of a column
abbrev pub left : ℕ → List ℕ → List ℕ
left width bytes = flat_map shown_byte bytes ++ replicate (width - length bytes) 32

-- bytes, of which those are cut that a column has no room for
abbrev pub front : ℕ → List ℕ → List ℕ
front width bytes =
    cond (nat_le (length bytes) width) (flat_map shown_byte bytes)
    (flat_map shown_byte (take (width - 3) bytes) ++ codes "...")

-- the same at the left of the column
abbrev pub cut : ℕ → List ℕ → List ℕ
cut width bytes = front width bytes ++ replicate (width - length bytes) 32

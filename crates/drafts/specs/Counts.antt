-- The counts of cells of programs that are made at a size.
use Rattle.std.specs.Prelude.{ℕ, ◌+◌, ◌-◌, ◌%◌, max, nat_eq, if◌then◌else◌}

-- The cells of a bit in so many identities: of a constant 1, 4, 7, ..; of a split 5, 8, ..; of a
-- condition 12, 15, ..
abbrev pub padded_count : ℕ → ℕ
padded_count n = if nat_eq (n % 3) 1 then n else (if nat_eq (n % 3) 2 then max n 5 else max n 12)

-- a function, whose body is such a bit
abbrev pub function_count : ℕ → ℕ
function_count n = padded_count (n - 1) + 1

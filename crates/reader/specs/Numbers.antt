-- Number fields: one to five decimal digits, no zero before another digit, at most 65,535.
use Rattle.std.specs.Prelude.{ℕ, ◌+◌, ◌-◌, ◌*◌, ◌==◌, nat_le, nat_lt, Bool, cond, not, ◌&&◌}
use Rattle.std.specs.Prelude.{List, [], ◌∷◌, length, slice_index, Some, None, Option}
use Rattle.std.specs.Str.{all_ascii_digits}

-- the value of digits, after what came before them
abbrev pub value_from : ℕ → List ℕ → ℕ
value_from acc [] = acc
value_from acc (d ∷ ds) = value_from (acc * 10 + (d - 48)) ds

-- that value, if there are only digits and it is at most 65,535
abbrev pub value_within : ℕ → List ℕ → Option ℕ
value_within acc ds =
    cond (all_ascii_digits ds && nat_le (value_from acc ds) 65535) (Some (value_from acc ds)) None

-- one to five bytes, and no zero before another
abbrev pub shaped : List ℕ → Bool
shaped ds = (not (length ds == 0) && nat_le (length ds) 5)
    && not (slice_index ds 0 == 48 && nat_lt 1 (length ds))

-- the number that a field is
abbrev pub number_in : List ℕ → Option ℕ
number_in ds = cond (shaped ds) (value_within 0 ds) None

-- How programs and listings are written down in samples: in parts, with other bytes for 10 and 9.
use Rattle.std.specs.Prelude.{ℕ, ◌==◌, if◌then◌else◌, List, map}
use Rattle.std.specs.List.{flat_map}

-- a listing in parts, where a stroke stands for byte 10
abbrev pub printed_byte : ℕ → ℕ
printed_byte byte = if byte == 47 then 10 else byte

abbrev pub printed : List (List ℕ) → List ℕ
printed parts = flat_map (map printed_byte) parts

-- a stored program in parts, where a blank stands for byte 9 besides
abbrev pub stored_byte : ℕ → ℕ
stored_byte byte = if byte == 32 then 9 else printed_byte byte

abbrev pub stored : List (List ℕ) → List ℕ
stored parts = flat_map (map stored_byte) parts

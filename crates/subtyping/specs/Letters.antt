-- The letters of types.
use Rattle.std.specs.Prelude.{ℕ}
use Rattle.calculus.specs.Alphabet.{kind_bit, kind_qubit, kind_unit, kind_bang, kind_arrow}
use Rattle.calculus.specs.Alphabet.{kind_pair}
use Rattle.calculus.specs.Types.{Ty, bit, qbit, unit, bang, arrow, tensor}

-- the letter that a type begins with: b, q, u, !, >, *
abbrev pub kind_of : Ty → ℕ
kind_of bit = kind_bit
kind_of qbit = kind_qubit
kind_of unit = kind_unit
kind_of (bang a) = kind_bang
kind_of (arrow a b) = kind_arrow
kind_of (tensor a b) = kind_pair

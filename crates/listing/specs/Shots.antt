-- Stored programs with their whole listings, computed from the text.
use Rattle.std.specs.Prelude.{◌≡◌, ℕ, List, [], ◌∷◌, ◌++◌, replicate, codes}
use Rattle.listing.specs.Listed.{listing_of}
use Rattle.listing.specs.Written.{printed, stored}

-- meas (H (new 0)), a coin toss
abbrev pub coin : List (List ℕ)
coin =
    codes "QL 1/T b/T >/T q/T b/T >/T q/T q/T >/T b/T q/M a 0 0/M m 0 1/M a 0 2/M g 0 4/"
    ∷ codes "M a 0 2/M n 0 7/M 0 0 0/E 10 7/"
    ∷ []

abbrev pub coin_lines : List (List ℕ)
coin_lines = codes "S 3 0/T b/M 0 0/J 0 P 0 0 - -/J 1 G 0 0 - -/J 2 R 0 0 - -/" ∷ []

-- an empty text
abbrev pub empty : List (List ℕ)
empty = []

-- a header of another format, which the reader refuses
abbrev pub other_format : List (List ℕ)
other_format =
    codes "QL 2/T b/M 0 0 0/E 1 1/"
    ∷ []

-- a type after a term, which the reader refuses at line 4
abbrev pub type_after_term : List (List ℕ)
type_after_term =
    codes "QL 1/T b/M 0 0 0/T b/E 2 1/"
    ∷ []

-- a number with a leading zero, which the reader refuses at line 3
abbrev pub leading_zero : List (List ℕ)
leading_zero =
    codes "QL 1/T b/M 0 0 00/E 1 1/"
    ∷ []

-- 257 types, for the last of which there is no room: the reader refuses its line
abbrev pub too_many_types : List (List ℕ)
too_many_types =
    (codes "QL 1/" ∷ replicate 257 (codes "T b/"))
    ++ (codes "M 0 0 0/E 257 1/" ∷ [])

-- gate 8, which there is not, and which the checker refuses
abbrev pub no_such_gate : List (List ℕ)
no_such_gate =
    codes "QL 1/T q/T >/T q/T q/T >/T b/T q/M a 0 0/M g 8 1/M a 0 0/M n 0 4/M 0 0 5/E 7 5/"
    ∷ []

-- a gate that is applied to a bit
abbrev pub gate_on_a_bit : List (List ℕ)
gate_on_a_bit =
    codes "QL 1/T q/T >/T q/T q/T b/M a 0 0/M g 0 1/M 0 0 4/E 5 3/"
    ∷ []

-- nine qubits, for the last of which there is no room: its step is refused
abbrev pub ninth_qubit : List (List ℕ)
ninth_qubit =
    codes "QL 1/T */T q/T */T q/T */T q/T */T q/T */T q/T */T q/T */T q/T */T q/T q/T >/T b/"
    ∷ codes "T q/M p 0 0/M a 0 1/M n 0 17/M 0 0 18/M p 0 2/M a 0 1/M n 0 17/M 0 0 18/M p 0 4/"
    ∷ codes "M a 0 1/M n 0 17/M 0 0 18/M p 0 6/M a 0 1/M n 0 17/M 0 0 18/M p 0 8/M a 0 1/"
    ∷ codes "M n 0 17/M 0 0 18/M p 0 10/M a 0 1/M n 0 17/M 0 0 18/M p 0 12/M a 0 1/M n 0 17/"
    ∷ codes "M 0 0 18/M p 0 14/M a 0 1/M n 0 17/M 0 0 18/M a 0 1/M n 0 17/M 1 0 18/E 20 35/"
    ∷ []

abbrev pub ninth_qubit_lines : List (List ℕ)
ninth_qubit_lines =
    codes "S 8 2/J 0 P 0 0 - -/J 1 P 1 0 - -/J 2 P 2 0 - -/J 3 P 3 0 - -/J 4 P 4 0 - -/"
    ∷ codes "J 5 P 5 0 - -/J 6 P 6 0 - -/J 7 P 7 0 - -/X 42 8/"
    ∷ []

-- a bit that is flipped 256 times, which takes more than 1,000 steps
abbrev pub flips : List (List ℕ)
flips =
    codes "QL 1/T b/T >/T b/T b/T !/T >/T b/T b/T >/T !/T >/T b/T b/T b/M a 0 0/M l 0 1/"
    ∷ codes "M a 0 0/M l 0 8/M a 0 0/M v 0 1/M a 0 0/M v 0 1/M v 1 0/M l 0 4/M a 0 0/M l 0 8/"
    ∷ codes "M a 0 0/M v 0 1/M a 0 0/M v 0 1/M v 1 0/M l 0 4/M a 0 0/M l 0 8/M a 0 0/M v 0 1/"
    ∷ codes "M a 0 0/M v 0 1/M v 1 0/M l 0 4/M a 0 0/M l 0 8/M a 0 0/M v 0 1/M a 0 0/M v 0 1/"
    ∷ codes "M v 1 0/M l 0 4/M a 0 0/M l 0 8/M a 0 0/M v 0 1/M a 0 0/M v 0 1/M v 1 0/M l 0 4/"
    ∷ codes "M a 0 0/M l 0 8/M a 0 0/M v 0 1/M a 0 0/M v 0 1/M v 1 0/M l 0 4/M a 0 0/M l 0 8/"
    ∷ codes "M a 0 0/M v 0 1/M a 0 0/M v 0 1/M v 1 0/M l 0 4/M a 0 0/M l 0 8/M a 0 0/M v 0 1/"
    ∷ codes "M a 0 0/M v 0 1/M v 1 0/M l 0 4/M i 0 0/M v 0 0/M 0 0 0/M 1 0 0/M 0 0 0/E 14 71/"
    ∷ []

pub record TextsAreListed : Type 0 where
  pub of_coin : listing_of (stored coin) ≡ printed coin_lines
  pub of_empty : listing_of (stored empty) ≡ printed (codes "X 15 1/" ∷ [])
  pub of_other_format : listing_of (stored other_format) ≡ printed (codes "X 11 1/" ∷ [])
  pub of_type_after_term : listing_of (stored type_after_term) ≡ printed (codes "X 12 4/" ∷ [])
  pub of_leading_zero : listing_of (stored leading_zero) ≡ printed (codes "X 13 3/" ∷ [])
  pub of_too_many_types : listing_of (stored too_many_types) ≡ printed (codes "X 14 258/" ∷ [])
  pub of_no_such_gate : listing_of (stored no_such_gate) ≡ printed (codes "X 21 1/" ∷ [])
  pub of_gate_on_a_bit : listing_of (stored gate_on_a_bit) ≡ printed (codes "X 26 0/" ∷ [])
  pub of_ninth_qubit : listing_of (stored ninth_qubit) ≡ printed ninth_qubit_lines
  pub of_flips : listing_of (stored flips) ≡ printed (codes "S 1000 1/" ∷ [])

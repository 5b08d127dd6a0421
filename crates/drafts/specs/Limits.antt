-- The terms that programs at a limit are; each node claims a place of the type table.
use Rattle.std.specs.Prelude.{ℕ, zero, suc, ◌+◌, ◌-◌, ◌*◌, ◌/◌, ◌%◌, nat_eq, true, false}
use Rattle.std.specs.Prelude.{List, [], ◌∷◌, ◌++◌, Option, Some, None, if◌then◌else◌}
use Rattle.std.specs.List.{flat_map}
use Rattle.calculus.specs.Alphabet.{op_variable, op_function, op_application}
use Rattle.calculus.specs.declared.cells.TypeCell.{TypeCell}
use Rattle.calculus.specs.declared.cells.TermCell.{TermCell}
use Rattle.calculus.specs.Types.{Ty, bit, bang, arrow, tensor}
use Rattle.calculus.specs.Terms.{bit_of, bound}
use Rattle.calculus.specs.Terms.{Term, var, const, lam, app, pair, if_then_else, let_pair}
use Rattle.calculus.specs.Cells.{type_cells, cell_of}

-- the cells of types, one after the other
abbrev pub table : List Ty → List TypeCell
table types = flat_map type_cells types

-- the types that the programs share: b at 0, b>b at 1, b*b at 4, !(b>b) at 7, and !(b>b)>b at 11
abbrev pub common_types : List Ty
common_types = bit ∷ arrow bit bit ∷ tensor bit bit ∷ bang (arrow bit bit)
    ∷ arrow (bang (arrow bit bit)) bit ∷ []

-- these, and !(b>b)*b at 17
abbrev pub pair_types : List Ty
pair_types = common_types ++ (tensor (bang (arrow bit bit)) bit ∷ [])

abbrev pub zero_bit : Term ℕ
zero_bit = const 0 (bit_of false)

abbrev pub one_bit : Term ℕ
one_bit = const 0 (bit_of true)

-- the identity on bits, so many times around a bit
abbrev pub wrapped : ℕ → Term ℕ → Term ℕ
wrapped zero m = m
wrapped (suc n) m = app 0 (lam 1 (var 0 (bound 0))) (wrapped n m)

-- the right component of a pair of bits, in five cells
abbrev pub right_bit : Term ℕ
right_bit = let_pair 0 (pair 4 zero_bit one_bit) (var 0 (bound 0))

-- a bit of so many cells: of 1, 4, 5, 7, 8 or more than 9
abbrev pub padded_bit : ℕ → Term ℕ
padded_bit n =
    if nat_eq (n % 3) 1 then wrapped (n / 3) zero_bit
    else (if nat_eq (n % 3) 2 then wrapped (n / 3 - 1) right_bit
    else wrapped (n / 3 - 4) (if_then_else 0 right_bit one_bit right_bit))

-- a bit through so many uses of the function that a variable is
abbrev pub used : ℕ → ℕ → Term ℕ
used i zero = zero_bit
used i (suc n) = app 0 (var 1 (bound i)) (used i n)

-- a function of so many cells, which may be copied
abbrev pub padded_function : ℕ → Term ℕ
padded_function n = lam 7 (padded_bit (n - 1))

-- what is written before the term within: so many identities applied, and so many uses
abbrev pub wraps : ℕ → List TermCell
wraps zero = []
wraps (suc n) = wraps n
    ++ (cell_of op_application 0 0 ∷ cell_of op_function 0 1 ∷ cell_of op_variable 0 0 ∷ [])

abbrev pub calls : ℕ → ℕ → List TermCell
calls i zero = []
calls i (suc n) = calls i n ++ (cell_of op_application 0 0 ∷ cell_of op_variable i 1 ∷ [])

-- so many functions of a bit, one in the other's result, around a bit
abbrev pub nested_type : ℕ → Ty
nested_type zero = bit
nested_type (suc n) = arrow bit (nested_type n)

-- that type at 0, with its bit at twice the count, and b*b behind it
abbrev pub nested_types : ℕ → List Ty
nested_types n = nested_type n ∷ tensor bit bit ∷ []

-- functions one in the other, the first of which claims a place and each other one its part
abbrev pub nested : ℕ → ℕ → Term ℕ → Term ℕ
nested p zero m = m
nested p (suc n) m = lam p (nested (p + 2) n m)

-- what is in them, where a bit's type is at a place b: this variable, or a split
abbrev pub innermost_term : ℕ → Option ℕ → Term ℕ
innermost_term b (Some i) = var b (bound i)
innermost_term b None = let_pair b
    (pair (b + 1) (const b (bit_of false)) (const b (bit_of false))) (var b (bound 0))

-- so many functions around that
abbrev pub binders_term : ℕ → Option ℕ → Term ℕ
binders_term n x = nested 0 n (innermost_term (2 * n) x)

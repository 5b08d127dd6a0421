-- The table of worked terms.
use Rattle.std.specs.Prelude.{ℕ, zero, suc, true, false, List, [], ◌∷◌, ◌++◌, replicate}
use Rattle.std.specs.List.{flat_map}
use Rattle.calculus.specs.Alphabet.{op_function, op_pair, op_condition, op_variable, op_gate}
use Rattle.calculus.specs.Alphabet.{op_qubit, op_unit, op_zero, kind_bit}
use Rattle.calculus.specs.Cells.{kind_cell, cell_of, type_cells}
use Rattle.calculus.specs.Terms.{Const, bit_of, meas, new, gate, bound, held}
use Rattle.calculus.specs.Terms.{Term, var, const, star, lam, app, pair, if_then_else, let_pair}
use Rattle.calculus.specs.Terms.{Running}
use Rattle.calculus.specs.declared.cells.TermCell.{TermCell}
use Rattle.calculus.specs.Types.{Ty, bit, qbit, unit, bang, arrow, tensor, bangs}
use Rattle.calculus.specs.declared.gates.Gate.{Gate}
use Rattle.calculus.specs.declared.gates.Gate.TheVariants.{H, X, Z, S, T, Cnot, Swap, Toffoli}
use Rattle.worked.specs.Rows.{Row, AllHold}
use Rattle.worked.specs.Rows.{passes, fails, refused, accepted_tables, below, not_below, stuck}
use Rattle.worked.specs.Rows.{comes_to}
use Rattle.worked.specs.Written.{type_table, term_table}

abbrev pub plain_zero : Term Ty
plain_zero = const bit (bit_of false)

-- fun x.x, which claims c
abbrev pub identity : Ty → Term Ty
identity c = lam c (var bit (bound 0))

-- (fun x.x) 0, where the function claims c
abbrev pub identity_of_zero : Ty → Term Ty
identity_of_zero c = app bit (identity c) plain_zero

-- fun x.<x, x>, where x has the type a and each component claims b
abbrev pub twice : Ty → Ty → Term Ty
twice a b =
    lam (arrow a (tensor b b)) (pair (tensor b b) (var b (bound 0)) (var b (bound 0)))

-- fun x.fun y.x, a duplicable function in a function, where x has the type a and is used at b
abbrev pub first_of_two : Ty → Ty → Term Ty
first_of_two a b =
    let inner = bang (arrow bit b) in lam (arrow a inner) (lam inner (var b (bound 1)))

-- fun x.if 0 then x else x
abbrev pub in_both_branches : Term Ty
in_both_branches =
    lam (arrow qbit qbit) (if_then_else qbit plain_zero (var qbit (bound 0)) (var qbit (bound 0)))

-- let <x, y> = <0, new 0> in <y, x>
abbrev pub exchanged : Term Ty
exchanged =
    let_pair (tensor qbit bit)
    (pair (tensor bit qbit) plain_zero (app qbit (const (arrow bit qbit) new) plain_zero))
    (pair (tensor qbit bit) (var qbit (bound 0)) (var bit (bound 1)))

-- <0, 1>, where the pair and each part claim so many marks
abbrev pub two_bits : ℕ → Term Ty
two_bits n =
    pair (bangs n (tensor bit bit)) (const (bangs n bit) (bit_of false))
    (const (bangs n bit) (bit_of true))

-- let <x, y> = <0, 1> in <x, x>, where the pair claims so many marks
abbrev pub left_twice : ℕ → Term Ty
left_twice n =
    let_pair (tensor bit bit) (two_bits n)
    (pair (tensor bit bit) (var bit (bound 1)) (var bit (bound 1)))

-- a term that claims a bit, in so many lets of <0, 1>
abbrev pub in_lets : ℕ → Term Ty → Term Ty
in_lets zero m = m
in_lets (suc n) m = let_pair bit (two_bits 0) (in_lets n m)

-- the constants of running terms
abbrev pub zero_bit : Running
zero_bit = const tt (bit_of false)

abbrev pub one_bit : Running
one_bit = const tt (bit_of true)

-- (fun x.0) m
abbrev pub forgets : Running → Running
forgets m = app tt (lam tt zero_bit) m

abbrev pub two_qubits : Ty
two_qubits = tensor qbit qbit

abbrev pub three_qubits : Ty
three_qubits = tensor qbit two_qubits

-- a term's program is refused by the number at the cell
abbrev pub refused_term : Term Ty → ℕ → ℕ → Row
refused_term m number cell = refused (type_table m) (term_table m) number cell

-- fun x.<x, x>, which claims the type at 0; its pair claims that at one place, and both components
-- that at another
abbrev pub shared_twice : (both one : ℕ) → List TermCell
shared_twice both one =
    cell_of op_function 0 0 ∷ cell_of op_pair 0 both ∷ cell_of op_variable 0 one
    ∷ cell_of op_variable 0 one ∷ []

-- fun x.fun y.x, which claims the type at 0, and its parts those at 2 and 1
abbrev pub shared_first : List TermCell
shared_first = cell_of op_function 0 0 ∷ cell_of op_function 0 2 ∷ cell_of op_variable 1 1 ∷ []

-- fun x.if 0 then x else x, which claims the type at 0, and its parts those at 1 and 3
abbrev pub shared_branches : List TermCell
shared_branches =
    cell_of op_function 0 0 ∷ cell_of op_condition 0 1 ∷ cell_of op_zero 0 3
    ∷ cell_of op_variable 0 1 ∷ cell_of op_variable 0 1 ∷ []

-- A constant, with its own type, a greater one, and another.
pub data AtTypes : Type 0 where
  at_types : (k : Const) (own greater another : Ty) → AtTypes

abbrev pub three_rows : AtTypes → List Row
three_rows (at_types k own greater another) =
    passes (const own k) ∷ passes (const greater k) ∷ fails (const another k) 26 0 ∷ []

-- a gate on such qubits, with another type
abbrev pub gate_on : Ty → Gate → Ty → AtTypes
gate_on q u another = at_types (gate u) (bang (arrow q q)) (arrow q q) another

abbrev pub constants : List AtTypes
constants =
    at_types (bit_of false) (bang bit) bit qbit
    ∷ at_types (bit_of true) (bang bit) bit unit
    ∷ at_types new (bang (arrow bit qbit)) (arrow (bang bit) qbit) (bang (arrow bit (bang qbit)))
    ∷ at_types meas (bang (arrow qbit (bang bit))) (arrow qbit bit) (arrow bit bit)
    ∷ gate_on qbit H (arrow qbit bit)
    ∷ gate_on qbit X (arrow bit qbit)
    ∷ gate_on qbit Z (arrow qbit (bang qbit))
    ∷ gate_on qbit S (bang (arrow two_qubits two_qubits))
    ∷ gate_on qbit T qbit
    ∷ gate_on two_qubits Cnot (bang (arrow qbit qbit))
    ∷ gate_on two_qubits Swap (arrow three_qubits three_qubits)
    ∷ gate_on three_qubits Toffoli (arrow three_qubits (tensor two_qubits qbit))
    ∷ []

-- The rows that pass have derivations by all nine rules of Typing.antt. A comment names the rules
-- that the row below it is the first to use.
abbrev pub rows : List Row
rows =
    -- rule_constant
    passes plain_zero
    -- rule_unit
    ∷ passes (star unit)
    ∷ passes (star (bang unit))
    ∷ fails (star bit) 26 0
    -- rule_function, rule_pair and rule_variable
    ∷ passes (twice (bang bit) bit)
    ∷ fails (twice qbit qbit) 27 1
    ∷ fails (twice bit bit) 27 1
    -- rule_duplicable_function, with nothing free and with a duplicable variable free
    ∷ passes (identity (bangs 2 (arrow bit bit)))
    ∷ passes (first_of_two (bang bit) bit)
    ∷ fails (first_of_two qbit qbit) 28 1
    -- rule_condition
    ∷ passes in_both_branches
    -- rule_application
    ∷ passes (identity_of_zero (arrow bit bit))
    ∷ fails (identity_of_zero (bang (arrow bit bit))) 26 0
    -- rule_let, of a plain pair and of a duplicable one
    ∷ passes exchanged
    ∷ passes (left_twice 1)
    ∷ fails (left_twice 0) 27 4
    -- 32 binders, then a 33rd by a let and by a function
    ∷ passes (in_lets 16 plain_zero)
    ∷ refused_term (in_lets 17 plain_zero) 24 64
    ∷ refused_term (in_lets 16 (identity_of_zero (arrow bit bit))) 24 65
    -- variables that nothing binds
    ∷ fails (var bit (bound 0)) 25 0
    ∷ fails (lam (arrow bit bit) (var bit (bound 1))) 25 1
    -- tables that store no program
    ∷ refused (replicate 257 (kind_cell kind_bit)) [] 20 256
    ∷ refused [] (replicate 513 (cell_of op_unit 0 0)) 20 512
    ∷ refused (kind_cell kind_bit ∷ kind_cell op_zero ∷ []) [] 21 1
    ∷ refused [] (cell_of op_unit 1 0 ∷ []) 21 0
    ∷ refused [] (cell_of op_gate 8 0 ∷ []) 21 0
    ∷ refused [] (cell_of op_qubit 0 0 ∷ []) 21 0
    ∷ refused [] [] 22 0
    ∷ refused [] (cell_of op_unit 0 0 ∷ cell_of op_unit 0 0 ∷ []) 22 1
    ∷ refused (kind_cell kind_bit ∷ []) (cell_of op_zero 0 1 ∷ []) 23 0
    -- claims of types that stand inside another claim's
    ∷ refused (type_cells (arrow qbit (tensor qbit qbit))) (shared_twice 2 1) 27 1
    ∷ refused (type_cells (arrow bit (tensor bit bit))) (shared_twice 2 1) 27 1
    ∷ accepted_tables (type_cells (arrow (bang bit) (tensor bit bit))) (shared_twice 3 2)
    ∷ refused (type_cells (arrow qbit (bang (arrow bit qbit)))) shared_first 28 1
    ∷ accepted_tables (type_cells (arrow qbit qbit) ++ type_cells bit) shared_branches
    -- two types
    ∷ below (bang bit) bit
    ∷ not_below bit (bang bit)
    -- running terms
    ∷ stuck (app tt zero_bit one_bit) 36 0
    ∷ comes_to (if_then_else tt one_bit zero_bit one_bit) 1 zero_bit 0
    ∷ comes_to (forgets (app tt (const tt new) zero_bit)) 1 (forgets (var tt (held 0))) 1
    ∷ comes_to (forgets (app tt (const tt new) zero_bit)) 2 zero_bit 0
    -- each constant at its own type, at a greater one, and at another
    ∷ flat_map three_rows constants

abbrev pub WorkedTerms : Type 0
WorkedTerms = AllHold rows

-- How many parts follow a letter.
use Rattle.std.specs.Prelude.{ℕ, Bool, true, false, cond, ◌&&◌, ◌||◌, ◌==◌, nat_lt}
use Rattle.calculus.specs.Alphabet.{kind_bit, kind_qubit, kind_unit, kind_bang, kind_arrow}
use Rattle.calculus.specs.Alphabet.{kind_pair, op_variable, op_qubit, op_gate, op_zero, op_one}
use Rattle.calculus.specs.Alphabet.{op_measure, op_new, op_unit, op_function, op_application}
use Rattle.calculus.specs.Alphabet.{op_pair, op_let, op_condition}
use Rattle.calculus.specs.declared.cells.TermCell.{TermCell}

-- an op: i has three, a, p and d have two, l has one
abbrev pub parts : ℕ → ℕ
parts op =
    cond (op == op_condition) 3
    (cond (op == op_application || op == op_pair || op == op_let) 2
    (cond (op == op_function) 1 0))

-- a kind: > and * have two, ! has one
abbrev pub kind_parts : ℕ → ℕ
kind_parts kind = cond (kind == kind_arrow || kind == kind_pair) 2 (cond (kind == kind_bang) 1 0)

-- a letter is a kind
abbrev pub kind_letter : ℕ → Bool
kind_letter kind =
    kind == kind_bit || kind == kind_qubit || kind == kind_unit
    || kind == kind_bang || kind == kind_arrow || kind == kind_pair

-- the ops whose argument is 0: the constants but gates and qubits, and those with parts
abbrev pub bare_letter : ℕ → Bool
bare_letter op =
    (op == op_zero) || op == op_one || op == op_measure || op == op_new || op == op_unit
    || op == op_function || op == op_application || op == op_pair || op == op_let
    || op == op_condition

-- a cell may stand: a variable with any argument, a qubit in a running term below 32, a gate below
-- 8, others with 0
abbrev pub fit_cell : TermCell → Bool → Bool
fit_cell c running =
    cond (c.op == op_variable) true
    (cond (c.op == op_qubit) (running && nat_lt c.argument 32)
    (cond (c.op == op_gate) (nat_lt c.argument 8)
    (cond (bare_letter c.op) (c.argument == 0) false)))

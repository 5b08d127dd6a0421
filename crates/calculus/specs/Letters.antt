-- What each letter stands for: how many parts follow, and which arguments are allowed.
use Rattle.std.specs.Prelude.{ℕ, Bool, cond, is_some, Some, None, Option, ◌==◌, nat_lt}
use Rattle.calculus.specs.Alphabet.{kind_bit, kind_qubit, kind_unit, kind_bang, kind_arrow}
use Rattle.calculus.specs.Alphabet.{kind_pair, op_variable, op_qubit, op_gate, op_zero, op_one}
use Rattle.calculus.specs.Alphabet.{op_measure, op_new, op_unit, op_function, op_application}
use Rattle.calculus.specs.Alphabet.{op_pair, op_let, op_condition}
use Rattle.calculus.specs.declared.cells.TermCell.{TermCell}
use Rattle.calculus.specs.declared.cells.TypeCell.{TypeCell}
use Rattle.calculus.specs.declared.ops.OpShape.{OpShape}

-- the op letters, and what is none
pub data Letter : Type 0 where
  at_v at_q at_g at_0 at_1 at_m at_n at_s at_l at_a at_p at_d at_i other : Letter

abbrev pub letter : ℕ → Letter
letter op =
    cond (op == op_variable) at_v
    (cond (op == op_qubit) at_q
    (cond (op == op_gate) at_g
    (cond (op == op_zero) at_0
    (cond (op == op_one) at_1
    (cond (op == op_measure) at_m
    (cond (op == op_new) at_n
    (cond (op == op_unit) at_s
    (cond (op == op_function) at_l
    (cond (op == op_application) at_a
    (cond (op == op_pair) at_p
    (cond (op == op_let) at_d
    (cond (op == op_condition) at_i other))))))))))))

abbrev pub parts_of : Letter → ℕ
parts_of at_v = 0
parts_of at_q = 0
parts_of at_g = 0
parts_of at_0 = 0
parts_of at_1 = 0
parts_of at_m = 0
parts_of at_n = 0
parts_of at_s = 0
parts_of at_l = 1
parts_of at_a = 2
parts_of at_p = 2
parts_of at_d = 2
parts_of at_i = 3
parts_of other = 0

-- how many arguments a letter allows, from 0 on: none for what is no op
abbrev pub arguments_of : Letter → ℕ
arguments_of at_v = 65536
arguments_of at_q = 32
arguments_of at_g = 8
arguments_of at_0 = 1
arguments_of at_1 = 1
arguments_of at_m = 1
arguments_of at_n = 1
arguments_of at_s = 1
arguments_of at_l = 1
arguments_of at_a = 1
arguments_of at_p = 1
arguments_of at_d = 1
arguments_of at_i = 1
arguments_of other = 0

abbrev pub shape_of : Letter → Option OpShape
shape_of l =
    cond (arguments_of l == 0) None
    (Some (record { parts = parts_of l; arguments = arguments_of l }))

-- the cell has a known letter and an argument that it allows
abbrev pub allowed : TermCell → Bool
allowed c = nat_lt c.argument (arguments_of (letter c.op))

abbrev pub arity : TermCell → ℕ
arity c = parts_of (letter c.op)

-- the parts of a kind letter: b, q and u have none, ! has one, > and * have two
abbrev pub kind_parts_of : ℕ → Option ℕ
kind_parts_of k =
    cond (k == kind_bit) (Some 0)
    (cond (k == kind_qubit) (Some 0)
    (cond (k == kind_unit) (Some 0)
    (cond (k == kind_bang) (Some 1)
    (cond (k == kind_arrow) (Some 2)
    (cond (k == kind_pair) (Some 2) None)))))

abbrev none_as_zero : Option ℕ → ℕ
none_as_zero None = 0
none_as_zero (Some n) = n

abbrev pub kind_arity : TypeCell → ℕ
kind_arity c = none_as_zero (kind_parts_of c.kind)

abbrev pub known_kind : TypeCell → Bool
known_kind c = is_some (kind_parts_of c.kind)

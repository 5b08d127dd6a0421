-- Stored trees: the constants by their letters.
use Rattle.std.specs.Prelude.{ℕ, cond, Some, None, Option, ◌==◌}
use Rattle.calculus.specs.Alphabet.{op_qubit, op_gate, op_zero, op_one, op_measure, op_new}
use Rattle.calculus.specs.Alphabet.{op_unit}
use Rattle.second.specs.declared.nodes.Constant.{Constant as Leaf}
use Rattle.second.specs.declared.nodes.Constant.TheVariants.{Zero, One, Measure, New, Unit}
use Rattle.second.specs.declared.nodes.Constant.TheVariants.{Gate, Qubit}

-- the constant of an op letter with an argument
abbrev pub constant_of : ℕ → ℕ → Option Leaf
constant_of op argument =
    cond (op == op_zero) (Some Zero)
    (cond (op == op_one) (Some One)
    (cond (op == op_measure) (Some Measure)
    (cond (op == op_new) (Some New)
    (cond (op == op_unit) (Some Unit)
    (cond (op == op_gate) (Some (Gate argument))
    (cond (op == op_qubit) (Some (Qubit argument)) None))))))

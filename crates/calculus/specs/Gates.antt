-- The gates: their numbers, and how many qubits each takes.
use Rattle.std.specs.Prelude.{ℕ, cond, Some, None, Option, ◌==◌}
use Rattle.calculus.specs.declared.gates.Gate.{Gate}
use Rattle.calculus.specs.declared.gates.Gate.TheVariants.{H, X, Z, S, T, Cnot, Swap, Toffoli}

abbrev pub number_of : Gate → ℕ
number_of H = 0
number_of X = 1
number_of Z = 2
number_of S = 3
number_of T = 4
number_of Cnot = 5
number_of Swap = 6
number_of Toffoli = 7

abbrev pub gate_of : ℕ → Option Gate
gate_of n =
    cond (n == 0) (Some H)
    (cond (n == 1) (Some X)
    (cond (n == 2) (Some Z)
    (cond (n == 3) (Some S)
    (cond (n == 4) (Some T)
    (cond (n == 5) (Some Cnot)
    (cond (n == 6) (Some Swap)
    (cond (n == 7) (Some Toffoli) None)))))))

abbrev pub operands_of : Gate → ℕ
operands_of H = 1
operands_of X = 1
operands_of Z = 1
operands_of S = 1
operands_of T = 1
operands_of Cnot = 2
operands_of Swap = 2
operands_of Toffoli = 3

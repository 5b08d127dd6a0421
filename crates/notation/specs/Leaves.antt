-- The notation of a term's leaves.
use Rattle.std.specs.Prelude.{ℕ, ◌-◌, cond, List, [], ◌∷◌, ◌++◌, Option, Some, None, codes}
use Rattle.std.specs.Prelude.{decimal, get_or, nat_lt, ◌==◌}
use Rattle.calculus.specs.Alphabet.{op_variable, op_qubit, op_gate, op_zero, op_one, op_measure}
use Rattle.calculus.specs.Alphabet.{op_new, op_unit}
use Rattle.calculus.specs.Gates.{gate_of}
use Rattle.calculus.specs.declared.cells.TermCell.{TermCell}
use Rattle.calculus.specs.declared.gates.Gate.{Gate}
use Rattle.calculus.specs.declared.gates.Gate.TheVariants.{H, X, Z, S, T, Cnot, Swap, Toffoli}

-- The names of binders, the outermost first.
abbrev pub names : List ℕ
names = codes "xyzuvwfghabcde"

-- a binder with so many around it: the next of the names, and after the last of them x with that
-- number
abbrev pub binder : ℕ → List ℕ
binder level = cond (nat_lt level 14) (get_or names level 0 ∷ []) (codes "x" ++ decimal level)

-- a variable under so many binders: 0 is the nearest of them
abbrev pub variable_text : ℕ → ℕ → List ℕ
variable_text binders i =
    cond (nat_lt i binders) (binder (binders - 1 - i))
    (codes "(free " ++ (decimal i ++ codes ")"))

abbrev pub gate_name : ℕ → Option Gate → List ℕ
gate_name n (Some H) = codes "H"
gate_name n (Some X) = codes "X"
gate_name n (Some Z) = codes "Z"
gate_name n (Some S) = codes "S"
gate_name n (Some T) = codes "T"
gate_name n (Some Cnot) = codes "CNOT"
gate_name n (Some Swap) = codes "SWAP"
gate_name n (Some Toffoli) = codes "TOF"
gate_name n None = codes "(gate " ++ (decimal n ++ codes ")")

abbrev pub gate_text : ℕ → List ℕ
gate_text n = gate_name n (gate_of n)

-- a qubit with its handle
abbrev pub qubit_text : ℕ → List ℕ
qubit_text handle = codes "|" ++ (decimal handle ++ codes ">")

-- a leaf under so many binders, by its letter: v, g, q, m, n, s, 0, 1
abbrev pub leaf_text : ℕ → TermCell → List ℕ
leaf_text binders c =
    cond (c.op == op_variable) (variable_text binders c.argument)
    (cond (c.op == op_gate) (gate_text c.argument)
    (cond (c.op == op_qubit) (qubit_text c.argument)
    (cond (c.op == op_measure) (codes "meas")
    (cond (c.op == op_new) (codes "new")
    (cond (c.op == op_unit) (codes "*")
    (cond (c.op == op_zero) (codes "0")
    (cond (c.op == op_one) (codes "1") (codes "?"))))))))

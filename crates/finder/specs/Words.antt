-- The rules by the first cells of values, which tell as much as the terms that the cells mean.
use Rattle.std.specs.Prelude.{ℕ, ◌==◌, Bool, true, false, cond, ◌&&◌, ◌||◌}
use Rattle.std.specs.Prelude.{List, [], ◌∷◌, Some, None, Option}
use Rattle.std.specs.Bool.{then_some}
use Rattle.calculus.specs.Alphabet.{op_qubit, op_gate, op_zero, op_one, op_measure, op_new}
use Rattle.calculus.specs.Alphabet.{op_function, op_pair}
use Rattle.calculus.specs.declared.cells.TermCell.{TermCell}
use Rattle.calculus.specs.Gates.{number_of}
use Rattle.calculus.specs.declared.gates.Gate.TheVariants.{Cnot, Swap, Toffoli}
use Rattle.finder.specs.declared.rules.Rule.{Rule}
use Rattle.finder.specs.declared.rules.Rule.TheVariants.{Function, Pair, Then, Else}
use Rattle.finder.specs.declared.rules.Rule.TheVariants.{Prepare, Read, Gates}

-- the ops of the cells begin with the letters of the word
abbrev pub spelt : List ℕ → List TermCell → Bool
spelt [] cs = true
spelt (w ∷ ws) [] = false
spelt (w ∷ ws) (c ∷ cs) = c.op == w && spelt ws cs

-- the ops of the qubits that a gate takes: q, pqq or pqpqq
abbrev pub operand_word : ℕ → List ℕ
operand_word u =
    cond (u == number_of Cnot) (op_pair ∷ op_qubit ∷ op_qubit ∷ [])
    (cond (u == number_of Swap) (op_pair ∷ op_qubit ∷ op_qubit ∷ [])
    (cond (u == number_of Toffoli) (op_pair ∷ op_qubit ∷ op_pair ∷ op_qubit ∷ op_qubit ∷ [])
    (op_qubit ∷ [])))

-- the rule for a value with the letter `op` applied to the value that the cells begin with
abbrev pub applied_of : ℕ → ℕ → List TermCell → Option Rule
applied_of op i cs =
    cond (op == op_function) (Some Function)
    (cond (op == op_new) (then_some (spelt (op_zero ∷ []) cs || spelt (op_one ∷ []) cs) Prepare)
    (cond (op == op_measure) (then_some (spelt (op_qubit ∷ []) cs) Read)
    (cond (op == op_gate) (then_some (spelt (operand_word i) cs) Gates) None)))

-- the rule for a condition that is a value with the letter
abbrev pub branched_of : ℕ → Option Rule
branched_of op = cond (op == op_zero) (Some Else) (cond (op == op_one) (Some Then) None)

-- the rule for a let of a value with the letter
abbrev pub opened_of : ℕ → Option Rule
opened_of op = then_some (op == op_pair) Pair

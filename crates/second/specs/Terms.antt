-- Running terms that are values: qubits, pairs of them, and what rule a value allows.
use Rattle.std.specs.Prelude.{ℕ, Bool, cond, Some, None, Option, nat_lt}
use Rattle.second.specs.declared.nodes.Constant.{Constant as Leaf}
use Rattle.second.specs.declared.nodes.Constant.TheVariants.{Zero, One, Measure, New, Unit}
use Rattle.second.specs.declared.nodes.Constant.TheVariants.{Gate, Qubit}
use Rattle.second.specs.declared.terms.Term.{Term}
use Rattle.second.specs.declared.terms.Term.TheVariants.{Variable, Constant}
use Rattle.second.specs.declared.terms.Term.TheVariants.{Lambda', Apply', Pair', Split', Choose'}
use Rattle.second.specs.declared.seeks.SecondRule.{SecondRule}
use Rattle.second.specs.declared.seeks.SecondRule.TheVariants.{Function, Pair as pair_rule}
use Rattle.second.specs.declared.seeks.SecondRule.TheVariants.{Then, Else, Prepare, Read, Gates}
use Rattle.second.specs.declared.tape.Operands.{Operands}
use Rattle.second.specs.declared.tape.Operands.TheVariants.{One as one_operand, Two as two_operands}
use Rattle.second.specs.declared.tape.Operands.TheVariants.{Three as three_operands}

abbrev pub leaf_qubit : Leaf → Option ℕ
leaf_qubit Zero = None
leaf_qubit One = None
leaf_qubit Measure = None
leaf_qubit New = None
leaf_qubit Unit = None
leaf_qubit (Gate g) = None
leaf_qubit (Qubit h) = Some h

-- the handle of a term that is a qubit
abbrev pub qubit_of : Term → Option ℕ
qubit_of (Variable x) = None
qubit_of (Constant c) = leaf_qubit c
qubit_of (Lambda' x p body) = None
qubit_of (Apply' p a q b) = None
qubit_of (Pair' p a q b) = None
qubit_of (Split' x y p a q b) = None
qubit_of (Choose' p a q b r c) = None

abbrev pub both : {X Y : Type 0} → Option X → Option Y → Option (X × Y)
both None y = None
both (Some x) None = None
both (Some x) (Some y) = Some (x, y)

-- the handles of a term that is a pair of qubits
abbrev pub two_qubits_of : Term → Option (ℕ × ℕ)
two_qubits_of (Variable x) = None
two_qubits_of (Constant c) = None
two_qubits_of (Lambda' x p body) = None
two_qubits_of (Apply' p a q b) = None
two_qubits_of (Pair' p a q b) = both (qubit_of a) (qubit_of b)
two_qubits_of (Split' x y p a q b) = None
two_qubits_of (Choose' p a q b r c) = None

abbrev one_of : Option ℕ → Option Operands
one_of None = None
one_of (Some h) = Some (one_operand h)

abbrev two_of : Option (ℕ × ℕ) → Option Operands
two_of None = None
two_of (Some hs) = Some (two_operands hs.0 hs.1)

abbrev three_of : Option (ℕ × (ℕ × ℕ)) → Option Operands
three_of None = None
three_of (Some hs) = Some (three_operands hs.0 hs.1.0 hs.1.1)

abbrev pub three_qubits_of : Term → Option (ℕ × (ℕ × ℕ))
three_qubits_of (Variable x) = None
three_qubits_of (Constant c) = None
three_qubits_of (Lambda' x p body) = None
three_qubits_of (Apply' p a q b) = None
three_qubits_of (Pair' p a q b) = both (qubit_of a) (two_qubits_of b)
three_qubits_of (Split' x y p a q b) = None
three_qubits_of (Choose' p a q b r c) = None

-- the qubits of a term, as many as a gate takes: one below 5, two below 7, else one and a pair
abbrev pub operands_of : ℕ → Term → Option Operands
operands_of g t = cond (nat_lt g 5) (one_of (qubit_of t))
    (cond (nat_lt g 7) (two_of (two_qubits_of t)) (three_of (three_qubits_of t)))

-- the constant of a bit
abbrev pub leaf_bit : Bool → Leaf
leaf_bit b = cond b One Zero

abbrev leaf_branch : Leaf → Option SecondRule
leaf_branch Zero = Some Else
leaf_branch One = Some Then
leaf_branch Measure = None
leaf_branch New = None
leaf_branch Unit = None
leaf_branch (Gate g) = None
leaf_branch (Qubit h) = None

-- the rule of a condition that is a value
abbrev pub branch_of : Term → Option SecondRule
branch_of (Variable x) = None
branch_of (Constant c) = leaf_branch c
branch_of (Lambda' x p body) = None
branch_of (Apply' p a q b) = None
branch_of (Pair' p a q b) = None
branch_of (Split' x y p a q b) = None
branch_of (Choose' p a q b r c) = None

-- the rule of a split whose pair is a value
abbrev pub split_of : Term → Option SecondRule
split_of (Variable x) = None
split_of (Constant c) = None
split_of (Lambda' x p body) = None
split_of (Apply' p a q b) = None
split_of (Pair' p a q b) = Some pair_rule
split_of (Split' x y p a q b) = None
split_of (Choose' p a q b r c) = None

abbrev leaf_prepares : Leaf → Option SecondRule
leaf_prepares Zero = Some Prepare
leaf_prepares One = Some Prepare
leaf_prepares Measure = None
leaf_prepares New = None
leaf_prepares Unit = None
leaf_prepares (Gate g) = None
leaf_prepares (Qubit h) = None

abbrev prepares : Term → Option SecondRule
prepares (Variable x) = None
prepares (Constant c) = leaf_prepares c
prepares (Lambda' x p body) = None
prepares (Apply' p a q b) = None
prepares (Pair' p a q b) = None
prepares (Split' x y p a q b) = None
prepares (Choose' p a q b r c) = None

abbrev where_some : {X : Type 0} → Option X → SecondRule → Option SecondRule
where_some None rule = None
where_some (Some x) rule = Some rule

abbrev leaf_applied : Leaf → Term → Option SecondRule
leaf_applied Zero t = None
leaf_applied One t = None
leaf_applied Measure t = where_some (qubit_of t) Read
leaf_applied New t = prepares t
leaf_applied Unit t = None
leaf_applied (Gate g) t = where_some (operands_of g t) Gates
leaf_applied (Qubit h) t = None

-- the rule of a value applied to a value
abbrev pub applied_of : Term → Term → Option SecondRule
applied_of (Variable x) t = None
applied_of (Constant c) t = leaf_applied c t
applied_of (Lambda' x p body) t = Some Function
applied_of (Apply' p a q b) t = None
applied_of (Pair' p a q b) t = None
applied_of (Split' x y p a q b) t = None
applied_of (Choose' p a q b r c) t = None

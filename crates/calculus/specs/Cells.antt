-- How types and terms are written as cells, in prefix order.
use Rattle.std.specs.Prelude.{ℕ, true, false, List, [], ◌∷◌, ◌++◌, map}
use Rattle.calculus.specs.Alphabet.{kind_bit, kind_qubit, kind_unit, kind_bang, kind_arrow}
use Rattle.calculus.specs.Alphabet.{kind_pair, op_variable, op_qubit, op_gate, op_zero, op_one}
use Rattle.calculus.specs.Alphabet.{op_measure, op_new, op_unit, op_function, op_application}
use Rattle.calculus.specs.Alphabet.{op_pair, op_let, op_condition}
use Rattle.calculus.specs.Types.{Ty, bit, qbit, unit, bang, arrow, tensor}
use Rattle.calculus.specs.Gates.{number_of}
use Rattle.calculus.specs.Terms.{Const, bit_of, meas, new, gate, Var, bound, held, Term, var, const}
use Rattle.calculus.specs.Terms.{star, lam, app, pair, if_then_else, let_pair, reclaimed, Running}
use Rattle.calculus.specs.declared.cells.TypeCell.{TypeCell}
use Rattle.calculus.specs.declared.cells.TermCell.{TermCell}

abbrev pub kind_cell : ℕ → TypeCell
kind_cell k = record { kind = k }

-- a type's cells: b, q, u, !, >, *
abbrev pub type_cells : Ty → List TypeCell
type_cells bit = kind_cell kind_bit ∷ []
type_cells qbit = kind_cell kind_qubit ∷ []
type_cells unit = kind_cell kind_unit ∷ []
type_cells (bang a) = kind_cell kind_bang ∷ type_cells a
type_cells (arrow a b) = kind_cell kind_arrow ∷ (type_cells a ++ type_cells b)
type_cells (tensor a b) = kind_cell kind_pair ∷ (type_cells a ++ type_cells b)

-- the op letter of a leaf and its argument: v, q, 0, 1, m, n, g
abbrev pub const_op : Const → ℕ
const_op (bit_of false) = op_zero
const_op (bit_of true) = op_one
const_op meas = op_measure
const_op new = op_new
const_op (gate u) = op_gate

abbrev pub const_argument : Const → ℕ
const_argument (bit_of b) = 0
const_argument meas = 0
const_argument new = 0
const_argument (gate u) = number_of u

abbrev pub var_op : Var → ℕ
var_op (bound i) = op_variable
var_op (held h) = op_qubit

abbrev pub var_argument : Var → ℕ
var_argument (bound i) = i
var_argument (held h) = h

abbrev pub cell_of : ℕ → ℕ → ℕ → TermCell
cell_of op argument claim = record { op = op; argument = argument; claim = claim }

-- a new cell, and what is read past the last one
abbrev pub blank : TermCell
blank = record { op = 0; argument = 0; claim = 0 }

-- A term's cells, where each node's claim is a place in a type table. The letters are s, l, a, p, i
-- and d, and those of the leaves.
abbrev pub placed_cells : Term ℕ → List TermCell
placed_cells (var c x) = cell_of (var_op x) (var_argument x) c ∷ []
placed_cells (const c k) = cell_of (const_op k) (const_argument k) c ∷ []
placed_cells (star c) = cell_of op_unit 0 c ∷ []
placed_cells (lam c m) = cell_of op_function 0 c ∷ placed_cells m
placed_cells (app c m n) = cell_of op_application 0 c ∷ (placed_cells m ++ placed_cells n)
placed_cells (pair c m n) = cell_of op_pair 0 c ∷ (placed_cells m ++ placed_cells n)
placed_cells (if_then_else c p m n) =
    cell_of op_condition 0 c ∷ (placed_cells p ++ (placed_cells m ++ placed_cells n))
placed_cells (let_pair c m n) = cell_of op_let 0 c ∷ (placed_cells m ++ placed_cells n)

-- a running term's cells: every claim is 0
abbrev pub running_cells : Running → List TermCell
running_cells m = placed_cells (reclaimed (λ c. 0) m)

-- the cells with every claim 0
abbrev pub unclaimed : List TermCell → List TermCell
unclaimed cs = map (λ c. cell_of c.op c.argument 0) cs

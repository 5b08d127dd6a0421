-- The types and the terms of the calculus, as trees that are shown.
use Rattle.std.specs.Prelude.{◌≡◌, ℕ, List, ◌∷◌, ◌++◌}
use Rattle.calculus.specs.Alphabet.{kind_bit, kind_qubit, kind_unit, op_unit}
use Rattle.calculus.specs.Cells.{cell_of, const_argument, const_op, placed_cells, type_cells}
use Rattle.calculus.specs.Cells.{var_argument, var_op}
use Rattle.calculus.specs.Terms.{Term, var, const, star, lam, app, pair as pair_term, if_then_else}
use Rattle.calculus.specs.Terms.{let_pair as let_term}
use Rattle.calculus.specs.Types.{Ty, bit, qbit, unit, bang, arrow as arrow_type}
use Rattle.calculus.specs.Types.{tensor as tensor_type}
use Rattle.calculus.specs.declared.cells.TermCell.{TermCell}
use Rattle.calculus.specs.declared.cells.TypeCell.{TypeCell}
use Rattle.notation.specs.Terms.{TermTree, leaf, function, application, pair, let_pair, condition}
use Rattle.notation.specs.Terms.{term_trees}
use Rattle.notation.specs.Types.{TypeTree, plain, marked, arrow, tensor, type_trees}

-- the tree of a type: b, q, u
abbrev pub type_tree : Ty → TypeTree
type_tree bit = plain kind_bit
type_tree qbit = plain kind_qubit
type_tree unit = plain kind_unit
type_tree (bang a) = marked (type_tree a)
type_tree (arrow_type a b) = arrow (type_tree a) (type_tree b)
type_tree (tensor_type a b) = tensor (type_tree a) (type_tree b)

-- the tree of a term
abbrev pub term_tree : Term ℕ → TermTree
term_tree (var c x) = leaf (cell_of (var_op x) (var_argument x) c)
term_tree (const c k) = leaf (cell_of (const_op k) (const_argument k) c)
term_tree (star c) = leaf (cell_of op_unit 0 c)
term_tree (lam c m) = function (term_tree m)
term_tree (app c m n) = application (term_tree m) (term_tree n)
term_tree (pair_term c m n) = pair (term_tree m) (term_tree n)
term_tree (if_then_else c p m n) = condition (term_tree p) (term_tree m) (term_tree n)
term_tree (let_term c m n) = let_pair (term_tree m) (term_tree n)

-- The cells of a type or of a term make its tree, whatever cells follow.
pub record TreesAreMeant : Type 0 where
  pub types : (a : Ty) (cs : List TypeCell)
      → type_trees (type_cells a ++ cs) ≡ type_tree a ∷ type_trees cs
  pub terms : (m : Term ℕ) (cs : List TermCell)
      → term_trees (placed_cells m ++ cs) ≡ term_tree m ∷ term_trees cs

-- Substitution on cells: one walk over trees that puts values for the variables of the binders
-- around them.
use Rattle.std.specs.Prelude.{ℕ, zero, suc, ◌+◌, ◌-◌, cond, List, [], ◌∷◌, ◌++◌, map, ◌==◌, nat_lt}
use Rattle.std.specs.Borrow.{Bor}
use Rattle.calculus.specs.Alphabet.{op_variable}
use Rattle.calculus.specs.Letters.{Letter, letter, other, at_v, at_q, at_g, at_0, at_1}
use Rattle.calculus.specs.Letters.{at_m, at_n, at_s, at_l, at_a, at_p, at_d, at_i}
use Rattle.calculus.specs.declared.cells.TermCell.{TermCell}
use Rattle.stepper.specs.Writing.{running_cell}

-- how many binders stand around each part of a node that has k of them around it
abbrev pub depths : Letter → ℕ → List ℕ
depths at_v k = []
depths at_q k = []
depths at_g k = []
depths at_0 k = []
depths at_1 k = []
depths at_m k = []
depths at_n k = []
depths at_s k = []
depths at_l k = suc k ∷ []
depths at_a k = k ∷ k ∷ []
depths at_p k = k ∷ k ∷ []
depths at_d k = k ∷ suc (suc k) ∷ []
depths at_i k = k ∷ k ∷ k ∷ []
depths other k = []

-- the values for the variables of some binders, the nearer first
abbrev pub values_of : List (Bor (List TermCell)) → List (List TermCell)
values_of vs = map (λ v. v.now) vs

-- what stands for the variable k + j: a value, or past the values the variable that it is without
-- their binders
abbrev pub value_cells : ℕ → List (List TermCell) → ℕ → List TermCell
value_cells k [] j = running_cell op_variable (k + j) ∷ []
value_cells k (v ∷ vs) zero = v
value_cells k (v ∷ vs) (suc j) = value_cells k vs j

-- what stands for a cell under k binders
abbrev pub substitute_cell : List (List TermCell) → ℕ → TermCell → List TermCell
substitute_cell vs k c = cond (c.op == op_variable)
    (cond (nat_lt c.argument k) (c ∷ []) (value_cells k vs (c.argument - k)))
    (c ∷ [])

-- what stands for the trees that the cells begin with, one for each number of binders around it
abbrev pub substitute : List (List TermCell) → List ℕ → List TermCell → List TermCell
substitute vs [] cs = []
substitute vs (k ∷ ks) [] = []
substitute vs (k ∷ ks) (c ∷ cs) =
    substitute_cell vs k c ++ substitute vs (depths (letter c.op) k ++ ks) cs

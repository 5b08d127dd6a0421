-- A term written out as a stored program: the type table has the claims of its nodes, one after the
-- other in tree order.
use Rattle.std.specs.Prelude.{ℕ, ◌+◌, List, [], ◌∷◌, ◌++◌, length}
use Rattle.std.specs.List.{flat_map}
use Rattle.calculus.specs.Cells.{type_cells, placed_cells, cell_of}
use Rattle.calculus.specs.Terms.{Term, reclaimed}
use Rattle.calculus.specs.Terms.{var, const, star, lam, app, pair, if_then_else, let_pair}
use Rattle.calculus.specs.Types.{Ty}
use Rattle.calculus.specs.declared.cells.TypeCell.{TypeCell}
use Rattle.calculus.specs.declared.cells.TermCell.{TermCell}

abbrev pub claims : Term Ty → List Ty
claims (var c x) = c ∷ []
claims (const c k) = c ∷ []
claims (star c) = c ∷ []
claims (lam c m) = c ∷ claims m
claims (app c m n) = c ∷ (claims m ++ claims n)
claims (pair c m n) = c ∷ (claims m ++ claims n)
claims (if_then_else c p m n) = c ∷ (claims p ++ (claims m ++ claims n))
claims (let_pair c m n) = c ∷ (claims m ++ claims n)

-- the cells, claiming the types that stand one after the other from a place on
abbrev pub claiming : ℕ → List Ty → List TermCell → List TermCell
claiming k [] cs = []
claiming k (t ∷ ts) [] = []
claiming k (t ∷ ts) (c ∷ cs) =
    cell_of c.op c.argument k ∷ claiming (k + length (type_cells t)) ts cs

abbrev pub type_table : Term Ty → List TypeCell
type_table m = flat_map type_cells (claims m)

abbrev pub term_table : Term Ty → List TermCell
term_table m = claiming 0 (claims m) (placed_cells (reclaimed (λ c. 0) m))

-- The trees that cells begin with, and the cells after them. Where cells end before their trees,
-- all are taken and none is left.
use Rattle.std.specs.Prelude.{ℕ, zero, suc, ◌+◌, List, [], ◌∷◌}
use Rattle.calculus.specs.Letters.{arity}
use Rattle.calculus.specs.declared.cells.TermCell.{TermCell}

-- the cells of as many trees as are due
abbrev pub taken : ℕ → List TermCell → List TermCell
taken zero cs = []
taken (suc due) [] = []
taken (suc due) (c ∷ cs) = c ∷ taken (due + arity c) cs

-- the cells after them
abbrev pub after : ℕ → List TermCell → List TermCell
after zero cs = cs
after (suc due) [] = []
after (suc due) (c ∷ cs) = after (due + arity c) cs

-- The terms that the cells of a program mean.
use Rattle.std.specs.Prelude.{ℕ, List}
use Rattle.calculus.specs.declared.cells.TypeCell.{TypeCell}
use Rattle.calculus.specs.declared.cells.TermCell.{TermCell}
use Rattle.calculus.specs.Reading.{type_at, term_at}
use Rattle.calculus.specs.Terms.{Term, reclaimed}
use Rattle.calculus.specs.Types.{Ty}

-- the term at a place, with the types that its claims mean
abbrev pub meaning : List TypeCell → List TermCell → ℕ → Term Ty
meaning types terms at = reclaimed (type_at types) (term_at terms at)

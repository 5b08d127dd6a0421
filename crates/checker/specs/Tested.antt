-- What tables have that passed their tests.
use Rattle.std.specs.Prelude.{ℕ, ◌≤◌, T, List, length}
use Rattle.calculus.specs.declared.limits.TheConstants.{MOST_TYPE_CELLS, MOST_TERM_CELLS}
use Rattle.calculus.specs.declared.cells.TypeCell.{TypeCell}
use Rattle.calculus.specs.declared.cells.TermCell.{TermCell}
use Rattle.calculus.specs.Reading.{every, TypesStand, TermsStand}
use Rattle.checker.specs.Ending.{EndsFrom}
use Rattle.checker.specs.Tables.{storable, claim_in}

-- What tables have that passed their tests.
pub record Tested (types : List TypeCell) (terms : List TermCell) : Type 0 where
  pub types_stand : TypesStand types
  pub few_types : length types ≤ MOST_TYPE_CELLS
  pub terms_stand : TermsStand terms
  pub few_terms : length terms ≤ MOST_TERM_CELLS
  pub stored : T (every storable terms)
  pub claims : T (every (claim_in (length types)) terms)

-- Such tables, with the end of each tree of the term.
pub record Judged (types : List TypeCell) (terms : List TermCell) (ends : List ℕ) : Type 0 where
  pub tables : Tested types terms
  pub right_ends : EndsFrom 0 terms ends

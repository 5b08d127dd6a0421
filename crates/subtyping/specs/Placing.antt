-- Places of tables where types stand.
use Rattle.std.specs.Prelude.{ℕ, ◌+◌, ◌<◌, ◌≤◌, List, length}
use Rattle.calculus.specs.declared.limits.TheConstants.{MOST_TYPE_CELLS}
use Rattle.calculus.specs.declared.cells.TypeCell.{TypeCell}
use Rattle.calculus.specs.Cells.{type_cells}
use Rattle.calculus.specs.Reading.{type_at, TypesStand}

-- one past the type at a place
abbrev pub type_end : List TypeCell → ℕ → ℕ
type_end types place = place + length (type_cells (type_at types place))

-- The table is whole, of known letters and within its limit, and the place is one of it. The marks
-- are no more than a table has besides those that may stand before the place.
pub record Placed (types : List TypeCell) (marks place : ℕ) : Type 0 where
  pub stands : TypesStand types
  pub few : length types ≤ MOST_TYPE_CELLS
  pub within : place < length types
  pub few_marks : marks ≤ MOST_TYPE_CELLS + place

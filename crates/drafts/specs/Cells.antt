-- The cells that drafts are written in.
use Rattle.std.specs.Prelude.{◌≡◌, ℕ, ◌<◌, min, Bool, true, false, List, ◌++◌, length, drop, nat_eq}
use Rattle.std.specs.List.{starts_with}
use Rattle.calculus.specs.declared.cells.TypeCell.{TypeCell}
use Rattle.calculus.specs.declared.cells.TermCell.{TermCell}
use Rattle.calculus.specs.Cells.{cell_of}

-- a term cell by its op, argument and claim
abbrev pub term_cell : ℕ × ℕ × ℕ → TermCell
term_cell c = cell_of c.0 c.1 c.2

abbrev pub same_cell : TypeCell → TypeCell → Bool
same_cell a b = nat_eq a.kind b.kind

-- whether a type's cells stand in the table from the place on
abbrev pub stands : List TypeCell → List TypeCell → ℕ → Bool
stands code types p = starts_with same_cell (drop p types) code

-- The place that a type has: the first one where its cells stand already, or that behind the table,
-- to which they are added.
pub data Placed (code types after : List TypeCell) (place : ℕ) : Type 0 where
  found : (p : ℕ) → stands code types p ≡ true
      → ((k : ℕ) → k < p → stands code types k ≡ false)
      → after ≡ types → place ≡ min p 65535 → Placed code types after place
  added : ((k : ℕ) → k < length types → stands code types k ≡ false)
      → after ≡ types ++ code → place ≡ min (length types) 65535 → Placed code types after place

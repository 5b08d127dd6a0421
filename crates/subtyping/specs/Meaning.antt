-- The types that are meant, by their places and the marks in front of them.
use Rattle.std.specs.Prelude.{◌≡◌, ℕ, ◌+◌, ◌≤◌, List}
use Rattle.calculus.specs.declared.cells.TypeCell.{TypeCell}
use Rattle.calculus.specs.Reading.{type_at}
use Rattle.calculus.specs.Stripping.{marks}
use Rattle.calculus.specs.Types.{Ty, bangs}
use Rattle.subtyping.specs.Placing.{type_end}
use Rattle.subtyping.specs.declared.placed.TypeAt.{TypeAt}

-- the type at the place
abbrev pub standing : TypeAt → Ty
standing a = type_at a.types.now a.place

-- the type that is meant: the marks, then the type at the place
abbrev pub meant : TypeAt → Ty
meant a = bangs a.marks (standing a)

-- one past the type
abbrev pub past : TypeAt → ℕ
past a = type_end a.types.now a.place

-- The type at this place of the table, as it stands.
pub record Bare (types : List TypeCell) (place : ℕ) (a : TypeAt) : Type 0 where
  pub same_table : a.types.now ≡ types
  pub no_marks : a.marks ≡ 0
  pub same_place : a.place ≡ place

-- So many marks, before the type at this place of the table.
pub record Marked (types : List TypeCell) (marks place : ℕ) (a : TypeAt) : Type 0 where
  pub same_table : a.types.now ≡ types
  pub same_marks : a.marks ≡ marks
  pub same_place : a.place ≡ place

-- All the leading marks of the type are counted, and the place after them is found.
pub record Stripped (a : TypeAt) (answer : ℕ × TypeAt) : Type 0 where
  pub count : answer.0 ≡ a.marks + marks (standing a)
  pub few : answer.0 ≤ a.marks + 255
  pub left_over : Bare a.types.now (a.place + marks (standing a)) answer.1

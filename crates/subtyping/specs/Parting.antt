-- Types taken apart where they stand.
use Rattle.std.specs.Prelude.{◌≡◌, ℕ, ◌+◌, ◌≤◌, List}
use Rattle.calculus.specs.declared.cells.TypeCell.{TypeCell}
use Rattle.calculus.specs.Stripping.{marks, left_of, right_of}
use Rattle.calculus.specs.Types.{Ty, bit, qbit, unit, arrow, tensor, bangs}
use Rattle.subtyping.specs.Meaning.{meant, past, standing, Bare, Marked}
use Rattle.subtyping.specs.declared.parting.Core.{Core}
use Rattle.subtyping.specs.declared.parting.Core.TheVariants.{Bit, Qubit, Unit as Empty}
use Rattle.subtyping.specs.declared.parting.Core.TheVariants.{Arrow, Pair}
use Rattle.subtyping.specs.declared.placed.TypeAt.{TypeAt}

-- the type that is meant by what stands after the marks
abbrev pub core_meant : Core → Ty
core_meant Bit = bit
core_meant Qubit = qbit
core_meant Empty = unit
core_meant (Arrow a b) = arrow (meant a) (meant b)
core_meant (Pair a b) = tensor (meant a) (meant b)

-- Two parts stand one after the other in a table, from the place after a letter's.
pub record PartsStand (types : List TypeCell) (place : ℕ) (first second : TypeAt) : Type 0 where
  pub first_bare : Bare types (place + 1) first
  pub second_bare : Bare types (past first) second

-- the parts of an arrow or a pair whose letter is at a place
abbrev pub PartsAt : List TypeCell → ℕ → Core → Type 0
PartsAt types place Bit = Unit {0}
PartsAt types place Qubit = Unit {0}
PartsAt types place Empty = Unit {0}
PartsAt types place (Arrow a b) = PartsStand types place a b
PartsAt types place (Pair a b) = PartsStand types place a b

-- The type is what stands after the marks that were counted, with them in front of it. The parts
-- stand where they are said to.
pub record Apart (a : TypeAt) (answer : ℕ × Core) : Type 0 where
  pub is : meant a ≡ bangs answer.0 (core_meant answer.1)
  pub count : answer.0 ≡ a.marks + marks (standing a)
  pub few : answer.0 ≤ a.marks + 255
  pub parts : PartsAt a.types.now (a.place + marks (standing a)) answer.1

-- The components of a pair, each under all the marks of the whole, and where it stands.
pub record Components (a left right : TypeAt) : Type 0 where
  pub left_is : meant left ≡ left_of (meant a)
  pub right_is : meant right ≡ right_of (meant a)
  pub left_at : Marked a.types.now (a.marks + marks (standing a))
      (a.place + marks (standing a) + 1) left
  pub right_at : Marked a.types.now (a.marks + marks (standing a)) (past left) right

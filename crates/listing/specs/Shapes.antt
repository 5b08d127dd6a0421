-- The shapes of listings, and where T and M lines stand.
use Rattle.std.specs.Prelude.{◌≡◌, ℕ, ◌⊎◌, List, [], ◌∷◌, Contains, codes}
use Rattle.calculus.specs.Cells.{type_cells}
use Rattle.calculus.specs.Reduction.{Value}
use Rattle.calculus.specs.Terms.{Running}
use Rattle.calculus.specs.Types.{Ty}
use Rattle.calculus.specs.declared.cells.TermCell.{TermCell}
use Rattle.finder.specs.Laws.{Means}
use Rattle.controller.specs.declared.faults.ControllerFault.{ControllerFault}
use Rattle.controller.specs.declared.faults.Stop.TheVariants.{Value as AtValue, Budget, Refused}
use Rattle.registers.specs.declared.journal.Entry.{Entry}
use Rattle.listing.specs.Listed.{lines_of_text}
use Rattle.listing.specs.Listing.{refusal_line, run_lines, steps_line}

-- A listing has one of four shapes: of a program that was not loaded, of a run to a value of the
-- calculus, whose cells are told with those of a type, of a run that spent its budget, and of one
-- that was refused a step, whose place is the steps made.
pub data Shape : List (List (List ℕ)) → Type 0 where
  not_loaded : (number place : ℕ) → Shape (refusal_line number place ∷ [])
  at_value : (steps : ℕ) (type : Ty) (cells : List TermCell) (journal : List Entry) (v : Running)
      → Means cells v → Value v → Shape (run_lines steps AtValue (type_cells type) cells journal)
  at_budget : (journal : List Entry) → Shape (run_lines 1000 Budget [] [] journal)
  at_refusal : (steps : ℕ) (fault : ControllerFault) (journal : List Entry)
      → Shape (run_lines steps (Refused fault steps) [] [] journal)

-- a T line or an M line
abbrev pub TellsCell : List (List ℕ) → Type 0
TellsCell [] = ⊥
TellsCell (letter ∷ fields) = (letter ≡ codes "T") ⊎ (letter ≡ codes "M")

pub record ListingsHaveShapes : Type 0 where
  pub shape : (text : List ℕ) → Shape (lines_of_text text)
  -- a line of a cell stands only where the S line has stop 0
  pub only_for_a_value : (text : List ℕ) (line : List (List ℕ)) → Contains (lines_of_text text) line
      → TellsCell line → (steps : ℕ) × Contains (lines_of_text text) (steps_line steps AtValue)

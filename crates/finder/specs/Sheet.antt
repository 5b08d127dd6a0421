-- The sheet of the finder's refusals, one constructor to a row, and the order in which they are
-- tried.
use Rattle.std.specs.Prelude.{◌≡◌, ℕ, ◌<◌, ◌⊎◌, ◌↔◌, false, List, ◌∷◌, ◌++◌, length}
use Rattle.std.specs.Prelude.{Some, Ok, Err, Option, Result}
use Rattle.std.specs.List.{slice_get}
use Rattle.calculus.specs.declared.limits.TheConstants.{MOST_RUNNING_CELLS}
use Rattle.calculus.specs.Cells.{placed_cells}
use Rattle.calculus.specs.Letters.{allowed}
use Rattle.calculus.specs.Reduction.{Effect, Reduces}
use Rattle.calculus.specs.Terms.{Term, Running, size}
use Rattle.calculus.specs.declared.cells.TermCell.{TermCell}
use Rattle.finder.specs.Due.{Due}
use Rattle.finder.specs.Faults.{number_of}
use Rattle.finder.specs.Finding.{answer}
use Rattle.finder.specs.Laws.{Means}
use Rattle.finder.specs.declared.rules.Rule.{Rule}
use Rattle.finder.specs.declared.faults.FindFault.{FindFault}
use Rattle.finder.specs.declared.faults.FindReason.{FindReason}
use Rattle.finder.specs.declared.faults.FindReason.TheVariants.{TooManyCells, BadCell, NotWhole}
use Rattle.finder.specs.declared.faults.FindReason.TheVariants.{NoRule}

-- The row of this reason holds at this cell.
pub data Row (cells : List TermCell) : FindReason → ℕ → Type 0 where
  too_many : MOST_RUNNING_CELLS < length cells
      → Row cells TooManyCells MOST_RUNNING_CELLS
  not_allowed : {k : ℕ} (c : TermCell) → slice_get cells k ≡ Some c → allowed c ≡ false
      → Row cells BadCell k
  unfinished : ((m : Term ℕ) (cs : List TermCell) → cells ≡ placed_cells m ++ cs → ⊥)
      → Row cells NotWhole 0
  left_over : (m : Term ℕ) (c : TermCell) (cs : List TermCell) → cells ≡ placed_cells m ++ (c ∷ cs)
      → Row cells NotWhole (size m)
  no_rule : {k : ℕ} (m p : Running) → Means cells m → Due m k p
      → ((e : Effect) (n : Running) → Reduces p e n → ⊥) → Row cells NoRule k

-- the lower number is first, and of one number the earlier cell
abbrev pub Before : FindReason → ℕ → FindReason → ℕ → Type 0
Before r k q j = (number_of r < number_of q) ⊎ ((number_of r ≡ number_of q) × (k < j))

-- the fault is of a row that holds, before which none does
abbrev pub IsFirst : List TermCell → FindFault → Type 0
IsFirst cells f = Row cells f.reason f.cell
    × ((r : FindReason) (k : ℕ) → Row cells r k → Before r k f.reason f.cell → ⊥)

-- the answer that the sheet gives: a fault where it is the first row's, and none where a row holds
abbrev pub Answers : List TermCell → Result (Option (Rule × ℕ)) FindFault → Type 0
Answers cells (Ok x) = (r : FindReason) (k : ℕ) → Row cells r k → ⊥
Answers cells (Err f) = IsFirst cells f

-- The finder refuses by the first row that holds, and answers a value or a step exactly where none
-- does.
pub record FirstRowAnswers : Type 0 where
  pub refused : (cells : List TermCell) (f : FindFault) → IsFirst cells f ↔ (answer cells ≡ Err f)
  pub accepted : (cells : List TermCell)
      → ((r : FindReason) (k : ℕ) → Row cells r k → ⊥)
      ↔ ((x : Option (Rule × ℕ)) × (answer cells ≡ Ok x))

-- The sheet of refusals of a program: the rows of its tables, those of the term that they store,
-- and the order in which they are tried.
use Rattle.std.specs.Prelude.{◌≡◌, ℕ, ◌<◌, ◌≤◌, ◌↔◌, false, List, [], ◌∷◌, ◌++◌, length, Some}
use Rattle.std.specs.List.{flat_map, slice_get}
use Rattle.calculus.specs.declared.limits.TheConstants.{MOST_TYPE_CELLS, MOST_TERM_CELLS}
use Rattle.calculus.specs.Cells.{type_cells, placed_cells}
use Rattle.calculus.specs.Terms.{Term, size}
use Rattle.calculus.specs.Types.{Ty}
use Rattle.calculus.specs.declared.cells.TypeCell.{TypeCell}
use Rattle.calculus.specs.declared.cells.TermCell.{TermCell}
use Rattle.checker.specs.Accepting.{Stores, program_verdict}
use Rattle.checker.specs.Tables.{known_kind, storable}
use Rattle.verdict.specs.Faults.{Verdict, number_of, fault}
use Rattle.verdict.specs.Sheet.{Spot, HoldsFrom, Before, fault_at, Answers}
use Rattle.verdict.specs.declared.faults.CheckFault.{CheckFault}
use Rattle.verdict.specs.declared.faults.CheckReason.{CheckReason}
use Rattle.verdict.specs.declared.faults.CheckReason.TheVariants.{TooManyCells, BadCell}
use Rattle.verdict.specs.declared.faults.CheckReason.TheVariants.{NotWhole, ClaimOutside}

pub data Table : Type 0 where
  type_table term_table : Table

-- where a row may hold: at a cell of a table, or at a part of the term
pub data Place : Type 0 where
  in_table : CheckReason → Table → ℕ → Place
  in_term : Spot → Place

-- The row of this reason holds for a table, at this cell.
pub data TableRow (types : List TypeCell) (terms : List TermCell) : CheckReason → Table → ℕ
    → Type 0 where
  too_many_types : MOST_TYPE_CELLS < length types
      → TableRow types terms TooManyCells type_table MOST_TYPE_CELLS
  too_many_terms : MOST_TERM_CELLS < length terms
      → TableRow types terms TooManyCells term_table MOST_TERM_CELLS
  no_kind : {k : ℕ} (c : TypeCell) → slice_get types k ≡ Some c → known_kind c ≡ false
      → TableRow types terms BadCell type_table k
  not_storable : {k : ℕ} (c : TermCell) → slice_get terms k ≡ Some c → storable c ≡ false
      → TableRow types terms BadCell term_table k
  types_unfinished : ((ts : List Ty) → types ≡ flat_map type_cells ts → ⊥)
      → TableRow types terms NotWhole type_table 0
  term_unfinished : ((m : Term ℕ) (cs : List TermCell) → terms ≡ placed_cells m ++ cs → ⊥)
      → TableRow types terms NotWhole term_table 0
  cells_left_over : (m : Term ℕ) (c : TermCell) (cs : List TermCell)
      → terms ≡ placed_cells m ++ (c ∷ cs) → TableRow types terms NotWhole term_table (size m)
  claim_outside : {k : ℕ} (c : TermCell) → slice_get terms k ≡ Some c → length types ≤ c.claim
      → TableRow types terms ClaimOutside term_table k

-- a row holds for the program at a place: for a table, or for the term that the tables store
abbrev pub Holds : List TypeCell → List TermCell → Place → Type 0
Holds types terms (in_table r t k) = TableRow types terms r t k
Holds types terms (in_term s) = (m : Term Ty) × Stores types terms m × HoldsFrom 0 [] m s

-- Which of two rows is first: those of the tables go by number, types before terms, the first cell
-- before others, and then those of the term.
pub data Sooner : Place → Place → Type 0 where
  lower_number : {r q : CheckReason} {t u : Table} {k j : ℕ} → number_of r < number_of q
      → Sooner (in_table r t k) (in_table q u j)
  types_first : {r : CheckReason} {k j : ℕ}
      → Sooner (in_table r type_table k) (in_table r term_table j)
  earlier_cell : {r : CheckReason} {t : Table} {k j : ℕ} → k < j
      → Sooner (in_table r t k) (in_table r t j)
  tables_first : {r : CheckReason} {t : Table} {k : ℕ} {s : Spot}
      → Sooner (in_table r t k) (in_term s)
  within_the_term : {s t : Spot} → Before s t → Sooner (in_term s) (in_term t)

abbrev pub fault_of : Place → CheckFault
fault_of (in_table r t k) = fault r k
fault_of (in_term s) = fault_at s

-- The verdict on a program is the first row that holds, and no other answer is.
abbrev pub FirstRowAnswers : Type 0
FirstRowAnswers = (types : List TypeCell) (terms : List TermCell) (v : Verdict)
    → Answers (Holds types terms) Sooner fault_of v ↔ (program_verdict types terms ≡ v)

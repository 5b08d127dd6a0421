-- The verdict on a whole program, and what it decides.
use Rattle.std.specs.Prelude.{◌≡◌, ℕ, ◌≤◌, Bool, T, ◌↔◌, List, length, is_ok}
use Rattle.calculus.specs.declared.limits.TheConstants.{MOST_TYPE_CELLS, MOST_TERM_CELLS}
use Rattle.calculus.specs.Cells.{placed_cells}
use Rattle.calculus.specs.Contexts.{empty}
use Rattle.calculus.specs.Reading.{type_at, every, TypesStand}
use Rattle.calculus.specs.Terms.{Term, claim_of, reclaimed}
use Rattle.calculus.specs.Types.{Ty}
use Rattle.calculus.specs.Typing.{Derives, Claimed}
use Rattle.calculus.specs.declared.cells.TypeCell.{TypeCell}
use Rattle.calculus.specs.declared.cells.TermCell.{TermCell}
use Rattle.checker.specs.Meaning.{meaning}
use Rattle.checker.specs.Tables.{storable, claim_in, tables_tested}
use Rattle.verdict.specs.Faults.{Verdict, accepted, ◌then◌}
use Rattle.verdict.specs.Judging.{verdict}
use Rattle.verdict.specs.Uses.{nested}

-- the tests of the tables, then the verdict on the term that they mean
abbrev pub program_verdict : List TypeCell → List TermCell → Verdict
program_verdict types terms = tables_tested types terms then verdict (meaning types terms 0)

abbrev pub accepts : List TypeCell → List TermCell → Bool
accepts types terms = is_ok (program_verdict types terms)

-- The tables store the term m, within the limits. The type table is whole trees of known kinds. The
-- term table is the cells of one term, which claims places of the type table and names no qubit.
pub record Stores (types : List TypeCell) (terms : List TermCell) (m : Term Ty) : Type 0 where
  pub types_stand : TypesStand types
  pub few_types : length types ≤ MOST_TYPE_CELLS
  pub few_terms : length terms ≤ MOST_TERM_CELLS
  pub stored : T (every storable terms)
  pub claims : T (every (claim_in (length types)) terms)
  pub placed : Term ℕ
  pub cells : terms ≡ placed_cells placed
  pub means : m ≡ reclaimed (type_at types) placed

-- The tables store a term that has a derivation by the typing rules, with its claims, and nests at
-- most 32 binders.
abbrev pub IsDerivable : List TypeCell → List TermCell → Type 0
IsDerivable types terms = (m : Term Ty) × (Stores types terms m
    × ((nested m ≤ 32) × Derives Claimed empty m (claim_of m)))

-- Two tables are accepted just where what they store is derivable.
abbrev pub CheckingIsExact : Type 0
CheckingIsExact = (types : List TypeCell) (terms : List TermCell)
    → (program_verdict types terms ≡ accepted) ↔ IsDerivable types terms

-- What a row of the table of worked terms may say, each in the product's own definitions and in the
-- calculus' relations.
use Rattle.std.specs.Prelude.{◌≡◌, ℕ, zero, suc, true, false, List, [], ◌∷◌}
use Rattle.std.specs.Prelude.{Some, None, Ok, Err, Option, Result}
use Rattle.calculus.specs.Cells.{running_cells}
use Rattle.calculus.specs.Contexts.{empty}
use Rattle.calculus.specs.Reduction.{Value, Effect, Reduces}
use Rattle.calculus.specs.Runs.{Runs}
use Rattle.calculus.specs.Stripping.{subtype}
use Rattle.calculus.specs.Terms.{Term, claim_of, Running}
use Rattle.calculus.specs.Types.{Ty, Sub}
use Rattle.calculus.specs.Typing.{Derives, Claimed}
use Rattle.calculus.specs.declared.cells.TypeCell.{TypeCell}
use Rattle.calculus.specs.declared.cells.TermCell.{TermCell}
use Rattle.checker.specs.Accepting.{Stores, program_verdict}
use Rattle.controller.specs.Asking.{on_ok}
use Rattle.controller.specs.Stepping.{Made, stepped}
use Rattle.controller.specs.declared.faults.ControllerFault.{ControllerFault}
use Rattle.finder.specs.Faults.{number_of as number_found}
use Rattle.finder.specs.Finding.{answer}
use Rattle.finder.specs.declared.faults.FindFault.{FindFault}
use Rattle.finder.specs.declared.rules.Rule.{Rule}
use Rattle.registers.specs.Bits.{Bits, level_changes, new_level}
use Rattle.registers.specs.Meaning.{counted}
use Rattle.registers.specs.Telling.{level_tells}
use Rattle.verdict.specs.Faults.{Verdict, accepted, number_of}
use Rattle.worked.specs.Written.{type_table, term_table}

-- the number and the cell of a refusal
abbrev pub refusal : Verdict → Option (ℕ × ℕ)
refusal (Ok x) = None
refusal (Err f) = Some (number_of f.reason, f.cell)

abbrev pub find_refusal : Result (Option (Rule × ℕ)) FindFault → Option (ℕ × ℕ)
find_refusal (Ok x) = None
find_refusal (Err f) = Some (number_found f.reason, f.cell)

-- a term's verdict when it is written out as a program
abbrev pub verdict_on : Term Ty → Verdict
verdict_on m = program_verdict (type_table m) (term_table m)

-- The term passes, and has a derivation with its claims.
pub record Passes (m : Term Ty) : Type 0 where
  pub verdict : verdict_on m ≡ accepted
  pub stored : Stores (type_table m) (term_table m) m
  pub derivation : Derives Claimed empty m (claim_of m)

-- The term is refused by the number at the cell, and has no derivation with its claims.
pub record Fails (m : Term Ty) (number cell : ℕ) : Type 0 where
  pub verdict : refusal (verdict_on m) ≡ Some (number, cell)
  pub stored : Stores (type_table m) (term_table m) m
  pub no_derivation : Derives Claimed empty m (claim_of m) → ⊥

-- The finder refuses the running term by the number at the cell: it is no value and takes no step.
pub record Stuck (m : Running) (number cell : ℕ) : Type 0 where
  pub finds : find_refusal (answer (running_cells m)) ≡ Some (number, cell)
  pub no_value : Value m → ⊥
  pub no_step : (e : Effect) (n : Running) → Reduces m e n → ⊥

-- the cells and the register after so many of the controller's steps, on a level
abbrev pub after_steps : ℕ → Made Bits → Result (Made Bits) ControllerFault
after_steps zero a = Ok a
after_steps (suc n) a =
    on_ok (stepped level_changes (level_tells a.register) a.cells) (after_steps n)

-- the term, and a new level of 8 qubits and 64 pulses
abbrev pub begun : Running → Made Bits
begun m = record { cells = running_cells m; register = new_level 8 64 }

-- So many steps lead from one term to the other, and so many qubits are live then.
pub record ComesTo (m : Running) (steps : ℕ) (n : Running) (live : ℕ) : Type 0 where
  pub last : Made Bits
  pub made : after_steps steps (begun m) ≡ Ok last
  pub cells : last.cells ≡ running_cells n
  pub live_count : counted last.register.live ≡ live
  pub runs : Runs m n

pub data Row : Type 0 where
  -- of a term with its claims
  passes : (m : Term Ty) → Row
  fails : (m : Term Ty) (number cell : ℕ) → Row
  -- of tables that need not store a term
  refused : (types : List TypeCell) (terms : List TermCell) (number cell : ℕ) → Row
  -- of tables, which may have several cells claim one place, or a place inside another's type
  accepted_tables : (types : List TypeCell) (terms : List TermCell) → Row
  -- of two types
  below : (a b : Ty) → Row
  not_below : (a b : Ty) → Row
  -- of a running term
  stuck : (m : Running) (number cell : ℕ) → Row
  comes_to : (m : Running) (steps : ℕ) (n : Running) (live : ℕ) → Row

-- what the row says
abbrev pub Holds : Row → Type 0
Holds (passes m) = Passes m
Holds (fails m number cell) = Fails m number cell
Holds (refused types terms number cell) =
    refusal (program_verdict types terms) ≡ Some (number, cell)
Holds (accepted_tables types terms) = program_verdict types terms ≡ accepted
Holds (below a b) = (subtype a b ≡ true) × Sub a b
Holds (not_below a b) = (subtype a b ≡ false) × (Sub a b → ⊥)
Holds (stuck m number cell) = Stuck m number cell
Holds (comes_to m steps n live) = ComesTo m steps n live

-- each row of a table holds
infixr 5 ◌also◌
pub data AllHold : List Row → Type 0 where
  no_more : AllHold []
  ◌also◌ : {r : Row} {rows : List Row} → Holds r → AllHold rows → AllHold (r ∷ rows)

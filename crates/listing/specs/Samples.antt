-- Runs with the listings that are printed of them.
use Rattle.std.specs.Prelude.{◌≡◌, ℕ, true, false, List, [], ◌∷◌, map, codes}
use Rattle.calculus.specs.declared.cells.TermCell.{TermCell}
use Rattle.calculus.specs.declared.cells.TypeCell.{TypeCell}
use Rattle.calculus.specs.declared.gates.Gate.TheVariants.{H, Cnot, Toffoli}
use Rattle.controller.specs.declared.faults.ControllerFault.TheVariants.{Register}
use Rattle.controller.specs.declared.faults.Stop.{Stop}
use Rattle.controller.specs.declared.faults.Stop.TheVariants.{Value, Budget, Refused as StepRefused}
use Rattle.registers.specs.declared.fault.RegisterReason.TheVariants.{Full}
use Rattle.registers.specs.declared.journal.Entry.{Entry}
use Rattle.registers.specs.declared.journal.Entry.TheVariants.{Prepare, Gate, Read}
use Rattle.listing.specs.Lines.{text_of}
use Rattle.listing.specs.Listing.{run_lines, refusal_line}
use Rattle.listing.specs.Written.{printed}

-- type cells by their letters
abbrev kinds : List ℕ → List TypeCell
kinds letters = map (λ k. record { kind = k }) letters

abbrev cell : ℕ → ℕ → TermCell
cell op argument = record { op = op; argument = argument; claim = 0 }

-- the text of a run's lines
abbrev run_text : ℕ → Stop → List TypeCell → List TermCell → List Entry → List ℕ
run_text steps stop kinds value journal = text_of (run_lines steps stop kinds value journal)

pub record SamplesAreListed : Type 0 where
  -- meas (H (new 0)), a coin toss
  pub coin : run_text 3 Value (kinds (codes "b")) (cell 48 0 ∷ [])
      (Prepare 0 false ∷ Gate H (0 ∷ 0 ∷ 0 ∷ []) ∷ Read 0 false ∷ [])
      ≡ printed (codes "S 3 0/T b/M 0 0/J 0 P 0 0 - -/J 1 G 0 0 - -/J 2 R 0 0 - -/" ∷ [])
  -- a pair of two qubits, after gates on two and on three
  pub pair : run_text 14 Value (kinds (codes "*qq")) (cell 112 0 ∷ cell 113 6 ∷ cell 113 1 ∷ [])
      (Prepare 6 true ∷ Gate Cnot (6 ∷ 1 ∷ 0 ∷ []) ∷ Gate Toffoli (1 ∷ 6 ∷ 2 ∷ []) ∷ [])
      ≡ printed (codes "S 14 0/T */T q/T q/M p 0/M q 6/M q 1/"
      ∷ codes "J 0 P 6 1 - -/J 1 G 5 6 1 -/J 2 G 7 1 6 2/" ∷ [])
  -- 1,000 steps and no value
  pub budget : run_text 1000 Budget [] [] (Read 3 true ∷ [])
      ≡ printed (codes "S 1000 1/J 0 R 3 1 - -/" ∷ [])
  -- no room for a qubit at the next step
  pub full : run_text 16 (StepRefused (Register (record { reason = Full; depth = 0 })) 16) [] []
      (Prepare 7 false ∷ [])
      ≡ printed (codes "S 16 2/J 0 P 7 0 - -/X 42 16/" ∷ [])
  -- an empty file
  pub unread : text_of (refusal_line 15 1 ∷ []) ≡ printed (codes "X 15 1/" ∷ [])

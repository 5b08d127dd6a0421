-- What the rule at a cell asks of the register, and the register's answer.
use Rattle.std.specs.Prelude.{ℕ, Bool, if◌then◌else◌, List, [], ◌∷◌}
use Rattle.std.specs.Prelude.{Ok, Err, Result, ◌==◌, nat_lt, slice_get}
use Rattle.std.specs.Option.{ok_or}
use Rattle.calculus.specs.Alphabet.{op_one}
use Rattle.calculus.specs.declared.gates.Gate.{Gate}
use Rattle.calculus.specs.declared.gates.Gate.TheVariants.{H, X, Z, S, T, Cnot, Swap, Toffoli}
use Rattle.calculus.specs.declared.cells.TermCell.{TermCell}
use Rattle.calculus.specs.Gates.{gate_of}
use Rattle.finder.specs.declared.rules.Rule.{Rule}
use Rattle.finder.specs.declared.rules.Rule.TheVariants.{Function, Pair, Then, Else}
use Rattle.finder.specs.declared.rules.Rule.TheVariants.{Prepare, Read, Gates}
use Rattle.registers.specs.declared.fault.RegisterFault.{RegisterFault}
use Rattle.registers.specs.Telling.{Told}
use Rattle.registers.specs.Meaning.{Meaning, Changes, after_prepare, after_gate, after_read}
use Rattle.registers.specs.Answers.{prepare_answer, gate_answer, read_answer}
use Rattle.stepper.specs.declared.writing.Answer.{Answer}
use Rattle.stepper.specs.declared.writing.Answer.TheVariants.{Nothing, Handle, Outcome}
use Rattle.controller.specs.declared.faults.ControllerFault.{ControllerFault}
use Rattle.controller.specs.declared.faults.ControllerFault.TheVariants.{NoRule, Register}

-- what is made of an answer, if there is one
abbrev pub on_ok : {A B F : Type 0} → Result A F → (A → Result B F) → Result B F
on_ok (Ok x) f = f x
on_ok (Err e) f = Err e

abbrev pub if_ok : {A B F : Type 0} → Result A F → B → (A → B) → B
if_ok (Ok x) b f = f x
if_ok (Err e) b f = b

-- A cell of those from a redex on. Where they end before it there is no rule for them.
abbrev pub cell_at : List TermCell → ℕ → Result TermCell ControllerFault
cell_at cs at = ok_or (slice_get cs at) NoRule

-- the argument of a cell, where it is a handle
abbrev pub handle_in : TermCell → Result ℕ ControllerFault
handle_in c = if nat_lt c.argument 32 then Ok c.argument else Err NoRule

abbrev pub qubit_at : List TermCell → ℕ → Result ℕ ControllerFault
qubit_at cs at = on_ok (cell_at cs at) handle_in

abbrev pub qubits_at : List TermCell → List ℕ → Result (List ℕ) ControllerFault
qubits_at cs [] = Ok []
qubits_at cs (k ∷ ks) = on_ok (qubit_at cs k) (λ h. on_ok (qubits_at cs ks) (λ hs. Ok (h ∷ hs)))

-- the places of a gate's qubits in the cells of its redex: one, a pair, or one and a pair
abbrev pub qubit_places : Gate → List ℕ
qubit_places H = 2 ∷ []
qubit_places X = 2 ∷ []
qubit_places Z = 2 ∷ []
qubit_places S = 2 ∷ []
qubit_places T = 2 ∷ []
qubit_places Cnot = 3 ∷ 4 ∷ []
qubit_places Swap = 3 ∷ 4 ∷ []
qubit_places Toffoli = 3 ∷ 5 ∷ 6 ∷ []

-- What the cells ask for: the bit that is prepared, the qubit that is read, or the gate that is
-- applied.
abbrev pub bit_asked : List TermCell → Result Bool ControllerFault
bit_asked cs = on_ok (cell_at cs 2) (λ c. Ok (c.op == op_one))

abbrev pub qubit_asked : List TermCell → Result ℕ ControllerFault
qubit_asked cs = qubit_at cs 2

abbrev pub gate_asked : List TermCell → Result Gate ControllerFault
gate_asked cs = on_ok (cell_at cs 1) (λ c. ok_or (gate_of c.argument) NoRule)

-- a gate with its qubits
abbrev pub request : List TermCell → Result (Gate × List ℕ) ControllerFault
request cs = on_ok (gate_asked cs) (λ u. on_ok (qubits_at cs (qubit_places u)) (λ hs. Ok (u, hs)))

-- an answer as a step takes it, and a refusal entire
abbrev pub passed : {A : Type 0} → (A → Answer) → Result A RegisterFault
    → Result Answer ControllerFault
passed f (Ok x) = Ok (f x)
passed f (Err e) = Err (Register e)

module _ {C : Type 0} (r : Told C) (cs : List TermCell) where
  abbrev pub asked : Rule → Result Answer ControllerFault
  asked Function = Ok Nothing
  asked Pair = Ok Nothing
  asked Then = Ok Nothing
  asked Else = Ok Nothing
  asked Prepare =
      on_ok (bit_asked cs) (λ b. passed Handle (prepare_answer r.meaning r.depth r.fresh))
  asked Read =
      on_ok (qubit_asked cs) (λ h. passed Outcome (read_answer r.meaning r.depth h (r.outcome h)))
  asked Gates =
      on_ok (request cs) (λ g. passed (λ _. Nothing) (gate_answer r.meaning r.depth g.0 g.1))

  -- the register after its answer
  abbrev pub after_asked : Changes C → Rule → Meaning C
  after_asked changes Function = r.meaning
  after_asked changes Pair = r.meaning
  after_asked changes Then = r.meaning
  after_asked changes Else = r.meaning
  after_asked changes Prepare =
      if_ok (bit_asked cs) r.meaning (after_prepare changes r.meaning r.fresh)
  after_asked changes Read =
      if_ok (qubit_asked cs) r.meaning (λ h. after_read changes r.meaning h (r.outcome h))
  after_asked changes Gates =
      if_ok (request cs) r.meaning (λ g. after_gate changes r.meaning g.0 g.1)

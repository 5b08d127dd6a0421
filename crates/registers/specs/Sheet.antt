-- The sheet of refusals: which reasons hold for a call, and that the lowest number answers.
use Rattle.std.specs.Prelude.{◌≡◌, ℕ, ◌<◌, ◌≤◌, Bool, false, List, length, Some, None, Ok, Err}
use Rattle.std.specs.Prelude.{Option, Result, ◌≢◌, slice_index}
use Rattle.calculus.specs.Gates.{operands_of}
use Rattle.calculus.specs.declared.gates.Gate.{Gate}
use Rattle.registers.specs.declared.fault.RegisterReason.{RegisterReason}
use Rattle.registers.specs.declared.fault.RegisterReason.TheVariants.{NoPulses, Full}
use Rattle.registers.specs.declared.fault.RegisterReason.TheVariants.{GateNotMade, WrongCount}
use Rattle.registers.specs.declared.fault.RegisterReason.TheVariants.{NotLive, GivenTwice}
use Rattle.registers.specs.declared.fault.RegisterFault.{RegisterFault}
use Rattle.registers.specs.Meaning.{Meaning, Live, counted}
use Rattle.registers.specs.Answers.{number_of, prepare_answer, gate_answer}
use Rattle.registers.specs.Answers.{read_answer, let_go_answer}

-- A call, with what it is given.
pub data Call : Type 0 where
  to_prepare : Bool → Call
  to_gate : Gate → List ℕ → Call
  to_read : ℕ → Call
  to_let_go : ℕ → Call
  to_clear : Call

-- an accepted call of this kind spends a pulse
abbrev pub Spends : Call → Type 0
Spends (to_prepare bit) = Unit {0}
Spends (to_gate gate on) = Unit {0}
Spends (to_read h) = Unit {0}
Spends (to_let_go h) = ⊥
Spends to_clear = ⊥

-- the call is a prepare
abbrev pub Prepares : Call → Type 0
Prepares (to_prepare bit) = Unit {0}
Prepares (to_gate gate on) = ⊥
Prepares (to_read h) = ⊥
Prepares (to_let_go h) = ⊥
Prepares to_clear = ⊥

-- the call is a gate of which something holds
abbrev pub Gates : (Gate → List ℕ → Type 0) → Call → Type 0
Gates P (to_prepare bit) = ⊥
Gates P (to_gate gate on) = P gate on
Gates P (to_read h) = ⊥
Gates P (to_let_go h) = ⊥
Gates P to_clear = ⊥

-- a handle stands in a list
abbrev pub Among : ℕ → List ℕ → Type 0
Among h on = (i : ℕ) × (i < length on) × (slice_index on i ≡ h)

-- some handle stands twice in a list
abbrev pub Twice : List ℕ → Type 0
Twice on = (i : ℕ) × (j : ℕ) × (i < j) × (j < length on) × (slice_index on i ≡ slice_index on j)

-- the call is given the handle
abbrev pub Given : ℕ → Call → Type 0
Given h (to_prepare bit) = ⊥
Given h (to_gate gate on) = Among h on
Given h (to_read k) = k ≡ h
Given h (to_let_go k) = k ≡ h
Given h to_clear = ⊥

module _ {C : Type 0} (m : Meaning C) where
  -- a row of the sheet holds for a call
  abbrev pub Holds : RegisterReason → Call → Type 0
  Holds NoPulses call = Spends call × (m.pulses ≡ 0)
  Holds Full call = Prepares call × (m.capacity ≤ counted m.live)
  Holds GateNotMade call = Gates (λ gate on. m.makes gate ≡ false) call
  Holds WrongCount call = Gates (λ gate on. length on ≢ operands_of gate) call
  Holds NotLive call = (h : ℕ) × Given h call × (Live m h → ⊥)
  Holds GivenTwice call = Gates (λ gate on. Twice on) call

  -- A refusal is a row that holds, and none of a lower number does. Without one, no row holds.
  abbrev pub Exact : Call → Option RegisterReason → Type 0
  Exact call None = (reason : RegisterReason) → Holds reason call → ⊥
  Exact call (Some reason) =
      Holds reason call
      × ((other : RegisterReason) → number_of other < number_of reason → Holds other call → ⊥)

-- the reason of a refusal
abbrev pub reason_of : {A : Type 0} → Result A RegisterFault → Option RegisterReason
reason_of (Ok x) = None
reason_of (Err f) = Some f.reason

-- why a call is refused, if it is
abbrev pub refusal : {C : Type 0} → Meaning C → (RegisterReason → ℕ) → ℕ → Bool → Call
    → Option RegisterReason
refusal m depth fresh outcome (to_prepare bit) = reason_of (prepare_answer m depth fresh)
refusal m depth fresh outcome (to_gate gate on) = reason_of (gate_answer m depth gate on)
refusal m depth fresh outcome (to_read h) = reason_of (read_answer m depth h outcome)
refusal m depth fresh outcome (to_let_go h) = reason_of (let_go_answer m depth h)
refusal m depth fresh outcome to_clear = None

-- Every call is refused exactly so, whatever the depths and the register's own answers are.
abbrev pub RefusalsAreExact : Type 0 → Type 0
RefusalsAreExact C =
    (m : Meaning C) (depth : RegisterReason → ℕ) (fresh : ℕ) (outcome : Bool) (call : Call)
    → Exact m call (refusal m depth fresh outcome call)

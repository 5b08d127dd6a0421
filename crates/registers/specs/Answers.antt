-- What a register answers, by its meaning. If several reasons hold, the lowest number answers.
use Rattle.std.specs.Prelude.{ℕ, Bool, true, cond, not, ◌&&◌, List, [], ◌∷◌, length, Ok, Err}
use Rattle.std.specs.Prelude.{Result, ◌==◌, nat_le}
use Rattle.std.specs.List.{list_all, list_any}
use Rattle.calculus.specs.Gates.{operands_of}
use Rattle.calculus.specs.declared.gates.Gate.{Gate}
use Rattle.registers.specs.declared.fault.RegisterReason.{RegisterReason}
use Rattle.registers.specs.declared.fault.RegisterReason.TheVariants.{NoPulses, Full}
use Rattle.registers.specs.declared.fault.RegisterReason.TheVariants.{GateNotMade, WrongCount}
use Rattle.registers.specs.declared.fault.RegisterReason.TheVariants.{NotLive, GivenTwice}
use Rattle.registers.specs.declared.fault.RegisterFault.{RegisterFault}
use Rattle.registers.specs.Meaning.{Meaning, counted, is_live}

-- the number by which a listing names a reason
abbrev pub number_of : RegisterReason → ℕ
number_of NoPulses = 41
number_of Full = 42
number_of GateNotMade = 43
number_of WrongCount = 44
number_of NotLive = 45
number_of GivenTwice = 46

-- a refusal for a reason, at the depth of that reason
abbrev pub refused : {A : Type 0} → (RegisterReason → ℕ) → RegisterReason → Result A RegisterFault
refused depth reason = Err (record { reason = reason; depth = depth reason })

-- there is no room for one more
abbrev pub is_full : {C : Type 0} → Meaning C → Bool
is_full m = nat_le m.capacity (counted m.live)

-- every handle of a list is live
abbrev pub all_live : List Bool → List ℕ → Bool
all_live live on = list_all (is_live live) on

-- a handle stands in a list
abbrev pub among : ℕ → List ℕ → Bool
among h on = list_any (λ k. h == k) on

-- no handle stands twice in a list
abbrev pub distinct : List ℕ → Bool
distinct [] = true
distinct (h ∷ hs) = not (among h hs) && distinct hs

module _ {C : Type 0} (m : Meaning C) (depth : RegisterReason → ℕ) where
  -- a prepare answers a handle
  abbrev pub prepare_answer : ℕ → Result ℕ RegisterFault
  prepare_answer fresh =
      cond (m.pulses == 0) (refused depth NoPulses)
      (cond (is_full m) (refused depth Full) (Ok fresh))

  -- a gate answers nothing but that it was applied
  abbrev pub gate_answer : Gate → List ℕ → Result (Unit {0}) RegisterFault
  gate_answer gate on =
      cond (m.pulses == 0) (refused depth NoPulses)
      (cond (not (m.makes gate)) (refused depth GateNotMade)
      (cond (not (length on == operands_of gate)) (refused depth WrongCount)
      (cond (not (all_live m.live on)) (refused depth NotLive)
      (cond (not (distinct on)) (refused depth GivenTwice) (Ok tt)))))

  -- whether a handle may be read
  abbrev pub read_allowed : ℕ → Result (Unit {0}) RegisterFault
  read_allowed h =
      cond (m.pulses == 0) (refused depth NoPulses)
      (cond (is_live m.live h) (Ok tt) (refused depth NotLive))

  -- a read answers an outcome
  abbrev pub read_answer : ℕ → Bool → Result Bool RegisterFault
  read_answer h outcome =
      cond (m.pulses == 0) (refused depth NoPulses)
      (cond (is_live m.live h) (Ok outcome) (refused depth NotLive))

  -- a handle that is live may be let go, with no pulse left as well
  abbrev pub let_go_answer : ℕ → Result (Unit {0}) RegisterFault
  let_go_answer h = cond (is_live m.live h) (Ok tt) (refused depth NotLive)

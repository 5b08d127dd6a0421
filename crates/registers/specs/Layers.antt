-- A cap: what a register means under a limit on its live handles, and what passes through.
use Rattle.std.specs.Prelude.{◌≡◌, ℕ, min, cond, Ok, Err, Result, Option, Some, None, nat_le}
use Rattle.std.proofs.Common.{arith}
use Rattle.registers.specs.declared.fault.RegisterReason.{RegisterReason}
use Rattle.registers.specs.declared.fault.RegisterReason.TheVariants.{NoPulses, Full}
use Rattle.registers.specs.declared.fault.RegisterReason.TheVariants.{GateNotMade, WrongCount}
use Rattle.registers.specs.declared.fault.RegisterReason.TheVariants.{NotLive, GivenTwice}
use Rattle.registers.specs.declared.fault.RegisterFault.{RegisterFault}
use Rattle.registers.specs.Depth.{deeper}
use Rattle.registers.specs.Meaning.{Meaning, Changes, Owed, after_prepare, after_gate, after_read}
use Rattle.registers.specs.Meaning.{after_let_go, after_clear}

-- An answer from below, as a cap passes it on. A refusal is one layer deeper.
abbrev pub passed_on : {A : Type 0} → Result A RegisterFault → Result A RegisterFault
passed_on (Ok x) = Ok x
passed_on (Err f) = Err (record f { depth = deeper f.depth })

-- The content of a cap.
pub record Under (C : Type 0) : Type 0 where
  pub limit : ℕ  -- how many handles may be live
  pub below : Meaning C  -- all that the register below means

abbrev pub under : {C : Type 0} → ℕ → Meaning C → Under C
under limit m = record { limit = limit; below = m }

-- what a register means under a limit
abbrev pub capped : {C : Type 0} → ℕ → Meaning C → Meaning (Under C)
capped limit m = record {
  capacity = min limit m.capacity;
  makes = m.makes;
  live = m.live;
  pulses = m.pulses;
  content = under limit m;
}

-- Each call changes what the register below means, and the limit stays.
abbrev pub cap_changes : {C : Type 0} → Changes C → Changes (Under C)
cap_changes changes = record {
  prepared = λ c h bit. under c.limit (after_prepare changes c.below h bit);
  gated = λ c gate on. under c.limit (after_gate changes c.below gate on);
  was_read = λ c h outcome. under c.limit (after_read changes c.below h outcome);
  let_go = λ c h. under c.limit (after_let_go changes c.below h);
  cleared = λ c. under c.limit (after_clear changes c.below);
}

-- What a cap passes up, by its limit and the live count. It refuses for want of room itself, where
-- its limit is reached. All else comes from below, at a depth for each reason.
abbrev pub cap_passes_up : ℕ → ℕ → (RegisterReason → ℕ) → RegisterReason → Option ℕ
cap_passes_up limit count below NoPulses = Some (below NoPulses)
cap_passes_up limit count below Full = cond (nat_le limit count) None (Some (below Full))
cap_passes_up limit count below GateNotMade = Some (below GateNotMade)
cap_passes_up limit count below WrongCount = Some (below WrongCount)
cap_passes_up limit count below NotLive = Some (below NotLive)
cap_passes_up limit count below GivenTwice = Some (below GivenTwice)

-- a meaning but for its content
abbrev pub but_content : {C : Type 0} → Meaning C → Meaning (Unit {0})
but_content m = record {
  capacity = m.capacity;
  makes = m.makes;
  live = m.live;
  pulses = m.pulses;
  content = tt;
}

-- But for the limits that they hold, a cap over a cap is a cap of the smaller limit: all else that
-- they mean is the same, and so is what the register below means.
abbrev pub CapsMerge : Type 0 → Type 0
CapsMerge C =
    (inner outer : ℕ) (m : Meaning C)
    → let two = capped outer (capped inner m) in
    let one = capped (min outer inner) m in
    (but_content two ≡ but_content one) × (two.content.below.content.below ≡ one.content.below)

-- A cap owes what the register below does.
pub capped_owed : {C : Type 0} (limit fresh : ℕ) (m : Meaning C)
    → Owed m fresh → Owed (capped limit m) fresh
capped_owed limit fresh m o = record {
  small = let h = o.small in omega arith;
  wide = o.wide;
  free = λ pulse room. o.free pulse (omega arith);
}

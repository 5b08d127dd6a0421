-- The live handles of a register are no more than its capacity, from a clear on.
use Rattle.std.specs.Prelude.{◌≤◌}
use Rattle.registers.specs.declared.register.Register.{Ghosts}
use Rattle.registers.specs.Meaning.{Meaning, counted}
use Rattle.registers.specs.Deeds.{Deed, clears, Does}

-- the live handles are no more than the capacity
abbrev pub Within : {C : Type 0} → Meaning C → Type 0
Within m = counted m.live ≤ m.capacity

-- It is so after a clear, and every accepted call keeps it.
pub record RoomIsKept {R : Type 0} (kind : Ghosts R) : Type 0 where
  pub cleared : (r s : R) → Does kind r clears s → Within (kind.meaning s)
  pub kept : (r s : R) (d : Deed) → Does kind r d s
      → Within (kind.meaning r) → Within (kind.meaning s)

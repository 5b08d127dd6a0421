-- Each accepted prepare, gate and read spends one pulse, and no other call spends any.
use Rattle.std.specs.Prelude.{◌≡◌, ℕ, ◌+◌}
use Rattle.registers.specs.declared.register.Register.{Ghosts}
use Rattle.registers.specs.Deeds.{Deed, prepares, applies, reads, lets_go, clears, Does}

-- the pulses that a deed spends
abbrev pub cost : Deed → ℕ
cost (prepares h bit) = 1
cost (applies gate on) = 1
cost (reads h outcome) = 1
cost (lets_go h) = 0
cost clears = 0

-- What a deed spends is gone, and no more.
abbrev pub PulsesAreSpent : {R : Type 0} (kind : Ghosts R) → Type 0
PulsesAreSpent {R} kind =
    (r s : R) (d : Deed) → Does kind r d s
    → (kind.meaning s).pulses + cost d ≡ (kind.meaning r).pulses

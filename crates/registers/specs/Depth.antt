-- How deep a refusal is: 0 if it is the register's own, one more for each layer that passes it up.
use Rattle.std.specs.Prelude.{◌≡◌, ℕ, zero, suc, ◌+◌, ◌≤◌, min, Option, Some, None}
use Rattle.registers.specs.declared.fault.RegisterReason.{RegisterReason}

abbrev pub deepest : ℕ
deepest = 65535

-- One layer deeper. The deepest stays.
abbrev pub deeper : ℕ → ℕ
deeper depth = min (depth + 1) deepest

-- the depth of the register's own refusal, or of one that it passes up from a depth below
abbrev pub depth_of : Option ℕ → ℕ
depth_of None = 0
depth_of (Some below) = deeper below

-- the depth of a refusal, by its reason
abbrev pub depths : (RegisterReason → Option ℕ) → RegisterReason → ℕ
depths passed_up reason = depth_of (passed_up reason)

-- a register that is no layer passes nothing up
abbrev pub nothing_passed_up : RegisterReason → Option ℕ
nothing_passed_up _ = None

-- a depth, as it comes up through so many layers
abbrev pub through : ℕ → ℕ → ℕ
through zero depth = depth
through (suc layers) depth = deeper (through layers depth)

-- A register's own refusal is at depth 0. None is deeper than the deepest. Through n layers a
-- refusal is n deeper, as far as that.
pub record DepthsAreCounted : Type 0 where
  pub own : (passed_up : RegisterReason → Option ℕ) (reason : RegisterReason)
      → passed_up reason ≡ None → depths passed_up reason ≡ 0
  pub bounded : (passed_up : RegisterReason → Option ℕ) (reason : RegisterReason)
      → depths passed_up reason ≤ deepest
  pub counted : (layers depth : ℕ) → depth ≤ deepest
      → through layers depth ≡ min (depth + layers) deepest

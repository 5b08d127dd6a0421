-- The sheet of the controller's refusals: a constructor to a row and a call. The register's rows
-- are from its own sheet.
use Rattle.std.specs.Prelude.{◌≡◌, ℕ, ◌<◌, false, ◌⊎◌, length, Some, None, Option}
use Rattle.calculus.specs.declared.limits.TheConstants.{MOST_RUNNING_CELLS}
use Rattle.calculus.specs.declared.gates.Gate.{Gate}
use Rattle.calculus.specs.Types.{Ty}
use Rattle.calculus.specs.Terms.{Running, size}
use Rattle.calculus.specs.Cells.{type_cells}
use Rattle.calculus.specs.Reduction.{Value, Effect, Reduces}
use Rattle.registers.specs.declared.fault.RegisterReason.{RegisterReason}
use Rattle.registers.specs.Answers.{number_of}
use Rattle.registers.specs.Sheet.{Call, Holds as RegisterHolds}
use Rattle.rows.specs.Members.{Program, NamesGate, Member, load, step, run, collect, abandon}
use Rattle.rows.specs.Places.{Place}
use Rattle.rows.specs.Asking.{Calls, Overflows}

-- the cells that a running term may have, and that a work table has to have
abbrev pub most_cells : ℕ
most_cells = MOST_RUNNING_CELLS

module _ {C : Type 0} (p : Place C) where
  abbrev pub Runs : Running → Ty → Type 0
  Runs m a = p.loaded ≡ Some (m, a)

  -- the row of this number holds for the member
  pub data Holds : ℕ → Member → Type 0 where
    nothing_to_step : {w : ℕ} → p.loaded ≡ None → Holds 31 (step w)
    nothing_to_run : {b w : ℕ} → p.loaded ≡ None → Holds 31 (run b w)
    nothing_to_collect : {t k : ℕ} → p.loaded ≡ None → Holds 31 (collect t k)
    nothing_to_abandon : p.loaded ≡ None → Holds 31 abandon
    already_loaded : {x : Program} {m : Running} {a : Ty} → Runs m a → Holds 32 (load x)
    gate_not_made : {x : Program} (u : Gate)
        → NamesGate u x.term → p.register.makes u ≡ false → Holds 33 (load x)
    short_to_step : {w : ℕ} → w < most_cells → Holds 34 (step w)
    short_to_run : {b w : ℕ} → w < most_cells → Holds 34 (run b w)
    step_of_value : {w : ℕ} {m : Running} {a : Ty} → Runs m a → Value m → Holds 35 (step w)
    no_rule : {w : ℕ} {m : Running} {a : Ty} → Runs m a → (Value m → ⊥)
        → ((e : Effect) (n : Running) → Reduces m e n → ⊥) → Holds 36 (step w)
    too_long : {w : ℕ} {m : Running} {a : Ty} → Runs m a
        → Overflows most_cells m → Holds 37 (step w)
    no_value_yet : {t k : ℕ} {m : Running} {a : Ty} → Runs m a
        → (Value m → ⊥) → Holds 38 (collect t k)
    short_to_collect : {t k : ℕ} {m : Running} {a : Ty} → Runs m a
        → (t < size m) ⊎ (k < length (type_cells a)) → Holds 39 (collect t k)
    register_refuses : {w : ℕ} {m : Running} {a : Ty} {call : Call} (reason : RegisterReason)
        → Runs m a → Calls m call → RegisterHolds p.register reason call
        → Holds (number_of reason) (step w)

  -- A member is refused where a row holds for it.
  abbrev pub Refused : Member → Type 0
  Refused x = (number : ℕ) × Holds number x

  -- The number that the sheet gives: one whose row holds where no row of a lower one does, or none
  -- where no row holds.
  abbrev pub Answers : Member → Option ℕ → Type 0
  Answers x None = (number : ℕ) → Holds number x → ⊥
  Answers x (Some number) = Holds number x × ((other : ℕ) → Holds other x → other < number → ⊥)

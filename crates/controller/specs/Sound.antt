-- The three claims, of a controller wherever it is; and when a step of it is refused.
use Rattle.std.specs.Prelude.{◌≡◌, ℕ, ◌≤◌, Bool, true, ◌⊎◌, ◌↔◌, Some, None, Option}
use Rattle.calculus.specs.Types.{Ty}
use Rattle.calculus.specs.Terms.{Running}
use Rattle.calculus.specs.Reduction.{Value}
use Rattle.registers.specs.declared.register.Register.{Ghosts}
use Rattle.registers.specs.Meaning.{Meaning, counted}
use Rattle.rows.specs.Asking.{SpendsPulse, PreparesQubit, Overflows}
use Rattle.rows.specs.Refusing.{most_cells}
use Rattle.rows.specs.Sound.{Sound}
use Rattle.controller.specs.Keeping.{Kept, place_of}
use Rattle.controller.specs.Shots.{Held, held}
use Rattle.controller.specs.declared.control.Controller.{Controller}

module _ {R : Type 0} (kind : Ghosts R) where
  -- Some row leads to where what is held and the register are. It has as many steps since its last
  -- load as are held. The place is sound.
  pub record IsSound (h : Held) (r : R) : Type 0 where
    pub kept : Kept kind.changes h (kind.meaning r)
    pub sound : Sound (place_of kept)

  -- Wherever a controller of this kind of register is, it is sound.
  abbrev pub EveryControllerIsSound : Type 0
  EveryControllerIsSound = (c : Controller R kind) → ∥ IsSound (held c.shot) c.register ∥₁

-- Let the running term be no value, and the work table long enough. Then a step is refused exactly
-- if the next term has too many cells, or the rule spends a pulse and none is left, or it prepares
-- and the live count is at capacity. A step of nothing is refused.
abbrev pub WantStops : {C : Type 0} → Option (Running × Ty) → Meaning C → ℕ → Bool → Type 0
WantStops None r room refused = refused ≡ true
WantStops (Some (m, a)) r room refused =
    most_cells ≤ room → (Value m → ⊥)
    → (refused ≡ true)
    ↔ (Overflows most_cells m
    ⊎ ((SpendsPulse m × (r.pulses ≡ 0))
    ⊎ (PreparesQubit m × (r.capacity ≤ counted r.live))))

-- The same of a call of step, from what is held and a register, which are sound.
pub record StepIsSound {R : Type 0} (kind : Ghosts R) (h : Held) (r : R) (room : ℕ)
    (refused : Bool) : Type 0 where
  pub before : IsSound kind h r
  pub stops : WantStops before.kept.loaded (kind.meaning r) room refused

abbrev pub OnlyWantStopsStep : {R : Type 0} → Ghosts R → Held → R → ℕ → Bool → Type 0
OnlyWantStopsStep kind h r room refused = ∥ StepIsSound kind h r room refused ∥₁

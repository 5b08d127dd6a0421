-- What every call keeps is sound.
use Rattle.std.proofs.Common.{◌≡◌, ◌↔◌, ℕ, Bool, true, Some, None, Option, refl}
use Rattle.std.proofs.Math.Logic.{∥∥₁_map}
use Rattle.calculus.specs.Types.{Ty}
use Rattle.calculus.specs.Terms.{Running}
use Rattle.registers.specs.declared.register.Register.{Ghosts}
use Rattle.registers.specs.Meaning.{Meaning}
use Rattle.rows.specs.Members.{step}
use Rattle.rows.specs.Refusing.{Refused, nothing_to_step}
use Rattle.rows.specs.Sound.{SoundAt}
use Rattle.rows.proofs.Sound.{sound}
use Rattle.controller.specs.Keeping.{Kept, place, place_of}
use Rattle.controller.specs.Shots.{Held, held}
use Rattle.controller.specs.Sound.{IsSound, EveryControllerIsSound, WantStops, OnlyWantStopsStep}
use Rattle.controller.proofs.Stepping.{kept_place}

wants : {C : Type 0} (o : Option (Running × Ty)) (r : Meaning C) (room : ℕ) (refused : Bool) → SoundAt o (place o r) → (refused ≡ true) ↔ Refused (place o r) (step room) → WantStops o r room refused
wants None r room refused s e = e.1 (31, nothing_to_step refl)
wants (Some (m, a)) r room refused s e = λ l n. let w = s.2 room l n in ((λ x. w.0 (e.0 x)), (λ x. e.1 (w.1 x)))

module _ {R : Type 0} (kind : Ghosts R) where
  abbrev sound_here : (h : Held) (r : R) → Kept kind.changes h (kind.meaning r) → IsSound kind h r
  sound_here h r k = record { kept = k; sound = sound (place_of k) (kept_place k) }

  pub every_controller : EveryControllerIsSound kind
  every_controller c = ∥∥₁_map c.reached (sound_here (held c.shot) c.register)

  pub step_refusal : (h : Held) (r : R) (room : ℕ) (refused : Bool) → ∥ Kept kind.changes h (kind.meaning r) ∥₁
      → ((k : Kept kind.changes h (kind.meaning r)) → (refused ≡ true) ↔ Refused (place_of k) (step room)) → OnlyWantStopsStep kind h r room refused
  step_refusal h r room refused k e = ∥∥₁_map k (λ k. record { before = sound_here h r k; stops = wants k.loaded (kind.meaning r) room refused (sound (place_of k) (kept_place k)) (e k) })

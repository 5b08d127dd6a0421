-- A qubit that is prepared, read and let go.
use Rattle.std.specs.Prelude.{◌≡◌, ℕ, ◌-◌, ◌<◌, ◌≤◌, Bool, [], ◌∷◌, ◌⊎◌, Err}
use Rattle.registers.specs.declared.fault.RegisterReason.TheVariants.{NoPulses}
use Rattle.registers.specs.declared.fault.RegisterFault.{RegisterFault}
use Rattle.registers.specs.declared.register.Register.{Ghosts}
use Rattle.registers.specs.Answers.{prepare_answer}
use Rattle.registers.specs.Deeds.{prepares, reads, lets_go, DoesAll}
use Rattle.registers.specs.Depth.{depths}
use Rattle.registers.specs.Meaning.{Meaning, Changes, counted}

-- The live handles are as before. Some pulses are spent, and the content is another.
abbrev pub spent : {C : Type 0} → Meaning C → ℕ → C → Meaning C
spent m n content = record m { pulses = m.pulses - n; content = content }

module _ {C : Type 0} (changes : Changes C) (m : Meaning C) (h : ℕ) (bit : Bool) where
  -- a qubit was prepared, read and let go
  abbrev pub once_read : Bool → Meaning C
  once_read outcome =
      spent m 2 (changes.let_go (changes.was_read (changes.prepared m.content h bit) h outcome) h)

  -- a qubit was prepared and let go
  abbrev pub unread : Meaning C
  unread = spent m 1 (changes.let_go (changes.prepared m.content h bit) h)

module _ {R : Type 0} (kind : Ghosts R) (r s : R) (bit : Bool) where
  -- Two pulses and room were there. The outcome is that of the register as the prepare left it.
  -- Both pulses are spent.
  pub record WasRead (outcome : Bool) : Type 0 where
    pub pulses : 2 ≤ (kind.meaning r).pulses
    pub room : counted (kind.meaning r).live < (kind.meaning r).capacity
    pub calls : DoesAll kind r
        (prepares (kind.fresh r) bit ∷ reads (kind.fresh r) outcome ∷ lets_go (kind.fresh r) ∷ []) s
    pub answered : outcome ≡ kind.outcome calls.0 (kind.fresh r)
    pub after : kind.meaning s ≡ once_read kind.changes (kind.meaning r) (kind.fresh r) bit outcome

  -- The last pulse went to the prepare, and none was left for the read. That refusal is the one of
  -- the register as the prepare left it.
  pub record LastPulse (fault : RegisterFault) : Type 0 where
    pub pulses : (kind.meaning r).pulses ≡ 1
    pub room : counted (kind.meaning r).live < (kind.meaning r).capacity
    pub calls : DoesAll kind r (prepares (kind.fresh r) bit ∷ lets_go (kind.fresh r) ∷ []) s
    pub refused : fault
        ≡ record { reason = NoPulses; depth = depths (kind.passed_up calls.0) NoPulses }
    pub after : kind.meaning s ≡ unread kind.changes (kind.meaning r) (kind.fresh r) bit

  -- The prepare is refused, which changes nothing, or the read is for want of a pulse.
  abbrev pub NotRead : RegisterFault → Type 0
  NotRead fault =
      ((Err fault ≡ prepare_answer (kind.meaning r) (depths (kind.passed_up r)) (kind.fresh r))
      × (s ≡ r))
      ⊎ LastPulse fault

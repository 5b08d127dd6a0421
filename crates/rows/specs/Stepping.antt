-- One step: the term reduces, the register acts, and the qubits that are named no more are let go.
use Rattle.std.specs.Prelude.{◌≡◌, ℕ, ◌↔◌, List, [], ◌∷◌}
use Rattle.calculus.specs.Terms.{Running}
use Rattle.calculus.specs.Reduction.{Effect, silent, prepares, reads, applies, Reduces}
use Rattle.calculus.specs.Names.{Names, In, Rising}
use Rattle.registers.specs.declared.fault.RegisterReason.{RegisterReason}
use Rattle.registers.specs.Meaning.{Meaning, Changes, Fresh, after_prepare}
use Rattle.registers.specs.Meaning.{after_gate, after_read, after_let_go}
use Rattle.registers.specs.Sheet.{Call, to_prepare, to_gate, to_read, Holds}

-- no row of the register's sheet holds for the call
abbrev pub Accepts : {C : Type 0} → Meaning C → Call → Type 0
Accepts r call = (reason : RegisterReason) → Holds r reason call → ⊥

module _ {C : Type 0} (changes : Changes C) where
  -- The register does what the effect is, and gives the answer that the effect has.
  abbrev pub Acts : Meaning C → Effect → Meaning C → Type 0
  Acts r silent s = s ≡ r
  Acts r (prepares b h) s = Accepts r (to_prepare b) × Fresh r h × (s ≡ after_prepare changes r h b)
  Acts r (reads h b) s = Accepts r (to_read h) × (s ≡ after_read changes r h b)
  Acts r (applies u hs) s = Accepts r (to_gate u hs) × (s ≡ after_gate changes r u hs)

  -- the register after letting go of the handles, one after the other
  abbrev pub without : List ℕ → Meaning C → Meaning C
  without [] r = r
  without (h ∷ hs) r = without hs (after_let_go changes r h)

  pub record Steps (m : Running) (r : Meaning C) (n : Running) (s : Meaning C) : Type 0 where
    pub effect : Effect
    pub reduces : Reduces m effect n
    pub between : Meaning C
    pub acts : Acts r effect between
    pub dropped : List ℕ
    pub rising : Rising dropped
    pub dropped_are : (h : ℕ) → In h dropped ↔ (Names m h × (Names n h → ⊥))
    pub after : s ≡ without dropped between

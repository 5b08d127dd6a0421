-- Calls that a register accepted, and the states that they lead from and to.
use Rattle.std.specs.Prelude.{◌≡◌, ℕ, Bool, List, [], ◌∷◌, Ok}
use Rattle.calculus.specs.declared.gates.Gate.{Gate}
use Rattle.registers.specs.declared.register.Register.{Ghosts}
use Rattle.registers.specs.Depth.{depths}
use Rattle.registers.specs.Meaning.{after_prepare, after_gate, after_read}
use Rattle.registers.specs.Meaning.{after_let_go, after_clear}
use Rattle.registers.specs.Answers.{prepare_answer, gate_answer, read_answer, let_go_answer}

-- An accepted call: what it was given, and what it answered.
pub data Deed : Type 0 where
  prepares : ℕ → Bool → Deed  -- the handle that was answered, and the bit
  applies : Gate → List ℕ → Deed
  reads : ℕ → Bool → Deed  -- the handle, and the outcome that was answered
  lets_go : ℕ → Deed
  clears : Deed

module _ {R : Type 0} (kind : Ghosts R) where
  -- The register accepts the call, answers so, and is the other after it.
  abbrev pub Does : R → Deed → R → Type 0
  Does r (prepares h bit) s =
      let m = kind.meaning r in
      (Ok h ≡ prepare_answer m (depths (kind.passed_up r)) (kind.fresh r))
      × (kind.meaning s ≡ after_prepare kind.changes m h bit)
  Does r (applies gate on) s =
      let m = kind.meaning r in
      (Ok tt ≡ gate_answer m (depths (kind.passed_up r)) gate on)
      × (kind.meaning s ≡ after_gate kind.changes m gate on)
  Does r (reads h outcome) s =
      let m = kind.meaning r in
      (Ok outcome ≡ read_answer m (depths (kind.passed_up r)) h (kind.outcome r h))
      × (kind.meaning s ≡ after_read kind.changes m h outcome)
  Does r (lets_go h) s =
      let m = kind.meaning r in
      (Ok tt ≡ let_go_answer m (depths (kind.passed_up r)) h)
      × (kind.meaning s ≡ after_let_go kind.changes m h)
  Does r clears s = kind.meaning s ≡ after_clear kind.changes (kind.meaning r)

  -- It accepts the calls of a list, one after the other.
  abbrev pub DoesAll : R → List Deed → R → Type 0
  DoesAll r [] s = r ≡ s
  DoesAll r (d ∷ ds) s = (q : R) × Does r d q × DoesAll q ds s

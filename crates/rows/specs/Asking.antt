-- What the next step of a term asks for: calls of the register, and cells.
use Rattle.std.specs.Prelude.{◌≡◌, ℕ, ◌<◌, Some, None, Option}
use Rattle.calculus.specs.Terms.{Running, size}
use Rattle.calculus.specs.Reduction.{Effect, silent, prepares, reads, applies, Reduces}
use Rattle.calculus.specs.Names.{Names}
use Rattle.registers.specs.Sheet.{Call, to_prepare, to_gate, to_read, to_let_go, Spends, Prepares}

-- the call that an effect is
abbrev pub call_of : Effect → Option Call
call_of silent = None
call_of (prepares b h) = Some (to_prepare b)
call_of (reads h b) = Some (to_read h)
call_of (applies u hs) = Some (to_gate u hs)

-- The calls of a term's next step. They are what its rule asks for, and the letting go of each
-- qubit that is named no more.
pub data Calls (m : Running) : Call → Type 0 where
  asks : {e : Effect} {n : Running} {call : Call}
      → Reduces m e n → call_of e ≡ Some call → Calls m call
  drops : {e : Effect} {n : Running} {h : ℕ}
      → Reduces m e n → Names m h → (Names n h → ⊥) → Calls m (to_let_go h)

abbrev pub SpendsPulse : Running → Type 0
SpendsPulse m = (call : Call) × Calls m call × Spends call

abbrev pub PreparesQubit : Running → Type 0
PreparesQubit m = (call : Call) × Calls m call × Prepares call

-- the next term has more cells than it may have
abbrev pub Overflows : ℕ → Running → Type 0
Overflows most m = (e : Effect) × (n : Running) × Reduces m e n × (most < size n)

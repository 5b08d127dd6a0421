-- Which bit each handle of a level holds after accepted calls, and that a read answers it.
use Rattle.std.specs.Prelude.{◌≡◌, ℕ, Bool, true, false, cond, not}
use Rattle.std.specs.Prelude.{◌&&◌, List, [], ◌∷◌, ◌==◌, slice_index}
use Rattle.calculus.specs.declared.gates.Gate.{Gate}
use Rattle.calculus.specs.declared.gates.Gate.TheVariants.{H, X, Z, S, T, Cnot, Swap, Toffoli}
use Rattle.registers.specs.declared.level.Level.{Level}
use Rattle.registers.specs.declared.register.Register.{Ghosts}
use Rattle.registers.specs.Deeds.{Deed, prepares, applies, reads, lets_go, clears, Does, DoesAll}
use Rattle.registers.specs.Bits.{level_meaning, new_level}

-- the bits by their handles, with this bit for one of them
abbrev pub with_bit : (ℕ → Bool) → ℕ → Bool → ℕ → Bool
with_bit held h bit k = cond (h == k) bit (held k)

-- the bits, with that of a handle flipped if a test holds
abbrev pub turned : (ℕ → Bool) → Bool → ℕ → ℕ → Bool
turned held test h = with_bit held h (cond test (not (held h)) (held h))

-- The bits after a gate. A level makes four gates.
abbrev pub held_after_gate : (ℕ → Bool) → Gate → List ℕ → ℕ → Bool
held_after_gate held H on = held
held_after_gate held X on = turned held true (slice_index on 0)
held_after_gate held Z on = held
held_after_gate held S on = held
held_after_gate held T on = held
held_after_gate held Cnot on = turned held (held (slice_index on 0)) (slice_index on 1)
held_after_gate held Swap on =
    with_bit (with_bit held (slice_index on 0) (held (slice_index on 1)))
    (slice_index on 1) (held (slice_index on 0))
held_after_gate held Toffoli on =
    turned held (held (slice_index on 0) && held (slice_index on 1)) (slice_index on 2)

-- the bits after an accepted call
abbrev pub held_after : (ℕ → Bool) → Deed → ℕ → Bool
held_after held (prepares h bit) = with_bit held h bit
held_after held (applies gate on) = held_after_gate held gate on
held_after held (reads h outcome) = held
held_after held (lets_go h) = with_bit held h false
held_after held clears = λ k. false

-- the bits after several, of which the first call stands first
abbrev pub put : (ℕ → Bool) → List Deed → ℕ → Bool
put held [] = held
put held (d ∷ ds) = put (held_after held d) ds

-- What a read of a handle would answer is what was put there, and so is what a read does answer.
-- A new level holds 0.
pub record LevelReadsWhatWasPut (kind : Ghosts Level) : Type 0 where
  pub held : (r s : Level) (ds : List Deed) → DoesAll kind r ds s
      → (k : ℕ) → kind.outcome s k ≡ put (kind.outcome r) ds k
  pub answered : (r s t : Level) (ds : List Deed) (h : ℕ) (bit : Bool)
      → DoesAll kind r ds s → Does kind s (reads h bit) t → bit ≡ put (kind.outcome r) ds h
  pub new : (s : Level) (capacity pulses : ℕ) → level_meaning s ≡ new_level capacity pulses
      → (k : ℕ) → kind.outcome s k ≡ false

-- Which handle a tape or a level answers next, in words that name no search.
use Rattle.std.specs.Prelude.{◌≡◌, ℕ, ◌<◌, ◌≤◌, Bool, true, false, ◌⊎◌, List}
use Rattle.registers.specs.declared.handles.Handles.{Handles}
use Rattle.registers.specs.Meaning.{counted, is_live}
use Rattle.registers.specs.Handles.{places, room, next_handle}

-- Going up from a start, and round at the end, k is passed before h is met.
abbrev pub Passed : ℕ → ℕ → ℕ → Type 0
Passed start h k = ((start ≤ k) × (k < h)) ⊎ ((h < start) × ((start ≤ k) ⊎ (k < h)))

-- A handle below the capacity that is not live, while every one that is passed is.
pub record IsNext (capacity : ℕ) (live : List Bool) (start h : ℕ) : Type 0 where
  pub below : h < capacity
  pub not_live : is_live live h ≡ false
  pub passed : (k : ℕ) → k < capacity → Passed start h k → is_live live k ≡ true

-- Where there is room, the next handle is the next in this sense.
abbrev pub NextIsFound : Type 0
NextIsFound =
    (s : Handles) → counted (places s.live) < room s
    → IsNext (room s) (places s.live) s.next (next_handle s)

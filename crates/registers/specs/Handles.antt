-- The live handles of a tape or a level, and which is answered next.
use Rattle.std.specs.Prelude.{◌≡◌, ℕ, ◌+◌, min, Bool, cond, not, List, ◌++◌, length, take, drop}
use Rattle.std.specs.Prelude.{nat_lt, slice_set}
use Rattle.std.specs.List.{position_or_len}
use Rattle.calculus.specs.declared.gates.Gate.{Gate}
use Rattle.registers.specs.declared.fault.RegisterReason.{RegisterReason}
use Rattle.registers.specs.declared.handles.Handles.{Handles}
use Rattle.registers.specs.Meaning.{Meaning, none_live}

-- the first handle that is not live, or one past the last
abbrev pub first_free : List Bool → ℕ
first_free bs = position_or_len not bs

-- the first from a start on that is not live, or one past the last
abbrev pub free_from : List Bool → ℕ → ℕ
free_from bs start = start + first_free (drop start bs)

-- the same, going round at the end
abbrev pub next_free : List Bool → ℕ → ℕ
next_free bs start =
    cond (nat_lt (free_from bs start) (length bs)) (free_from bs start) (free_from bs 0)

-- the 32 places of an array
abbrev pub places : List Bool → List Bool
places bs = take 32 (bs ++ none_live)

-- how many handles may be live
abbrev pub room : Handles → ℕ
room s = min s.capacity 32

-- One handle goes live or is taken out, and the search for the next begins where it is said.
pub record Marked (before after : Handles) (h : ℕ) (live : Bool) (next : ℕ) : Type 0 where
  pub marked : places after.live ≡ slice_set (places before.live) h live
  pub capacity : after.capacity ≡ before.capacity
  pub begins : after.next ≡ next

-- The handle that the next prepare answers: the next above the last answered that is not live,
-- going round below the capacity.
abbrev pub next_handle : Handles → ℕ
next_handle s = next_free (take (room s) (places s.live)) s.next

-- what a register with these handles means, whose gates, pulses and content are given
abbrev pub shown : {C : Type 0} → Handles → (Gate → Bool) → ℕ → C → Meaning C
shown s makes pulses content = record {
  capacity = room s;
  makes = makes;
  live = places s.live;
  pulses = pulses;
  content = content;
}

-- What a new register means. Nothing is live, and a capacity above 32 is 32.
abbrev pub unused : {C : Type 0} → ℕ → (Gate → Bool) → ℕ → C → Meaning C
unused capacity makes pulses content = record {
  capacity = min capacity 32;
  makes = makes;
  live = none_live;
  pulses = pulses;
  content = content;
}

-- a register of nothing but its handles
abbrev pub bare : Handles → (Gate → Bool) → ℕ → Meaning (Unit {0})
bare s makes pulses = shown s makes pulses tt

-- a register that is no layer refuses at depth 0
abbrev pub at_top : RegisterReason → ℕ
at_top _ = 0

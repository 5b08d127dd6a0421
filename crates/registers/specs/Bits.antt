-- A level: its content, which has a bit for each handle, what its gates do, and what it means.
use Rattle.std.specs.Prelude.{◌≡◌, ℕ, ◌+◌, Bool, true, false, cond, not, ◌&&◌, List, replicate}
use Rattle.std.specs.Prelude.{slice_index, slice_index_or, slice_set}
use Rattle.calculus.specs.declared.gates.Gate.{Gate}
use Rattle.calculus.specs.declared.gates.Gate.TheVariants.{H, X, Z, S, T, Cnot, Swap, Toffoli}
use Rattle.registers.specs.declared.level.Level.{Level}
use Rattle.registers.specs.Meaning.{Meaning, Changes}
use Rattle.registers.specs.Handles.{places, shown, unused}

abbrev pub zeros : List Bool
zeros = replicate 32 false

-- The content of a level.
pub record Bits : Type 0 where
  pub bits : List Bool  -- the bits by their handles
  pub next : ℕ  -- where the search for the next handle begins

-- the gates that a level makes: those that permute bits
abbrev pub level_makes : Gate → Bool
level_makes H = false
level_makes X = true
level_makes Z = false
level_makes S = false
level_makes T = false
level_makes Cnot = true
level_makes Swap = true
level_makes Toffoli = true

-- the bit of a handle
abbrev pub bit_of : List Bool → ℕ → Bool
bit_of bits h = slice_index_or bits h false

-- the bits, with that of a handle flipped if a test holds
abbrev pub flipped : List Bool → Bool → ℕ → List Bool
flipped bits test h = cond test (slice_set bits h (not (bit_of bits h))) bits

-- the bits, with those of two handles exchanged
abbrev pub exchanged : List Bool → ℕ → ℕ → List Bool
exchanged bits h k = slice_set (slice_set bits h (bit_of bits k)) k (bit_of bits h)

-- The bits after a gate. One that a level does not make leaves them.
abbrev pub bits_gated : List Bool → Gate → List ℕ → List Bool
bits_gated bits H on = bits
bits_gated bits X on = flipped bits true (slice_index on 0)
bits_gated bits Z on = bits
bits_gated bits S on = bits
bits_gated bits T on = bits
bits_gated bits Cnot on = flipped bits (bit_of bits (slice_index on 0)) (slice_index on 1)
bits_gated bits Swap on = exchanged bits (slice_index on 0) (slice_index on 1)
bits_gated bits Toffoli on =
    flipped bits (bit_of bits (slice_index on 0) && bit_of bits (slice_index on 1))
    (slice_index on 2)

-- what each accepted call makes of the content
abbrev pub level_changes : Changes Bits
level_changes = record {
  prepared = λ c h bit. record { bits = slice_set c.bits h bit; next = h + 1 };
  gated = λ c gate on. record c { bits = bits_gated c.bits gate on };
  was_read = λ c h outcome. c;
  let_go = λ c h. record c { bits = slice_set c.bits h false };
  cleared = λ c. record c { bits = zeros };
}

abbrev pub level_bits : Level → Bits
level_bits s = record { bits = places s.bits; next = s.handles.next }

-- The bits of a level become others, and nothing else of it changes.
pub record BitsBecome (before after : Level) (bits : List Bool) : Type 0 where
  pub held : (level_bits after).bits ≡ bits
  pub handles : after.handles ≡ before.handles
  pub pulses : after.pulses ≡ before.pulses

-- what a read of a handle answers
abbrev pub level_outcome : Level → ℕ → Bool
level_outcome s = bit_of (level_bits s).bits

abbrev pub level_meaning : Level → Meaning Bits
level_meaning s = shown s.handles level_makes s.pulses (level_bits s)

-- a level as it is made: every bit is 0
abbrev pub new_level : ℕ → ℕ → Meaning Bits
new_level capacity pulses = unused capacity level_makes pulses (record { bits = zeros; next = 0 })

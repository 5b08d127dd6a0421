-- A register of one qubit: what it means, and what it owes.
use Rattle.std.specs.Prelude.{◌≡◌, ◌<◌, Bool, true, false, not, List, ◌∷◌, replicate, refl}
use Rattle.std.proofs.Common.{arith}
use Rattle.calculus.specs.declared.gates.Gate.{Gate}
use Rattle.calculus.specs.declared.gates.Gate.TheVariants.{H, X, Z, S, T, Cnot, Swap, Toffoli}
use Rattle.registers.specs.Meaning.{Meaning, Changes, Owed, counted}
use Rattle.clients.specs.declared.one_qubit.OneQubit.{OneQubit}

-- of the 32 handles, 0 is the qubit's
abbrev pub qubit_live : Bool → List Bool
qubit_live live = live ∷ replicate 31 false

abbrev pub qubit_makes : Gate → Bool
qubit_makes H = false
qubit_makes X = true
qubit_makes Z = false
qubit_makes S = false
qubit_makes T = false
qubit_makes Cnot = false
qubit_makes Swap = false
qubit_makes Toffoli = false

-- The content is the bit. A prepare sets it, the one gate flips it, and nothing else touches it.
abbrev pub qubit_changes : Changes Bool
qubit_changes = record {
  prepared = λ c h bit. bit;
  gated = λ c gate on. not c;
  was_read = λ c h outcome. c;
  let_go = λ c h. c;
  cleared = λ c. c;
}

abbrev pub qubit_meaning : OneQubit → Meaning Bool
qubit_meaning s = record {
  capacity = 1;
  makes = qubit_makes;
  live = qubit_live s.live;
  pulses = s.pulses;
  content = s.bit;
}

-- with room for a qubit, the one qubit is not live
room_free : (live : Bool) → counted (qubit_live live) < 1 → live ≡ false
room_free true h = absurd (omega arith)
room_free false h = refl

pub qubit_owed : (s : OneQubit) → Owed (qubit_meaning s) 0
qubit_owed s = record {
  small = omega arith;
  wide = refl;
  free = λ pulse room. (omega arith, room_free s.live room);
}

-- What a tape refuses.
use Rattle.std.specs.Prelude.{Result, Err, ◌≡◌, ◌≤◌, vec_len}
use Rattle.second.specs.declared.halt.Halt.{Halt}
use Rattle.second.specs.declared.halt.Reason.TheVariants.{NoPulses}
use Rattle.second.specs.declared.tape.Tape.{Tape}
use Rattle.second.specs.Reasons.{halt}

-- a tape whose pulses are spent refuses what it is asked
abbrev pub RefusesSpent : {T : Type 0} → Tape → Result T Halt → Type 0
RefusesSpent tape result = 64 ≤ vec_len tape.journal → result ≡ Err (halt NoPulses 0)

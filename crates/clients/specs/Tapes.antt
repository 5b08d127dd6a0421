-- A qubit that is prepared and read on a new tape: the answer, and what the journal holds when the
-- tape is gone.
use Rattle.std.specs.Prelude.{ℕ, ◌%◌, min, Bool, cond, List, length, Ok, Err, Result, ◌==◌}
use Rattle.std.specs.Prelude.{slice_index, slice_set}
use Rattle.registers.specs.declared.fault.RegisterReason.TheVariants.{NoPulses}
use Rattle.registers.specs.declared.fault.RegisterFault.{RegisterFault}
use Rattle.registers.specs.declared.journal.Entry.{Entry}
use Rattle.registers.specs.declared.journal.Entry.TheVariants.{Prepare, Read}

module _ (outcomes : List ℕ) (entries : List Entry) (bit : Bool) where
  -- the read is pulse 1, and an odd outcome is 1
  abbrev pub outcome_read : Bool
  outcome_read = slice_index outcomes 1 % 2 == 1

  abbrev pub prepare_written : List Entry
  prepare_written = slice_set entries 0 (Prepare 0 bit)

  abbrev pub no_pulse : Result Bool RegisterFault
  no_pulse = Err (record { reason = NoPulses; depth = 0 })

  -- by the number of pulses, as far as they reach
  abbrev pub read_with : ℕ → Result Bool RegisterFault × List Entry
  read_with pulses =
      cond (pulses == 0) (no_pulse, entries)
      (cond (pulses == 1) (no_pulse, prepare_written)
      (Ok outcome_read, slice_set prepare_written 1 (Read 0 outcome_read)))

  abbrev pub read_on_tape : Result Bool RegisterFault × List Entry
  read_on_tape = read_with (min (length outcomes) (length entries))

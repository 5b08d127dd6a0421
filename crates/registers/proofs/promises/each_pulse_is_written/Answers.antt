use Rattle.registers.proofs.Pulses.{each_pulse_is_written}
use Rattle.registers.proofs.promises.each_pulse_is_written.Goals as goal

pub returns : goal.returns
returns c = each_pulse_is_written

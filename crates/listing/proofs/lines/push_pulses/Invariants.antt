use Rattle.std.proofs.Common.{take}
use Rattle.listing.specs.Listing.{pulse_lines}
use Rattle.listing.specs.Writing.{Appends}
use Rattle.listing.proofs.lines.push_pulses.Given as goal

abbrev pub invariant-loop-pulse : goal.invariant-loop-pulse
invariant-loop-pulse l = Appends l.fn.out l.out (pulse_lines (take l.pulse l.pulses))

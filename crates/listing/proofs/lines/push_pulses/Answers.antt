use Rattle.std.proofs.Common.{◌+◌, take, arith}
use Rattle.std.proofs.lemmas.List.{length-take-le}
use Rattle.std.proofs.lemmas.Grind.{common_steps}
use Rattle.registers.specs.declared.journal.Entry.TheVariants.{Empty}
use Rattle.listing.proofs.Texts.{pulses_more, length-pulse_lines}
use Rattle.listing.proofs.lines.push_pulses.Goals as goal

pub push_pulse-requires : goal.push_pulse-requires
push_pulse-requires c =
    let k = c.loop-pulse.pulse in
    let xs = c.args.pulses.now in
    let lines = length-pulse_lines (take k xs) in
    let taken = length-take-le k xs (omega (arith, c.loop-pulse-test.true)) in
    omega (arith, lines, taken, c.loop-pulse.invariant.short, c.requires.room, c.loop-pulse-test.true)

pub loop-pulse-preserved : goal.loop-pulse-preserved
loop-pulse-preserved c =
    let k = c.loop-pulse.pulse in
    let xs = c.args.pulses.now in
    let more = pulses_more xs k Empty c.loop-pulse-test.true in
    let lines = length-pulse_lines (take k xs) in
    let lines' = length-pulse_lines (take (k + 1) xs) in
    let taken = length-take-le k xs (omega (arith, c.loop-pulse-test.true)) in
    let taken' = length-take-le (k + 1) xs (omega (arith, c.loop-pulse-test.true)) in
    record {
      text = grind (arith, common_steps, more, c.push_pulse.ensures.text, c.loop-pulse.invariant.text);
      short = omega (arith, lines, lines', taken, taken', c.push_pulse.ensures.short, c.loop-pulse.invariant.short);
    }

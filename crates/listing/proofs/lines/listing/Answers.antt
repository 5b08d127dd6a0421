use Rattle.std.proofs.Common.{ap, length, arith}
use Rattle.std.proofs.lemmas.List.{length-map}
use Rattle.listing.specs.Listing.{kind_line, op_line}
use Rattle.listing.proofs.Texts.{length-pulse_lines}
use Rattle.listing.proofs.lines.listing.Goals as goal

pub push_pulses-requires-clause-room : goal.push_pulses-requires-clause-room
push_pulses-requires-clause-room c =
    let kinds = length-map c.as_slice.result.now kind_line in
    let ops = length-map c.as_slice-in-Ran.result.now op_line in
    let none = ap length c.new-out.ensures in
    omega (arith, none, kinds, ops, c.push_steps.ensures.short, c.push_kinds.ensures.short, c.push_ops.ensures.short, c.as_slice.ensures.fits, c.as_slice-in-Ran.ensures.fits, c.pulses_made.ensures.few)

pub push_stop-requires : goal.push_stop-requires
push_stop-requires c =
    let kinds = length-map c.as_slice.result.now kind_line in
    let ops = length-map c.as_slice-in-Ran.result.now op_line in
    let pulses = length-pulse_lines c.pulses_made.result.now in
    let none = ap length c.new-out.ensures in
    omega (arith, none, kinds, ops, pulses, c.push_steps.ensures.short, c.push_kinds.ensures.short, c.push_ops.ensures.short, c.push_pulses.ensures.short, c.as_slice.ensures.fits, c.as_slice-in-Ran.ensures.fits, c.pulses_made.ensures.few)

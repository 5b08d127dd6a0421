use Rattle.reader.proofs.Cuts.{then_cut}
use Rattle.reader.proofs.Forms.{by_fields, too_many}
use Rattle.reader.proofs.lines.record_of.Goals as goal

pub returns-in-Some-parted-3 : goal.returns-in-Some-parted-3
returns-in-Some-parted-3 c =
    let line = c.args.line.now in
    let third = then_cut c.in-Some-parted-2.ensures.parts c.in-Some-parted-3.ensures.parts in
    let parts = then_cut c.in-Some.ensures.parts (then_cut c.in-Some-parted.ensures.parts third) in
    let fourth = c.in-Some-parted-3.field-0 in
    let many = too_many c.in-Some.letter.now c.in-Some-parted.first.now c.in-Some-parted-2.second.now fourth.0.now fourth.1.now in
    by_fields line c.is_header.result c.is_header.ensures c.if-is_header.false parts many

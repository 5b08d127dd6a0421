use Rattle.std.proofs.Common.{◌<◌, ap, ◌∙◌, arith}
use Rattle.std.proofs.lemmas.List.{get_or-take, length-take-le}
use Rattle.numbers.proofs.Handed.{put_more}
use Rattle.numbers.proofs.tables.hand_back.Goals as goal

pub loop-i-preserved : goal.loop-i-preserved
loop-i-preserved g c = λ f h.
    let cells = c.args.cells.now in
    let cell = c.cell-item.result in
    let long = length-take-le c.min-count.result cells (omega arith) in
    let few : c.loop-i.i < c.min-count.result = omega arith in
    let same = get_or-take c.min-count.result cells c.loop-i.i cell few in
    put_more f cell cells c.args.values.now c.loop-i.values c.loop-i.i _ (c.loop-i.invariant f h) (h _ _ c.turned.ensures ∙ ap f (c.cell-item.is ∙ same)) (omega arith) (omega arith)

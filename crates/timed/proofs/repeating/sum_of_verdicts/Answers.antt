use Rattle.std.proofs.Common.{◌≡◌, ◌+◌, min, ap, ap₂, ◌∙◌, arith}
use Rattle.timed.specs.Sums.{largest, sum_of, total_of}
use Rattle.timed.proofs.Added.{one_added}
use Rattle.timed.proofs.repeating.sum_of_verdicts.Goals as goal

pub loop-preserved : goal.loop-preserved
loop-preserved g c = λ v h.
    c.sum_with-sum.ensures
    ∙ ap₂ (λ s r. min (s + total_of r) largest) (c.loop.invariant v h)
    (h c.call.result c.call.ensures)
    ∙ one_added c.loop.counter (total_of v) largest

pub returns : goal.returns
returns g c = λ v h.
    let all : c.loop.counter ≡ c.args.times = omega arith in
    c.loop.invariant v h ∙ ap (λ n. sum_of n v) all

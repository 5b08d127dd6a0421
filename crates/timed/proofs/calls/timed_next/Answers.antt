use Rattle.std.proofs.Common.{◌≡◌, ◌+◌, min, ap, ap₂, ◌∙◌, arith}
use Rattle.finder.specs.Finding.{answer as find_answer}
use Rattle.numbers.specs.Steps.{stepped}
use Rattle.stepper.specs.declared.writing.Answer.TheVariants.{Nothing}
use Rattle.timed.specs.Sums.{largest, sum_of, total_of}
use Rattle.timed.proofs.Added.{one_added}
use Rattle.timed.proofs.calls.timed_next.Goals as goal

pub loop-preserved : goal.loop-preserved
loop-preserved c =
    let cs = c.term_table-cells.result.items in
    let v = stepped cs Nothing (find_answer cs) in
    let same : c.step_verdict-verdict.result ≡ v =
    c.step_verdict-verdict.ensures.answer
    ∙ ap (λ ms. stepped ms Nothing (find_answer ms)) c.as_slice.ensures.value in
    c.sum_with-sum.ensures
    ∙ ap₂ (λ s r. min (s + total_of r) largest) c.loop.invariant same
    ∙ one_added c.loop.counter (total_of v) largest

pub returns : goal.returns
returns c =
    let all : c.loop.counter ≡ c.args.times = omega arith in
    c.loop.invariant
    ∙ ap₂ (λ n cs. sum_of n (stepped cs Nothing (find_answer cs)))
    all c.term_table-cells.ensures

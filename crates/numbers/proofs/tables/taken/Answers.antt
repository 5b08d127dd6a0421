use Rattle.std.proofs.Common.{sym, arith}
use Rattle.numbers.proofs.Taken.{one_taken, none_left}
use Rattle.numbers.proofs.tables.taken.Goals as goal

pub loop-value-preserved : goal.loop-value-preserved
loop-value-preserved g c =
    let (count, taken) = c.loop-value.invariant in (
      omega (arith, c.push.ensures.len, c.in-Some.ensures.steps.1, count),
      λ f h. one_taken f _ _ _ _ c.push.new.self.items _ _ _ _ (taken f h) c.in-Some.ensures.steps.0 c.in-Some.ensures.steps.1 (h _ _ c.turned.ensures) c.push.ensures.items,
    )

pub returns : goal.returns
returns g c = λ f h. sym (none_left f _ _ _ _ (c.loop-value.invariant.1 f h) (λ p. (c.in-None.ensures.steps p).0))

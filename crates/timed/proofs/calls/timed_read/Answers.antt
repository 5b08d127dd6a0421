use Rattle.std.proofs.Common.{rules}
use Rattle.numbers.specs.Verdicts.{fresh_reading, verdict_of}
use Rattle.timed.proofs.calls.timed_read.Goals as goal

pub returns : goal.returns
returns c =
    c.sum_of_verdicts.ensures (verdict_of (fresh_reading c.args.text.now).answer)
    (λ r p. search rules)

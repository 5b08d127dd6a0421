use Rattle.std.proofs.Common.{rules}
use Rattle.timed.specs.Shots.{shot_told}
use Rattle.timed.proofs.shots.timed_shot.Goals as goal

pub returns : goal.returns
returns c =
    c.sum_of_verdicts.ensures (shot_told c.args.text.now c.args.outcomes.now)
    (λ r p. search rules)

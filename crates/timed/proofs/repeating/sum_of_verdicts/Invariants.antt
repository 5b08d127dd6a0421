use Rattle.std.proofs.Common.{◌≡◌}
use Rattle.numbers.specs.declared.answers.Verdict.{Verdict}
use Rattle.timed.specs.Sums.{sum_of}
use Rattle.timed.proofs.repeating.sum_of_verdicts.Given as goal

abbrev pub invariant-loop : goal.invariant-loop
invariant-loop g l =
    (v : Verdict) → ((r : Verdict) → goal.F-post g l.call r → r ≡ v)
    → l.sum ≡ sum_of l.counter v

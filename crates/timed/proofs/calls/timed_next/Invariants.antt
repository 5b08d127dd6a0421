use Rattle.std.proofs.Common.{◌≡◌}
use Rattle.finder.specs.Finding.{answer as find_answer}
use Rattle.numbers.specs.Steps.{stepped}
use Rattle.stepper.specs.declared.writing.Answer.TheVariants.{Nothing}
use Rattle.timed.specs.Sums.{sum_of}
use Rattle.timed.proofs.calls.timed_next.Given as goal

abbrev pub invariant-loop : goal.invariant-loop
invariant-loop l =
    l.sum ≡ sum_of l.counter (stepped l.cells.items Nothing (find_answer l.cells.items))

use Rattle.std.proofs.Common.{rules, ap, ◌∙◌}
use Rattle.finder.specs.Finding.{answer as find_answer}
use Rattle.numbers.specs.Verdicts.{located}
use Rattle.timed.specs.Sums.{sum_of}
use Rattle.timed.proofs.calls.timed_find.Goals as goal

pub returns : goal.returns
returns c =
    c.sum_of_verdicts.ensures (located (find_answer c.term_table-cells.result.items))
    (λ r p. search rules)
    ∙ ap (λ cs. sum_of c.args.times (located (find_answer cs))) c.term_table-cells.ensures

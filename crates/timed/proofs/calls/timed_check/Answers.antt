use Rattle.std.proofs.Common.{rules, ap₂, ◌∙◌}
use Rattle.checker.specs.Accepting.{program_verdict}
use Rattle.numbers.specs.Verdicts.{checked}
use Rattle.timed.specs.Sums.{sum_of}
use Rattle.timed.proofs.calls.timed_check.Goals as goal

pub returns : goal.returns
returns c =
    let v = checked (program_verdict
    c.type_table-types.result.items c.term_table-terms.result.items) in
    c.sum_of_verdicts.ensures v (λ r p. search rules)
    ∙ ap₂ (λ ts ms. sum_of c.args.times (checked (program_verdict ts ms)))
    c.type_table-types.ensures c.term_table-terms.ensures

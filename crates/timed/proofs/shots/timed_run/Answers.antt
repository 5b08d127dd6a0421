use Rattle.std.proofs.Common.{rules, ◌≡◌, Ok, Err, sym, ap, ap₂, ◌∙◌}
use Rattle.checker.specs.Accepting.{program_verdict}
use Rattle.numbers.specs.Cells.{kinds_seen, cells_seen}
use Rattle.numbers.specs.Verdicts.{check_refusal}
use Rattle.timed.specs.Shots.{run_made, run_if_accepted}
use Rattle.timed.specs.Sums.{sum_of}
use Rattle.timed.proofs.shots.timed_run.Goals as goal

pub returns-in-Ok : goal.returns-in-Ok
returns-in-Ok c =
    let outcomes = c.args.outcomes.now in
    let ks = kinds_seen c.args.letters.now in
    let cs = cells_seen c.args.nodes.now in
    let kinds_same : c.as_slice.result.now ≡ ks =
    c.as_slice.ensures.value ∙ c.type_table-types.ensures in
    let cells_same : c.as_slice-2.result.now ≡ cs =
    c.as_slice-2.ensures.value ∙ c.term_table-terms.ensures in
    let kinds_are = c.in-Ok.ensures.tables.0 ∙ kinds_same in
    let cells_are = c.in-Ok.ensures.tables.1 ∙ cells_same in
    let accepted : program_verdict ks cs ≡ Ok tt =
    sym (ap₂ program_verdict kinds_same cells_same) ∙ sym c.in-Ok.ensures.verdict in
    let program = c.in-Ok.program in
    let budget = c.args.budget in
    let made = ap₂ (λ ts ms. run_made ts ms outcomes budget) kinds_are cells_are in
    c.sum_of_verdicts.ensures (run_made program.types.now program.terms.now outcomes budget)
    (λ r p. search rules)
    ∙ ap (sum_of c.args.times) (made ∙ ap (run_if_accepted ks cs outcomes budget) (sym accepted))

pub returns-in-Err : goal.returns-in-Err
returns-in-Err c =
    let ks = kinds_seen c.args.letters.now in
    let cs = cells_seen c.args.nodes.now in
    let kinds_same : c.as_slice.result.now ≡ ks =
    c.as_slice.ensures.value ∙ c.type_table-types.ensures in
    let cells_same : c.as_slice-2.result.now ≡ cs =
    c.as_slice-2.ensures.value ∙ c.term_table-terms.ensures in
    let refused : program_verdict ks cs ≡ Err c.in-Err.fault =
    sym (ap₂ program_verdict kinds_same cells_same) ∙ sym c.in-Err.ensures.verdict in
    c.sum_of_verdicts-in-Err.ensures (check_refusal c.in-Err.fault) (λ r p. search rules)
    ∙ ap (λ x. sum_of c.args.times (run_if_accepted ks cs c.args.outcomes.now c.args.budget x))
    (sym refused)

use Rattle.std.proofs.Common.{[], take, sym, ap, ap₂, ◌∙◌}
use Rattle.numbers.specs.Runs.{run_answered, tables}
use Rattle.numbers.specs.Verdicts.{fresh_reading}
use Rattle.numbers.proofs.Fresh.{fresh}
use Rattle.timed.specs.declared.shots.TheConstants.{BUDGET}
use Rattle.timed.specs.Shots.{shot_if_read}
use Rattle.timed.proofs.shots.shot_verdict.Goals as goal

pub returns-in-Ok : goal.returns-in-Ok
returns-in-Ok c =
    let text = c.args.text.now in
    let outcomes = c.args.outcomes.now in
    let f = fresh text c.default-types.result c.default-terms.result
    c.default-types.ensures c.default-terms.ensures in
    let types = c.read.ensures.types ∙ ap (λ o. o.types) f in
    let terms = c.read.ensures.terms ∙ ap (λ o. o.terms) f in
    let answer = sym c.in-Ok.is ∙ c.read.ensures.answer ∙ ap (λ o. o.answer) f in
    ap (λ x. x.0) c.run_verdict.ensures
    ∙ ap₂ (λ ts ms. (run_answered (take c.in-Ok.kinds ts) (take c.in-Ok.ops ms) outcomes BUDGET
    (tables [] [] [])).0) types terms
    ∙ ap (shot_if_read outcomes (fresh_reading text)) answer

pub returns-in-Err : goal.returns-in-Err
returns-in-Err c =
    let f = fresh c.args.text.now c.default-types.result c.default-terms.result
    c.default-types.ensures c.default-terms.ensures in
    c.from.ensures
    ∙ ap (shot_if_read c.args.outcomes.now (fresh_reading c.args.text.now))
    (sym c.in-Err.is ∙ c.read.ensures.answer ∙ ap (λ o. o.answer) f)

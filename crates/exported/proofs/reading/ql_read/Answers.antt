use Rattle.std.proofs.Common.{ap, ◌∙◌}
use Rattle.numbers.specs.Cells.{number_of_kind, node_of, handed}
use Rattle.numbers.specs.Verdicts.{verdict_of}
use Rattle.numbers.proofs.Fresh.{fresh}
use Rattle.exported.proofs.reading.ql_read.Goals as goal

pub returns-clause-answer : goal.returns-clause-answer
returns-clause-answer c =
    let f = fresh c.args.text.now c.default-types.result c.default-terms.result
    c.default-types.ensures c.default-terms.ensures in
    c.read_verdict-verdict.ensures.answer ∙ ap (λ o. verdict_of o.answer) f

pub returns-clause-types : goal.returns-clause-types
returns-clause-types c =
    let f = fresh c.args.text.now c.default-types.result c.default-terms.result
    c.default-types.ensures c.default-terms.ensures in
    c.give_types.ensures
    ∙ ap (λ ts. handed number_of_kind ts c.args.letters.now)
    (c.read_verdict-verdict.ensures.types ∙ ap (λ o. o.types) f)

pub returns-clause-terms : goal.returns-clause-terms
returns-clause-terms c =
    let f = fresh c.args.text.now c.default-types.result c.default-terms.result
    c.default-types.ensures c.default-terms.ensures in
    c.give_terms.ensures
    ∙ ap (λ ts. handed node_of ts c.args.nodes.now)
    (c.read_verdict-verdict.ensures.terms ∙ ap (λ o. o.terms) f)

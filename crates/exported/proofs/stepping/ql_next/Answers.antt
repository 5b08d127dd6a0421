use Rattle.std.proofs.Common.{◌≡◌, replicate, sym, ap, ap₂, ◌∙◌}
use Rattle.finder.specs.Finding.{answer as find_answer}
use Rattle.calculus.proofs.NewCells.{new_cell}
use Rattle.numbers.specs.Cells.{node_of, handed, running_seen}
use Rattle.numbers.specs.Steps.{stepped, stepped_in}
use Rattle.exported.specs.Steps.{answer_of}
use Rattle.stepper.proofs.Steps.{makes_step}
use Rattle.exported.proofs.Stepped.{done, refused}
use Rattle.exported.proofs.stepping.ql_next.Goals as goal

pub returns-then-verdict-eq0-clause-table : goal.returns-then-verdict-eq0-clause-table
returns-then-verdict-eq0-clause-table c =
    let cs = running_seen c.args.nodes.now in
    let a = answer_of c.args.answer in
    let cells : c.as_slice.result.now ≡ cs = c.as_slice.ensures.value ∙ c.term_table-cells.ensures in
    let verdict : c.step_verdict-verdict.result ≡ stepped cs a (find_answer cs) =
    c.step_verdict-verdict.ensures.answer
    ∙ ap₂ (λ ms b. stepped ms b (find_answer ms)) cells c.answer_of.ensures in
    let table = c.step_verdict-verdict.ensures.table
    ∙ ap₂ (λ ms b. stepped_in ms b (replicate 1024 c.default-work.result) (find_answer ms))
    cells c.answer_of.ensures
    ∙ ap (λ t. stepped_in cs a (replicate 1024 t) (find_answer cs))
    (new_cell c.default-work.result c.default-work.ensures) in
    c.give_terms.ensures ∙ ap (λ t. handed node_of t c.args.to.now) table
    ∙ done cs a c.args.to.now (find_answer cs)
    (sym (ap (λ v. v.number) verdict) ∙ c.if-verdict-eq0.true)

pub returns-else-verdict-eq0-clause-table : goal.returns-else-verdict-eq0-clause-table
returns-else-verdict-eq0-clause-table c =
    let cs = running_seen c.args.nodes.now in
    let a = answer_of c.args.answer in
    let cells : c.as_slice.result.now ≡ cs = c.as_slice.ensures.value ∙ c.term_table-cells.ensures in
    let verdict : c.step_verdict-verdict.result ≡ stepped cs a (find_answer cs) =
    c.step_verdict-verdict.ensures.answer
    ∙ ap₂ (λ ms b. stepped ms b (find_answer ms)) cells c.answer_of.ensures in
    refused cs a c.args.to.now (find_answer cs)
    (λ e. c.if-verdict-eq0.false (ap (λ v. v.number) verdict ∙ e))

pub returns-then-verdict-eq0-clause-step : goal.returns-then-verdict-eq0-clause-step
returns-then-verdict-eq0-clause-step c =
    λ rule at. makes_step (running_seen c.args.nodes.now) rule at (answer_of c.args.answer)

pub returns-else-verdict-eq0-clause-step : goal.returns-else-verdict-eq0-clause-step
returns-else-verdict-eq0-clause-step c =
    λ rule at. makes_step (running_seen c.args.nodes.now) rule at (answer_of c.args.answer)

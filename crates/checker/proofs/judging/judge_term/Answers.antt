use Rattle.std.proofs.Common.{ap, ◌∙◌, Err}
use Rattle.std.proofs.lemmas.Result.{err_from_is_err_and}
use Rattle.checker.proofs.Parts.{whole_verdict}
use Rattle.checker.proofs.judging.judge_term.Goals as goal

pub returns-in_err-judge : goal.returns-in_err-judge
returns-in_err-judge c =
    let e = err_from_is_err_and c.from_residual.result c.from_residual.ensures.1 in
    e.1 ∙ ap Err e.2 ∙ whole_verdict _ _ _ c.new-term.result c.new-scope.result _ c.new-program.ensures.0 c.new-program.ensures.1 c.new-term.ensures.0 c.new-term.ensures.1 c.new-scope.ensures c.in_err-judge.ensures.verdict

pub returns : goal.returns
returns c = whole_verdict _ _ _ c.new-term.result c.new-scope.result _ c.new-program.ensures.0 c.new-program.ensures.1 c.new-term.ensures.0 c.new-term.ensures.1 c.new-scope.ensures c.in_ok-judge.ensures.verdict

use Rattle.std.proofs.Common.{ap, ◌∙◌, Err}
use Rattle.std.proofs.lemmas.Result.{err_from_is_err_and}
use Rattle.checker.proofs.Entering.{depth_refused, claims_tested}
use Rattle.checker.proofs.judging.enter.Goals as goal

pub returns-in_err-test_depth : goal.returns-in_err-test_depth
returns-in_err-test_depth c =
    let p = err_from_is_err_and c.from_residual.result c.from_residual.ensures.1 in
    p.1 ∙ ap Err p.2 ∙ depth_refused c.args.node c.args.scope.now c.in_err-test_depth.field-0.0 _ _ c.cell.ensures c.len.ensures.value c.in_err-test_depth.ensures

pub returns : goal.returns
returns c =
    c.refuse_if.ensures ∙ claims_tested c.args.node c.args.scope.now _ _ _ c.cell.ensures c.len.ensures.value c.in_ok-test_depth.ensures c.claims_agree.ensures

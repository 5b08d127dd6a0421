use Rattle.std.proofs.Common.{arith}
use Rattle.drafts.proofs.Programs.{on_ok, padded_one, padded_two, padded_none, chosen}
use Rattle.drafts.proofs.limits.padded.Goals as goal

pub returns-in_ok-wrap-in-1-clause-terms : goal.returns-in_ok-wrap-in-1-clause-terms
returns-in_ok-wrap-in-1-clause-terms c = on_ok c.cell.result (padded_one c.args.cells _ _ _ c.in-1.is c.in_ok-wrap-in-1.ensures.terms) c.cell.ensures.terms

pub returns-in_ok-wrap-in-2-clause-terms : goal.returns-in_ok-wrap-in-2-clause-terms
returns-in_ok-wrap-in-2-clause-terms c = on_ok c.five.result (padded_two c.args.cells _ _ _ c.saturating_sub.result c.in-2.is c.in_ok-wrap-in-2.ensures.terms c.saturating_sub.ensures) c.five.ensures.terms

pub returns-in_ok-cell-in_default-2-clause-terms : goal.returns-in_ok-cell-in_default-2-clause-terms
returns-in_ok-cell-in_default-2-clause-terms c =
    on_ok c.five-in_default-2.result
    (λ e. padded_none c.args.cells _ _ _ c.saturating_sub-in_default.result (omega arith) (omega arith) c.in_ok-wrap-in_default.ensures.terms c.saturating_sub-in_default.ensures
    (chosen _ _ _ _ e c.in_ok-cell-in_default-2.ensures.terms c.in_ok-five-in_default.ensures.terms c.in_ok-cell-in_default.ensures.terms))
    c.five-in_default-2.ensures.terms

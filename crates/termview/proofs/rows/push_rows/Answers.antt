use Rattle.std.proofs.Common.{get_or, ap, ◌∙◌}
use Rattle.termview.proofs.Joins.{row_more}
use Rattle.termview.proofs.rows.push_rows.Goals as goal

pub loop-at-preserved : goal.loop-at-preserved
loop-at-preserved c =
    row_more c.args.cells.types.now c.args.cells.terms.now c.args.marked c.loop-at.at _ _ _ _ _
    (c.depth_of-binders.ensures ∙ ap (λ xs. get_or xs c.loop-at.at 0) (c.deref.ensures.value ∙ c.in_ok-depths.ensures))
    c.is_this.ensures c.loop-at.invariant c.in_ok-push_row.ensures

use Rattle.std.proofs.Common.{⊎_elim, inl, inr, rules, ◌∙◌, ap, arith, cond, not, ◌&&◌}
use Rattle.controller.specs.Letting.{released}
use Rattle.controller.proofs.Dropping.{left_begins, left_within, left_next, left_end}
use Rattle.controller.proofs.asking.let_go_unnamed.Goals as goal

pub loop-handle-init : goal.loop-handle-init
loop-handle-init g c = left_begins g.R.Register.changes _ _ _ (search rules) (search rules) (search rules)

pub overflow_cast-handle : goal.overflow_cast-handle
overflow_cast-handle g c =
    let e = c.in-Some.ensures.steps in
    let l = left_within g.R.Register.changes c.args.before.now c.args.after.now c.told-before c.loop-handle.invariant {bs = c.next.new.self.iter.a.rest.now} e.0.0 in
    omega arith

pub loop-handle-preserved : goal.loop-handle-preserved
loop-handle-preserved g c =
    let e = c.in-Some.ensures.steps in
    let changes = g.R.Register.changes in
    let m = g.R.Register.meaning c.loop-handle.register in
    left_next changes c.args.before.now c.args.after.now c.told-before c.loop-handle.invariant e.0.0 e.0.1 e.2
    (c.let_go_if_unnamed.ensures ∙ ap (λ h. cond (c.in-Some.was_named.now && not c.in-Some.is_named.now) (released changes m h) m) e.1)

pub returns : goal.returns
returns g c =
    let e = c.in-None.ensures.steps in
    left_end g.R.Register.changes c.args.before.now c.args.after.now c.told-before c.loop-handle.invariant c.told-after (⊎_elim (λ x. inl x.1.0) (λ x. inr x.1.0) e.0)

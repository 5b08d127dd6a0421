use Rattle.std.proofs.Common.{false, get_or}
use Rattle.stepper.specs.Naming.{dropped}
use Rattle.controller.specs.Letting.{released_all}
use Rattle.controller.proofs.Dropping.{Left}
use Rattle.controller.proofs.asking.let_go_unnamed.Given as goal

abbrev pub invariant-loop-handle : goal.invariant-loop-handle
invariant-loop-handle g l =
    let r = g.R.Register in
    let i = l.handle-iterator in
    Left r.changes l.before l.after i.count i.iter.a.rest.now i.iter.b.rest.now (r.meaning l.register)
    (released_all r.changes (dropped (λ h. get_or l.before h false) (λ h. get_or l.after h false)) (r.meaning l.initial.register))

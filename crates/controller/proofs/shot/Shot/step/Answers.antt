use Rattle.std.proofs.Common.{◌≡◌, true, Ok, Err, Result, refl, sym, ap, ◌∙◌, subst}
use Rattle.std.specs.Result.{is_ok}
use Rattle.finder.specs.Finding.{answer}
use Rattle.registers.specs.Telling.{told}
use Rattle.controller.specs.Stepping.{taken, stepped, once_ready, StepLeaves}
use Rattle.controller.specs.declared.faults.ControllerFault.{ControllerFault}
use Rattle.controller.proofs.shot.Shot.step.Goals as goal

-- a test that was passed
ok_unit : (r : Result (Unit {0}) ControllerFault) → true ≡ is_ok r → Ok tt ≡ r
ok_unit (Ok tt) h = refl
ok_unit (Err f) h = cc

pub returns-clause-state : goal.returns-clause-state
returns-clause-state g c =
    let kind = g.R.Register in
    let cs = c.args.self.now.cells.items in
    let r = told kind c.args.register.now in
    let whole = ap (λ v. once_ready v (stepped kind.changes r cs)) (sym (ok_unit c.ready.result c.in_ok-map_err.ensures.variant ∙ c.ready.ensures))
    ∙ ap (taken kind.changes r cs) (sym (c.find-found.ensures.answer ∙ ap answer c.deref.ensures.0)) in
    subst (λ v. StepLeaves kind v c.args.self.now c.take_step.new.self c.args.register.now c.take_step.new.register c.args.work.now c.take_step.new.work) (sym whole) c.take_step.ensures.state

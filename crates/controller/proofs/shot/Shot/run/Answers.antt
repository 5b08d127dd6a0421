use Rattle.std.proofs.Common.{◌≡◌, Ok, rules, length, sym, refl, arith}
use Rattle.controller.specs.Faults.{ready_answer}
use Rattle.controller.specs.Running.{none_made, desk}
use Rattle.controller.proofs.Running.{ready_room, run_goes_on, run_refused}
use Rattle.controller.proofs.shot.Shot.run.Goals as goal

pub loop-found-init : goal.loop-found-init
loop-found-init g c =
    let ready : ready_answer (length c.args.self.now.cells.items) (length c.args.work.now) ≡ Ok tt = search rules in
    record { ready = ready; room = ready_room _ _ (sym ready); within = omega arith; ran = none_made }

pub returns-in-Err-clause-answer : goal.returns-in-Err-clause-answer
returns-in-Err-clause-answer g c =
    let r = g.R.Register in
    let l = c.loop-found in
    let i = l.invariant in
    let p = run_refused r l.self c.take_step.new.self l.register c.take_step.new.register l.work c.take_step.new.work c.find-found.result
    (desk c.args.self.now c.args.register.now c.args.work.now) l.made c.in-Err.fault (search rules) (sym c.if-is_value.ensures)
    c.in-Err.ensures.answer c.in-Err.ensures.state i.ran in
    (i.ready, i.within, p.0, (p.1, omega (arith, c.if-made-budget.false), p.2, refl))

pub loop-found-preserved : goal.loop-found-preserved
loop-found-preserved g c =
    let r = g.R.Register in
    let l = c.loop-found in
    record {
      ready = l.invariant.ready;
      room = omega arith;
      within = omega (arith, c.if-made-budget.false);
      ran = run_goes_on r l.self c.take_step.new.self l.register c.take_step.new.register l.work c.take_step.new.work c.find-found.result
          (desk c.args.self.now c.args.register.now c.args.work.now) l.made c.in_default.field-0 (search rules)
          c.in_default.ensures.answer c.in_default.ensures.state l.invariant.ran;
    }

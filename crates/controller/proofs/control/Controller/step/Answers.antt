use Rattle.std.proofs.Common.{length, is_err, refl}
use Rattle.std.proofs.Math.Logic.{∥∥₁_map}
use Rattle.registers.specs.Telling.{told}
use Rattle.controller.specs.Shots.{held}
use Rattle.controller.proofs.Calls.{step_call}
use Rattle.controller.proofs.Sound.{step_refusal}
use Rattle.controller.proofs.Numbers.{step_number}
use Rattle.controller.proofs.control.Controller.step.Goals as goal

pub invariant_of-self : goal.invariant_of-self
invariant_of-self g c = let s = c.args.self.now in record { reached = ∥∥₁_map s.reached (λ k. (step_call g.R.Register (told g.R.Register s.register) (g.R.Register.owed s.register).free s.shot c.step.new.self s.register c.step.new.register c.args.work.now c.step.new.work k refl c.step.result c.step.ensures.answer c.step.ensures.state).after) }

pub returns-clause-kept : goal.returns-clause-kept
returns-clause-kept g c k = let s = c.args.self.now in step_call g.R.Register (told g.R.Register s.register) (g.R.Register.owed s.register).free s.shot c.step.new.self s.register c.step.new.register c.args.work.now c.step.new.work k refl c.step.result c.step.ensures.answer c.step.ensures.state

pub returns-clause-refusal : goal.returns-clause-refusal
returns-clause-refusal g c =
    let s = c.args.self.now in
    step_refusal g.R.Register (held s.shot) s.register (length c.args.work.now) (is_err c.step.result) s.reached
    (λ k. (step_call g.R.Register (told g.R.Register s.register) (g.R.Register.owed s.register).free s.shot c.step.new.self s.register c.step.new.register c.args.work.now c.step.new.work k refl c.step.result c.step.ensures.answer c.step.ensures.state).refusal)

pub returns-clause-lowest : goal.returns-clause-lowest
returns-clause-lowest g c k =
    let r = g.R.Register in
    let s = c.args.self.now in
    step_number r.changes (told r s.register) (r.owed s.register).free (held s.shot) k (length c.args.work.now) c.step.result c.step.ensures.answer

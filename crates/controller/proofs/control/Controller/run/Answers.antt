use Rattle.std.proofs.Math.Logic.{∥∥₁_map}
use Rattle.controller.specs.Running.{desk}
use Rattle.controller.proofs.Calls.{run_call}
use Rattle.controller.proofs.Same.{same, told_otherwise}
use Rattle.controller.proofs.Settled.{run_settled, same_standing}
use Rattle.controller.proofs.Numbers.{run_number, run_stop}
use Rattle.controller.proofs.control.Controller.run.Goals as goal

pub invariant_of-self : goal.invariant_of-self
invariant_of-self g c = let s = c.args.self.now in record { reached = ∥∥₁_map s.reached (λ k. (run_call g.R.Register s.shot c.run.new.self s.register c.run.new.register c.args.work.now c.run.new.work k c.args.budget c.run.result c.run.ensures.answer c.run.ensures.refused).after) }

pub returns-clause-refused : goal.returns-clause-refused
returns-clause-refused g c = told_otherwise c.run.result c.run.ensures.refused (λ _ p. p) (λ _ q. (same g.R.Register c.args.self.now _ q.0 q.1, q.2))

pub returns-clause-kept : goal.returns-clause-kept
returns-clause-kept g c k = let s = c.args.self.now in run_call g.R.Register s.shot c.run.new.self s.register c.run.new.register c.args.work.now c.run.new.work k c.args.budget c.run.result c.run.ensures.answer c.run.ensures.refused

pub returns-clause-settled : goal.returns-clause-settled
returns-clause-settled g c tells h =
    let s = c.args.self.now in
    run_settled g.R.Register tells h c.args.budget (desk s.shot s.register c.args.work.now) (desk c.run.new.self c.run.new.register c.run.new.work) c.run.result c.run.ensures.answer
    (same_standing g.R.Register s.shot c.run.new.self s.register c.run.new.register c.args.work.now c.run.new.work c.run.result c.run.ensures.refused)

pub returns-clause-lowest : goal.returns-clause-lowest
returns-clause-lowest g c k =
    let s = c.args.self.now in
    run_number g.R.Register c.args.budget (desk s.shot s.register c.args.work.now) (desk c.run.new.self c.run.new.register c.run.new.work) k c.run.result c.run.ensures.answer

pub returns-clause-stop : goal.returns-clause-stop
returns-clause-stop g c = run_stop g.R.Register c.args.self.now c.run.new.self c.run.new.register c.args.work.now c.run.new.work c.args.budget c.run.result c.run.ensures.answer c.run.ensures.refused

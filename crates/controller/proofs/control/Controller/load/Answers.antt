use Rattle.controller.specs.Shots.{held}
use Rattle.std.proofs.Common.{refl}
use Rattle.std.proofs.Math.Logic.{∥∥₁_map}
use Rattle.controller.proofs.Accepted.{derivable}
use Rattle.controller.proofs.Loaded.{load_call}
use Rattle.controller.proofs.Same.{same, told_otherwise}
use Rattle.controller.proofs.Loaded.{load_number, load_place}
use Rattle.controller.proofs.control.Controller.load.Goals as goal

pub invariant_of-self : goal.invariant_of-self
invariant_of-self g c =
    let r = g.R.Register in
    let s = c.args.self.now in
    let p = c.args.program.now in
    record {
      reached = ∥∥₁_map s.reached (λ k. ((load_call r.changes r.meaning p.types.now p.terms.now p.checked s.shot c.load.new.self s.register s.register c.load.result c.load.ensures.answer c.load.ensures.state refl).2 k).after);
    }

pub returns-clause-state : goal.returns-clause-state
returns-clause-state g c = told_otherwise c.load.result c.load.ensures.state (λ _ p. (p, refl)) (λ _ q. same g.R.Register c.args.self.now _ q refl)

pub returns-clause-kept : goal.returns-clause-kept
returns-clause-kept g c =
    let r = g.R.Register in
    let s = c.args.self.now in
    let p = c.args.program.now in
    load_call r.changes r.meaning p.types.now p.terms.now p.checked s.shot c.load.new.self s.register s.register c.load.result c.load.ensures.answer c.load.ensures.state refl

pub returns-clause-derivable : goal.returns-clause-derivable
returns-clause-derivable g c = derivable c.args.program.now.types.now c.args.program.now.terms.now c.args.program.now.checked

pub returns-clause-lowest : goal.returns-clause-lowest
returns-clause-lowest g c =
    let r = g.R.Register in
    let s = c.args.self.now in
    let p = c.args.program.now in
    load_number r.changes r.meaning p.types.now p.terms.now p.checked s.shot s.register c.load.result c.load.ensures.answer

pub returns-clause-place : goal.returns-clause-place
returns-clause-place g c =
    let r = g.R.Register in
    let s = c.args.self.now in
    let p = c.args.program.now in
    load_place (r.meaning s.register).makes p.types.now p.terms.now p.checked (held s.shot) c.load.result c.load.ensures.answer

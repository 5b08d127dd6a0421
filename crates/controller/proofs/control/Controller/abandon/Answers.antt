use Rattle.std.proofs.Math.Logic.{∥∥₁_map}
use Rattle.controller.proofs.Keeping.{abandon_call}
use Rattle.controller.proofs.Same.{same, told_otherwise}
use Rattle.std.proofs.Common.{sym, subst}
use Rattle.rows.specs.Refusing.{Answers}
use Rattle.rows.specs.Members.{abandon}
use Rattle.controller.specs.Faults.{number_refused}
use Rattle.controller.specs.Keeping.{place_of}
use Rattle.controller.proofs.Numbers.{abandon_number}
use Rattle.controller.proofs.control.Controller.abandon.Goals as goal

pub invariant_of-self : goal.invariant_of-self
invariant_of-self g c = let s = c.args.self.now in record { reached = ∥∥₁_map s.reached (λ k. (abandon_call g.R.Register.changes g.R.Register.meaning s.shot c.abandon.new.self s.register c.abandon.new.register c.abandon.result c.abandon.ensures.answer c.abandon.ensures.state k).after) }

pub returns-clause-state : goal.returns-clause-state
returns-clause-state g c = told_otherwise c.abandon.result c.abandon.ensures.state (λ _ p. p) (λ _ q. same g.R.Register c.args.self.now _ q.0 q.1)

pub returns-clause-kept : goal.returns-clause-kept
returns-clause-kept g c k = let s = c.args.self.now in abandon_call g.R.Register.changes g.R.Register.meaning s.shot c.abandon.new.self s.register c.abandon.new.register c.abandon.result c.abandon.ensures.answer c.abandon.ensures.state k

pub returns-clause-lowest : goal.returns-clause-lowest
returns-clause-lowest g c k = subst (λ x. Answers (place_of k) abandon (number_refused x)) (sym c.abandon.ensures.answer) (abandon_number k)

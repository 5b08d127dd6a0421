use Rattle.std.proofs.Common.{length}
use Rattle.std.proofs.Math.Logic.{∥∥₁_map}
use Rattle.controller.proofs.Collected.{collect_call}
use Rattle.controller.proofs.Same.{same, told_otherwise}
use Rattle.std.proofs.Common.{sym, subst}
use Rattle.rows.specs.Refusing.{Answers}
use Rattle.rows.specs.Members.{collect}
use Rattle.controller.specs.Faults.{number_refused}
use Rattle.controller.specs.Keeping.{place_of}
use Rattle.controller.proofs.Numbers.{collect_number}
use Rattle.controller.proofs.control.Controller.collect.Goals as goal

pub invariant_of-self : goal.invariant_of-self
invariant_of-self g c = let s = c.args.self.now in record { reached = ∥∥₁_map s.reached (λ k. (collect_call g.R.Register.changes g.R.Register.meaning s.shot c.collect.new.self s.register c.collect.new.register (length c.args.value.now) (length c.args.kinds.now) c.collect.result c.collect.ensures.answer c.collect.ensures.state k).after) }

pub returns-clause-state : goal.returns-clause-state
returns-clause-state g c = told_otherwise c.collect.result c.collect.ensures.state (λ _ p. p) (λ _ q. same g.R.Register c.args.self.now _ q.0 q.1)

pub returns-clause-kept : goal.returns-clause-kept
returns-clause-kept g c k = let s = c.args.self.now in collect_call g.R.Register.changes g.R.Register.meaning s.shot c.collect.new.self s.register c.collect.new.register (length c.args.value.now) (length c.args.kinds.now) c.collect.result c.collect.ensures.answer c.collect.ensures.state k

pub returns-clause-lowest : goal.returns-clause-lowest
returns-clause-lowest g c k =
    let v = length c.args.value.now in
    let w = length c.args.kinds.now in
    subst (λ x. Answers (place_of k) (collect v w) (number_refused x)) (sym c.collect.ensures.answer) (collect_number k v w)

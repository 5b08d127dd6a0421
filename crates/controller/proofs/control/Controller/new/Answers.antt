use Rattle.std.proofs.Common.{◌≡◌, rules, sym, subst}
use Rattle.controller.specs.Keeping.{Kept}
use Rattle.controller.specs.Shots.{held, nothing_held}
use Rattle.controller.proofs.Keeping.{kept_new}
use Rattle.controller.proofs.control.Controller.new.Goals as goal

pub invariant_of-result : goal.invariant_of-result
invariant_of-result g c =
    let r = g.R.Register in
    let register = c.args.register in
    let nothing : held c.default.result ≡ nothing_held = search rules in
    record {
      reached = ∣ subst (λ h. Kept r.changes h (r.meaning c.clear.new.self)) (sym nothing)
          (subst (Kept r.changes nothing_held) (sym c.clear.ensures.state) (kept_new r.changes (r.meaning register) (r.owed register).small)) ∣₁;
    }

pub returns-clause-kept : goal.returns-clause-kept
returns-clause-kept g c =
    let r = g.R.Register in
    let register = c.args.register in
    let nothing : held c.default.result ≡ nothing_held = search rules in
    subst (λ h. Kept r.changes h (r.meaning c.clear.new.self)) (sym nothing)
    (subst (Kept r.changes nothing_held) (sym c.clear.ensures.state) (kept_new r.changes (r.meaning register) (r.owed register).small))

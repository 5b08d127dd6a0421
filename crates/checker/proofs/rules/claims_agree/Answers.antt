use Rattle.std.proofs.Common.{refl, ◌∙◌}
use Rattle.calculus.specs.Terms.{app, pair, let_pair}
use Rattle.checker.specs.Scoping.{in_scope}
use Rattle.checker.proofs.Claimed.{two_claimed, three_claimed}
use Rattle.checker.proofs.Nodes.{letter_is, app_here, pair_here, let_here}
use Rattle.verdict.specs.Claims.{application_fits, pair_fits, let_fits}
use Rattle.checker.proofs.rules.claims_agree.Goals as goal

pub returns-in-a : goal.returns-in-a
returns-in-a c =
    let t = app_here c.args.node (letter_is c.cell-cell.ensures c.in-a.is) in
    c.application_fits.ensures
    ∙ two_claimed c.args.node _ _ app (in_scope c.args.scope.now) application_fits (λ c m n. refl) t c.part-in-a-2.ensures c.part-in-a.ensures _ _ _ c.claim-claim.ensures.claimed c.claim-in-a.ensures.claimed c.claim-argument.ensures.claimed

pub returns-in-p : goal.returns-in-p
returns-in-p c =
    let t = pair_here c.args.node (letter_is c.cell-cell.ensures c.in-p.is) in
    c.pair_fits.ensures
    ∙ two_claimed c.args.node _ _ pair (in_scope c.args.scope.now) pair_fits (λ c m n. refl) t c.part-in-p.ensures c.part-in-p-2.ensures _ _ _ c.claim-claim.ensures.claimed c.claim-in-p.ensures.claimed c.claim-in-p-2.ensures.claimed

pub returns-in-d : goal.returns-in-d
returns-in-d c =
    let t = let_here c.args.node (letter_is c.cell-cell.ensures c.in-d.is) in
    c.let_fits.ensures
    ∙ two_claimed c.args.node _ _ let_pair (in_scope c.args.scope.now) let_fits (λ c m n. refl) t c.part-in-d.ensures c.part-in-d-2.ensures _ _ _ c.claim-claim.ensures.claimed c.claim-in-d.ensures.claimed c.claim-in-d-2.ensures.claimed

pub returns-in-i : goal.returns-in-i
returns-in-i c =
    let k = letter_is c.cell-cell.ensures c.in-i.is in
    c.condition_fits.ensures
    ∙ three_claimed c.args.node _ _ _ (in_scope c.args.scope.now) k c.part-in-i.ensures c.part-in-i-2.ensures c.part-in-i-3.ensures _ _ _ _ c.claim-claim.ensures.claimed c.claim-condition.ensures.claimed c.claim-in-i.ensures.claimed c.claim-in-i-2.ensures.claimed

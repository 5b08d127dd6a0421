use Rattle.std.proofs.Common.{length, rules, tests, arith, ◌∙◌}
use Rattle.std.proofs.lemmas.Iterator.{YieldsList-from_slice}
use Rattle.std.proofs.lemmas.Iterator.Consumers.{YieldsList-from_enumerate}
use Rattle.std.proofs.lemmas.Iterator.Search.{all_from_yields_List}
use Rattle.checker.proofs.Clearing.{may_stay, by_levels}
use Rattle.checker.proofs.scope.is_clear.Goals as goal

pub returns : goal.returns
returns c =
    let bs = c.args.scope.now.binders.items in
    all_from_yields_List (may_stay c.args.used) c.all.new.self _ c.all.result c.all.ensures.ran
    (YieldsList-from_enumerate (YieldsList-from_slice bs (cc)) (cc))
    (λ x b q k. search (rules, tests))
    ∙ by_levels 0 (length bs) bs c.args.used (omega arith)

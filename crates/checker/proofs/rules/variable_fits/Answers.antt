use Rattle.std.proofs.Common.{◌≡◌, ap, ◌∙◌, rules}
use Rattle.std.proofs.lemmas.Iterator.Adapters.{YieldsList-from_rev_slice}
use Rattle.std.proofs.lemmas.Iterator.Consumers.{nth_from_yields_List}
use Rattle.std.specs.List.{slice_get}
use Rattle.std.specs.Option.{option_map}
use Rattle.checker.specs.Scoping.{in_scope}
use Rattle.subtyping.specs.Meaning.{meant}
use Rattle.checker.proofs.Clearing.{nearest}
use Rattle.checker.proofs.rules.variable_fits.Goals as goal
use Rattle.checker.proofs.rules.variable_fits.Goals.{After-nth}

-- the binder that was found, counted outward
found : (c : After-nth) → option_map (λ x. meant x.now) c.nth.result ≡ slice_get (in_scope c.args.scope.now) c.args.above
found c =
    let rest = ap (λ i. i.rest.now) c.rev.ensures.source ∙ c.iter.ensures.rest ∙ c.deref.ensures.0 in
    nearest c.args.scope.now.binders.items _ c.args.above (nth_from_yields_List _ _ c.args.above c.nth.ensures.ran (YieldsList-from_rev_slice _ rest))

pub returns-in-Some : goal.returns-in-Some
returns-in-Some c = search (rules, found (goal.at.returns-in-Some c).After-nth)

pub returns-in_default : goal.returns-in_default
returns-in_default c = search (rules, found (goal.at.returns-in_default c).After-nth)

pub returns-in_default-2 : goal.returns-in_default-2
returns-in_default-2 c = search (rules, found (goal.at.returns-in_default-2 c).After-nth)

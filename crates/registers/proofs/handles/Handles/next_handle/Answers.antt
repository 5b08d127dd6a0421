use Rattle.std.proofs.Common.{◌≡◌, not, Some, rules, of_calls, ◌∙◌, MatchOption}
use Rattle.std.specs.List.{position}
use Rattle.registers.proofs.Found.{next_found}
use Rattle.registers.proofs.handles.Handles.next_handle.Goals as goal

pub returns : goal.returns
returns c =
    let below = c.below-below.result.now in
    let found : MatchOption c.free_from.result (c.or_else.result ≡ position not below) (λ place. c.or_else.result ≡ Some place) = search (rules, of_calls) in
    rw (← c.below-below.ensures.these) (c.unwrap_or.ensures ∙ next_found below c.args.self.now.next c.free_from.result c.or_else.result c.free_from.ensures found)

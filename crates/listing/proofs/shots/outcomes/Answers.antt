use Rattle.std.proofs.Common.{◌%◌, rules}
use Rattle.std.proofs.lemmas.List.FromFn.{fill_by_all}
use Rattle.listing.proofs.shots.outcomes.Goals as goal

pub returns : goal.returns
returns c = fill_by_all (λ k. k % 2) c.loop-k.outcomes 64 0 c.loop-k.invariant.0 (search rules)

use Rattle.samples.proofs.any.+any_kind.Given as goal

abbrev pub decreases-any_kind : goal.decreases-any_kind
decreases-any_kind l = l.depth

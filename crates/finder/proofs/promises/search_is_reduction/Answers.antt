use Rattle.finder.proofs.Reduction.{search_is_reduction}
use Rattle.finder.proofs.promises.search_is_reduction.Goals as goal

pub returns : goal.returns
returns c = search_is_reduction

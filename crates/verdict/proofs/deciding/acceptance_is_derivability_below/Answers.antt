use Rattle.verdict.proofs.Exact.{derivable_below}
use Rattle.verdict.proofs.deciding.acceptance_is_derivability_below.Goals as goal

pub returns : goal.returns
returns c = derivable_below

use Rattle.verdict.proofs.Exact.{derivable}
use Rattle.verdict.proofs.deciding.acceptance_is_derivability.Goals as goal

pub returns : goal.returns
returns c = derivable

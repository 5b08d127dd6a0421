use Rattle.calculus.proofs.safety.values_rest.Goals as goal
use Rattle.calculus.proofs.Determinism.{values_rest}

pub returns : goal.returns
returns c = values_rest

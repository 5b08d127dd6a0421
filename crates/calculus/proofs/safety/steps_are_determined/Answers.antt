use Rattle.calculus.proofs.safety.steps_are_determined.Goals as goal
use Rattle.calculus.proofs.Determinism.{deterministic}

pub returns : goal.returns
returns c = deterministic

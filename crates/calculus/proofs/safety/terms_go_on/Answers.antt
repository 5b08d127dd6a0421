use Rattle.calculus.proofs.safety.terms_go_on.Goals as goal
use Rattle.calculus.proofs.Canonical.{progress}

pub returns : goal.returns
returns c = progress

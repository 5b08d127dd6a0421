use Rattle.calculus.proofs.safety.samples_are_judged.Goals as goal
use Rattle.calculus.proofs.Samples.{judged}

pub returns : goal.returns
returns c = judged

use Rattle.calculus.proofs.safety.subtyping_is_lawful.Goals as goal
use Rattle.calculus.proofs.Lemmas.{subtyping_laws}

pub returns : goal.returns
returns c = subtyping_laws

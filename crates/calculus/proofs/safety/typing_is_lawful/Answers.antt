use Rattle.calculus.proofs.safety.typing_is_lawful.Goals as goal
use Rattle.calculus.proofs.Lemmas.{typing_laws}

pub returns : goal.returns
returns c = typing_laws

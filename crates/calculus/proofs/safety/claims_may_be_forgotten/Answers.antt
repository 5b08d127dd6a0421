use Rattle.calculus.proofs.Erasure.{erasure_laws}
use Rattle.calculus.proofs.safety.claims_may_be_forgotten.Goals as goal

pub returns : goal.returns
returns c = erasure_laws

use Rattle.calculus.proofs.safety.terms_keep_their_type.Goals as goal
use Rattle.calculus.proofs.Preservation.{subject_reduction}

pub returns : goal.returns
returns c = subject_reduction

use Rattle.worked.proofs.Worked.{worked_terms}
use Rattle.worked.proofs.worked_terms_hold.Goals as goal

pub returns : goal.returns
returns c = worked_terms

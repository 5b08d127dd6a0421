use Rattle.calculus.proofs.Stripping.{same_exact}
use Rattle.calculus.proofs.meaning.same_is_exact.Goals as goal

pub returns : goal.returns
returns c = same_exact

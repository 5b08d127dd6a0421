use Rattle.calculus.proofs.Stripping.{subtype_exact}
use Rattle.calculus.proofs.meaning.subtype_is_exact.Goals as goal

pub returns : goal.returns
returns c = subtype_exact

use Rattle.checker.proofs.Exact.{checking_is_exact}
use Rattle.checker.proofs.accepting.checking_is_exact.Goals as goal

pub returns : goal.returns
returns c = checking_is_exact

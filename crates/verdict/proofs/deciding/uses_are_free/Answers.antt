use Rattle.verdict.proofs.Uses.{uses_are_free}
use Rattle.verdict.proofs.deciding.uses_are_free.Goals as goal

pub returns : goal.returns
returns c = uses_are_free

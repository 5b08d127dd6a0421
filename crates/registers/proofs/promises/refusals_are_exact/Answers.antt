use Rattle.registers.proofs.Sheet.{refusals_are_exact}
use Rattle.registers.proofs.promises.refusals_are_exact.Goals as goal

pub returns : goal.returns
returns g c = refusals_are_exact

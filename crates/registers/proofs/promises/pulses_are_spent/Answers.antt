use Rattle.registers.proofs.Spending.{pulses_are_spent}
use Rattle.registers.proofs.promises.pulses_are_spent.Goals as goal

pub returns : goal.returns
returns g c = pulses_are_spent g.R.Register

use Rattle.rows.proofs.Exact.{steps_are_exact}
use Rattle.rows.proofs.steps_are_exact.Goals as goal

pub returns : goal.returns
returns g c = steps_are_exact _

use Rattle.rows.proofs.Runs.{runs_are_steps}
use Rattle.rows.proofs.runs_are_their_steps.Goals as goal

pub returns : goal.returns
returns g c = runs_are_steps _

use Rattle.stepper.proofs.Steps.{step_laws}
use Rattle.stepper.proofs.promises.steps_are_made_on_cells.Goals as goal

pub returns : goal.returns
returns c = step_laws

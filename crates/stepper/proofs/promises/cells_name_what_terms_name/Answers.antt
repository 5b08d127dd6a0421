use Rattle.stepper.proofs.Dropped.{names_laws}
use Rattle.stepper.proofs.promises.cells_name_what_terms_name.Goals as goal

pub returns : goal.returns
returns c = names_laws

use Rattle.calculus.proofs.Duplicable.{duplicable_values_name_none}
use Rattle.calculus.proofs.safety.duplicable_values_name_none.Goals as goal

pub returns : goal.returns
returns c = duplicable_values_name_none

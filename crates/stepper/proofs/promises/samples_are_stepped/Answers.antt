use Rattle.std.proofs.Common.{refl}
use Rattle.stepper.proofs.promises.samples_are_stepped.Goals as goal

pub returns : goal.returns
returns c = record { next = refl; drops = refl }

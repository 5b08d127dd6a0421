use Rattle.std.proofs.Common.{refl}
use Rattle.reader.proofs.promises.samples_are_judged.Goals as goal

pub returns : goal.returns
returns c = record { each = refl; kinds_end = refl; ops_end = refl }

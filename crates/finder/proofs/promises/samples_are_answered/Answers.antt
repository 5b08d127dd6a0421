use Rattle.std.proofs.Common.{refl}
use Rattle.finder.proofs.promises.samples_are_answered.Goals as goal

pub returns : goal.returns
returns c = record { each = refl; bad_handle = refl; swap = refl; too_many = refl }

use Rattle.std.proofs.Common.{length}
use Rattle.notation.proofs.types.+push_type.Given as goal

abbrev pub decreases-push_type : goal.decreases-push_type
decreases-push_type l = length l.cells.now

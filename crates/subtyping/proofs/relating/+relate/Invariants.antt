use Rattle.std.proofs.Common.{◌+◌}
use Rattle.subtyping.proofs.Places.{room}
use Rattle.subtyping.proofs.relating.+relate.Given as goal

abbrev pub decreases-relate : goal.decreases-relate
decreases-relate g l = room l.left + room l.right

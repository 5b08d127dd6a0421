use Rattle.std.proofs.Common.{◌-◌, length}
use Rattle.finder.proofs.finder.+work.Given as goal

abbrev pub decreases-work : goal.decreases-work
decreases-work l = length l.cells.now - l.at

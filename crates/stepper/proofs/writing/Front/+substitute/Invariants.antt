use Rattle.std.proofs.Common.{length}
use Rattle.stepper.proofs.writing.Front.+substitute.Given as goal

abbrev pub decreases-substitute : goal.decreases-substitute
decreases-substitute l = length l.cells.now

use Rattle.std.proofs.Common.{length}
use Rattle.termview.proofs.depths.+note_depths.Given as goal

abbrev pub decreases-note_depths : goal.decreases-note_depths
decreases-note_depths l = length l.cells.now

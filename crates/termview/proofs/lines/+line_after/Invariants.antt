use Rattle.std.proofs.Common.{length}
use Rattle.termview.proofs.lines.+line_after.Given as goal

abbrev pub decreases-line_after : goal.decreases-line_after
decreases-line_after l = length l.text.now

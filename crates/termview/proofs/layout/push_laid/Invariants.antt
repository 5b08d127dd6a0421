use Rattle.std.proofs.Common.{◌≤◌, length, string_bytes}
use Rattle.termview.proofs.Laying.{LaidSoFar}
use Rattle.termview.proofs.layout.push_laid.Given as goal

abbrev pub invariant-loop-indent : goal.invariant-loop-indent
invariant-loop-indent l = (l.indent ≤ 40) × LaidSoFar l.text (string_bytes l.fn.out) (string_bytes l.out) l.rest

abbrev pub decreases-loop-indent : goal.decreases-loop-indent
decreases-loop-indent l = length l.rest

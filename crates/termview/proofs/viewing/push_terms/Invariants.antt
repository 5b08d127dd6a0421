use Rattle.std.proofs.Common.{◌≤◌, length, string_bytes}
use Rattle.termview.proofs.Laying.{TermsSoFar}
use Rattle.termview.proofs.viewing.push_terms.Given as goal

abbrev pub invariant-loop-rest : goal.invariant-loop-rest
invariant-loop-rest l = (length l.rest ≤ length l.cells) × TermsSoFar l.cells l.rest (string_bytes l.fn.out) (string_bytes l.out)

abbrev pub decreases-loop-rest : goal.decreases-loop-rest
decreases-loop-rest l = length l.rest

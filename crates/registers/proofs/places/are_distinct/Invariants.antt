use Rattle.std.proofs.Common.{◌≡◌, length}
use Rattle.registers.specs.Answers.{distinct}
use Rattle.registers.proofs.places.are_distinct.Given as goal

abbrev pub invariant-loop-handle : goal.invariant-loop-handle
invariant-loop-handle l = distinct l.rest ≡ distinct l.on

abbrev pub decreases-loop-handle : goal.decreases-loop-handle
decreases-loop-handle l = length l.rest

use Rattle.std.proofs.Common.{◌+◌, ◌*◌, length}
use Rattle.notation.proofs.terms.+term.Given as goal

abbrev pub decreases-push_part : goal.decreases-push_part
decreases-push_part l = 2 * length l.cells.now

abbrev pub decreases-push_function : goal.decreases-push_function
decreases-push_function l = 2 * length l.parts.now + 1

abbrev pub decreases-push_application : goal.decreases-push_application
decreases-push_application l = 2 * length l.parts.now + 1

abbrev pub decreases-push_pair : goal.decreases-push_pair
decreases-push_pair l = 2 * length l.parts.now + 1

abbrev pub decreases-push_let : goal.decreases-push_let
decreases-push_let l = 2 * length l.parts.now + 1

abbrev pub decreases-push_condition : goal.decreases-push_condition
decreases-push_condition l = 2 * length l.parts.now + 1

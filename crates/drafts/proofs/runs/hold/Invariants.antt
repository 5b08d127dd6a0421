use Rattle.std.proofs.Common.{◌≡◌, ◌++◌, ◌*◌}
use Rattle.drafts.specs.Runs.{held_qubits}
use Rattle.drafts.proofs.runs.hold.Given as goal

abbrev pub invariant-loop-i : goal.invariant-loop-i
invariant-loop-i l = (l.draft.types ≡ l.initial.draft.types) × (l.draft.terms.items ≡ l.initial.draft.terms.items ++ held_qubits (2 * l.held) l.i)

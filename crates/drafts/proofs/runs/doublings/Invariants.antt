use Rattle.std.proofs.Common.{◌≡◌, ◌++◌}
use Rattle.drafts.specs.Runs.{applications, doubled_identity}
use Rattle.drafts.proofs.runs.doublings.Given as goal

abbrev pub invariant-loop : goal.invariant-loop
invariant-loop l = (l.draft.types ≡ l.initial.draft.types) × (l.draft.terms.items ≡ l.initial.draft.terms.items ++ applications l.counter 0 (doubled_identity l.depth))

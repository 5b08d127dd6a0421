use Rattle.std.proofs.Common.{◌≡◌, ◌++◌}
use Rattle.drafts.specs.Limits.{calls}
use Rattle.drafts.proofs.runs.uses.Given as goal

abbrev pub invariant-loop : goal.invariant-loop
invariant-loop l = (l.draft.types ≡ l.initial.draft.types) × (l.draft.terms.items ≡ l.initial.draft.terms.items ++ calls l.index l.counter)

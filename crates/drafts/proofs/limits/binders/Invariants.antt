use Rattle.std.proofs.Common.{◌≡◌}
use Rattle.drafts.proofs.Nested.{arrows, functions}
use Rattle.drafts.proofs.limits.binders.Given as goal

abbrev pub invariant-loop-i : goal.invariant-loop-i
invariant-loop-i l = (l.draft.types.items ≡ arrows l.i) × (l.draft.terms.items ≡ functions l.i)

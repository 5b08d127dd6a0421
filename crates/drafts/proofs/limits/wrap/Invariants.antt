use Rattle.std.proofs.Common.{◌≡◌, ◌++◌}
use Rattle.drafts.specs.Limits.{wraps}
use Rattle.drafts.proofs.limits.wrap.Given as goal

abbrev pub invariant-loop : goal.invariant-loop
invariant-loop l = (l.draft.types ≡ l.initial.draft.types) × (l.draft.terms.items ≡ l.initial.draft.terms.items ++ wraps l.counter)

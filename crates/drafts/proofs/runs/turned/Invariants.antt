use Rattle.std.proofs.Common.{◌≡◌, ◌++◌}
use Rattle.calculus.specs.Terms.{bound, var}
use Rattle.drafts.specs.Runs.{applications}
use Rattle.drafts.proofs.runs.turned.Given as goal

abbrev pub invariant-loop : goal.invariant-loop
invariant-loop l = (l.draft.types ≡ l.initial.draft.types) × (l.draft.terms.items ≡ l.initial.draft.terms.items ++ applications l.counter 7 (var 19 (bound 0)))

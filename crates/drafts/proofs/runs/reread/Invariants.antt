use Rattle.std.proofs.Common.{◌≡◌, ◌+◌, ◌++◌}
use Rattle.calculus.specs.Terms.{meas, bound, var, const, lam, app}
use Rattle.drafts.specs.Runs.{applications, made}
use Rattle.drafts.proofs.runs.reread.Given as goal

abbrev pub invariant-loop : goal.invariant-loop
invariant-loop l =
    (l.draft.types ≡ l.initial.draft.types) × (l.draft.terms.items ≡ l.initial.draft.terms.items
    ++ applications l.counter l.bit (lam (l.bit + 7) (app l.bit (const (l.bit + 4) meas) (made l.bit (var l.bit (bound 0))))))

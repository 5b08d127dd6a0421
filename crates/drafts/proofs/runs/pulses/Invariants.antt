use Rattle.std.proofs.Common.{◌≡◌, ◌++◌}
use Rattle.calculus.specs.declared.gates.Gate.TheVariants.{H}
use Rattle.calculus.specs.Terms.{gate, const}
use Rattle.drafts.specs.Runs.{applications}
use Rattle.drafts.proofs.runs.pulses.Given as goal

abbrev pub invariant-loop : goal.invariant-loop
invariant-loop l = (l.draft.types ≡ l.initial.draft.types) × (l.draft.terms.items ≡ l.initial.draft.terms.items ++ applications l.counter 0 (const 1 (gate H)))

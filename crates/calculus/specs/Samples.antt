-- Two terms that differ in one handle: the first is well-typed, the second has no type.
use Rattle.calculus.specs.Types.{Ty, qbit, tensor}
use Rattle.calculus.specs.declared.gates.Gate.TheVariants.{Cnot}
use Rattle.calculus.specs.Terms.{gate, held, var, const, app, pair, Running}
use Rattle.calculus.specs.Names.{WellTyped}

abbrev pub controlled : Running → Running → Running
controlled m n = app tt (const tt (gate Cnot)) (pair tt m n)

pub record Judged : Type 0 where
  pub two_qubits : WellTyped (controlled (var tt (held 0)) (var tt (held 1))) (tensor qbit qbit)
  pub one_twice : (a : Ty) → WellTyped (controlled (var tt (held 0)) (var tt (held 0))) a → ⊥

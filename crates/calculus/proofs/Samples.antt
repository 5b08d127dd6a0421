-- The samples.
use Rattle.std.proofs.Common.{ℕ, zero, suc, Some, None, refl, inl}
use Rattle.calculus.specs.Types.{qbit, sub_use}
use Rattle.calculus.specs.Terms.{bound, held}
use Rattle.calculus.specs.Contexts.{Context, to_left, to_right, Split}
use Rattle.calculus.specs.Typing.{rule_variable, rule_constant, rule_application, rule_pair}
use Rattle.calculus.specs.Names.{way_held, way_const, way_app, way_pair}
use Rattle.calculus.specs.Samples.{Judged}
use Rattle.calculus.proofs.Subtyping.{sub_refl}
use Rattle.calculus.proofs.Values.{QubitAt, no_qubit, a_qubit}
use Rattle.calculus.proofs.Ways.{well_typed, no_way_names_twice}

abbrev of_two : Context
of_two (bound i) = None
of_two (held zero) = Some qbit
of_two (held (suc zero)) = Some qbit
of_two (held (suc (suc h))) = None

abbrev of_first : Context
of_first (bound i) = None
of_first (held zero) = Some qbit
of_first (held (suc h)) = None

abbrev of_second : Context
of_second (bound i) = None
of_second (held zero) = None
of_second (held (suc zero)) = Some qbit
of_second (held (suc (suc h))) = None

qubits_of_two : (h : ℕ) → QubitAt (of_two (held h))
qubits_of_two zero = a_qubit
qubits_of_two (suc zero) = a_qubit
qubits_of_two (suc (suc h)) = no_qubit

shared_by_two : Split of_two of_first of_second
shared_by_two (bound i) = to_left
shared_by_two (held zero) = to_left
shared_by_two (held (suc zero)) = to_right
shared_by_two (held (suc (suc h))) = to_left

pub judged : Judged
judged = record {
  two_qubits = well_typed {γ = of_two} (λ i. refl) qubits_of_two
      (rule_application {γ₁ = λ x. None} {γ₂ = of_two} tt (λ x. to_right) (rule_constant tt (sub_use (sub_refl _)))
      (rule_pair 0 qbit qbit tt shared_by_two refl (rule_variable tt refl (sub_refl _)) (rule_variable tt refl (sub_refl _))));
  one_twice = λ a t. (no_way_names_twice _ a _ t (way_app way_const (way_pair way_held way_held))).0 (inl refl);
}

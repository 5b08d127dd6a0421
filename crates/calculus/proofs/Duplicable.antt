-- A value of a duplicable type names no qubit.
use Rattle.calculus.specs.Safety.{DuplicableValuesNameNone}
use Rattle.calculus.proofs.Values.{value_names_none}
use Rattle.calculus.proofs.Ways.{wires_qubits}

pub duplicable_values_name_none : DuplicableValuesNameNone
duplicable_values_name_none v a h is (γ, w, d) f = value_names_none w.no_binder (wires_qubits w) is d tt f

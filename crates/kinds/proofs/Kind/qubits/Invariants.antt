use Rattle.std.proofs.Common.{◌≡◌, ◌≤◌}
use Rattle.kinds.specs.Kinds.{kind_type, qubits_type}
use Rattle.kinds.proofs.Kind.qubits.Given as goal

abbrev pub invariant-loop : goal.invariant-loop
invariant-loop l = record {
  some : 1 ≤ l.counter;
  one : l.count ≤ 1 → l.counter ≡ 1;
  qubits : kind_type l.all ≡ qubits_type l.counter;
}

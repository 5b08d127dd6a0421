-- What a boxed type means: the type of the calculus under its marks.
use Rattle.std.specs.Prelude.{ℕ, zero, suc}
use Rattle.calculus.specs.Types.{Ty, bit, qbit, unit, arrow, tensor, bangs}
use Rattle.kinds.specs.declared.Kind.{Kind}
use Rattle.kinds.specs.declared.Head.{Head}
use Rattle.kinds.specs.declared.Head.TheVariants.{Bit, Qubit, Unit, Arrow', Pair'}

-- A part in a box has its marks and its head in the head that holds it.
abbrev pub head_type : Head → Ty
head_type Bit = bit
head_type Qubit = qbit
head_type Unit = unit
head_type (Arrow' p n a q m b) = arrow (bangs n (head_type a)) (bangs m (head_type b))
head_type (Pair' p n a q m b) = tensor (bangs n (head_type a)) (bangs m (head_type b))

abbrev pub kind_type : Kind → Ty
kind_type k = bangs k.marks (head_type k.head)

-- so many qubits, of which there is one at least: one, or a pair of one and the others
abbrev pub qubits_type : ℕ → Ty
qubits_type zero = qbit
qubits_type (suc zero) = qbit
qubits_type (suc (suc n)) = tensor qbit (qubits_type (suc n))

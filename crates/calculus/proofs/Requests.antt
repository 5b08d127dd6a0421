-- A term asks for one thing, whatever the register answers, and its next term has one size.
use Rattle.std.proofs.Common.{◌≡◌, ℕ, suc, ◌+◌, List, refl, ap, subst}
use Rattle.calculus.specs.declared.gates.Gate.{Gate}
use Rattle.calculus.specs.Terms.{Running, size}
use Rattle.calculus.specs.Reduction.{value_var, value_const, value_lam, value_pair, Operands, on_h, on_x, on_z, on_s, on_t, on_cnot, on_swap, on_toffoli, Effect, applies, Reduces, apply_function, open_pair, take_then, take_else, prepare_qubit, read_qubit, apply_gate, in_argument, in_function, in_left, in_right, in_condition, in_pair}
use Rattle.calculus.specs.Safety.{Alike, alike_silent, alike_prepares, alike_reads, alike_applies, OneRequest}
use Rattle.calculus.proofs.Determinism.{rests, operands_value}

same_operands : {u : Gate} {hs ks : List ℕ} {a : Running} → Operands u hs a → Operands u ks a → hs ≡ ks
same_operands on_h on_h = refl
same_operands on_x on_x = refl
same_operands on_z on_z = refl
same_operands on_s on_s = refl
same_operands on_t on_t = refl
same_operands on_cnot on_cnot = refl
same_operands on_swap on_swap = refl
same_operands on_toffoli on_toffoli = refl

abbrev One : Effect → Effect → Running → Running → Type 0
One e e' n n' = Alike e e' × (size n ≡ size n')

within : {e e' : Effect} {x y : ℕ} (f : ℕ → ℕ) → Alike e e' × (x ≡ y) → Alike e e' × (f x ≡ f y)
within f o = (o.0, ap f o.1)

pub one : {m n n' : Running} {e e' : Effect} → Reduces m e n → Reduces m e' n' → One e e' n n'
one (apply_function v) (apply_function _) = (alike_silent, refl)
one (apply_function v) (in_argument r) = absurd (rests v r)
one (apply_function v) (in_function _ r) = absurd (rests value_lam r)
one (open_pair v w) (open_pair _ _) = (alike_silent, refl)
one (open_pair v w) (in_pair r) = absurd (rests (value_pair v w) r)
one take_then take_then = (alike_silent, refl)
one take_then (in_condition r) = absurd (rests value_const r)
one take_else take_else = (alike_silent, refl)
one take_else (in_condition r) = absurd (rests value_const r)
one prepare_qubit prepare_qubit = (alike_prepares, refl)
one prepare_qubit (in_argument r) = absurd (rests value_const r)
one prepare_qubit (in_function _ r) = absurd (rests value_const r)
one read_qubit read_qubit = (alike_reads, refl)
one read_qubit (in_argument r) = absurd (rests value_var r)
one read_qubit (in_function _ r) = absurd (rests value_const r)
one (apply_gate {u = u} {hs = hs} o) (apply_gate o') = (subst (λ (ks : List ℕ). Alike (applies u hs) (applies u ks)) (same_operands o o') alike_applies, refl)
one (apply_gate o) (in_argument r) = absurd (rests (operands_value o) r)
one (apply_gate o) (in_function _ r) = absurd (rests value_const r)
one (in_argument r) (apply_function v) = absurd (rests v r)
one (in_argument r) prepare_qubit = absurd (rests value_const r)
one (in_argument r) read_qubit = absurd (rests value_var r)
one (in_argument r) (apply_gate o) = absurd (rests (operands_value o) r)
one (in_argument {m = m} r) (in_argument s) = within (λ k. suc (size m + k)) (one r s)
one (in_argument r) (in_function v s) = absurd (rests v r)
one (in_function v r) (apply_function _) = absurd (rests value_lam r)
one (in_function v r) prepare_qubit = absurd (rests value_const r)
one (in_function v r) read_qubit = absurd (rests value_const r)
one (in_function v r) (apply_gate o) = absurd (rests value_const r)
one (in_function v r) (in_argument s) = absurd (rests v s)
one (in_function {v = w} v r) (in_function _ s) = within (λ k. suc (k + size w)) (one r s)
one (in_left {n = n} r) (in_left s) = within (λ k. suc (k + size n)) (one r s)
one (in_left r) (in_right v s) = absurd (rests v r)
one (in_right v r) (in_left s) = absurd (rests v s)
one (in_right {v = w} v r) (in_right _ s) = within (λ k. suc (size w + k)) (one r s)
one (in_condition r) take_then = absurd (rests value_const r)
one (in_condition r) take_else = absurd (rests value_const r)
one (in_condition {m = m} {n = n} r) (in_condition s) = within (λ k. suc (k + (size m + size n))) (one r s)
one (in_pair r) (open_pair v w) = absurd (rests (value_pair v w) r)
one (in_pair {n = n} r) (in_pair s) = within (λ k. suc (k + size n)) (one r s)

pub one_request : OneRequest
one_request m n n' e e' r s = one r s

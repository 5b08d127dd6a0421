-- A value takes no step, and no other term takes two that ask and are answered alike.
use Rattle.std.proofs.Common.{◌≡◌, ℕ, Bool, List, refl, ap}
use Rattle.calculus.specs.declared.gates.Gate.{Gate}
use Rattle.calculus.specs.Terms.{held, bit_of, var, const, app, pair, if_then_else, let_pair, Running}
use Rattle.calculus.specs.Reduction.{Value, value_var, value_const, value_star, value_lam, value_pair, Operands, on_h, on_x, on_z, on_s, on_t, on_cnot, on_swap, on_toffoli, Effect, Reduces, apply_function, open_pair, take_then, take_else, prepare_qubit, read_qubit, apply_gate, in_argument, in_function, in_left, in_right, in_condition, in_pair}
use Rattle.calculus.specs.Safety.{Deterministic, ValuesRest}

pub rests : {m n : Running} {e : Effect} → Value m → Reduces m e n → ⊥
rests value_var r = elim r [ ]
rests value_const r = elim r [ ]
rests value_star r = elim r [ ]
rests value_lam r = elim r [ ]
rests (value_pair v w) (in_left r) = rests v r
rests (value_pair v w) (in_right _ r) = rests w r

pub values_rest : ValuesRest
values_rest m n e v r = rests v r

pub operands_value : {u : Gate} {hs : List ℕ} {a : Running} → Operands u hs a → Value a
operands_value on_h = value_var
operands_value on_x = value_var
operands_value on_z = value_var
operands_value on_s = value_var
operands_value on_t = value_var
operands_value on_cnot = value_pair value_var value_var
operands_value on_swap = value_pair value_var value_var
operands_value on_toffoli = value_pair value_var (value_pair value_var value_var)

same : {m n n' : Running} {e e' : Effect} → Reduces m e n → Reduces m e' n' → e ≡ e' → n ≡ n'
same (apply_function v) (apply_function _) q = refl
same (apply_function v) (in_argument r) q = absurd (rests v r)
same (apply_function v) (in_function _ r) q = absurd (rests value_lam r)
same (open_pair v w) (open_pair _ _) q = refl
same (open_pair v w) (in_pair r) q = absurd (rests (value_pair v w) r)
same take_then take_then q = refl
same take_then (in_condition r) q = absurd (rests value_const r)
same take_else take_else q = refl
same take_else (in_condition r) q = absurd (rests value_const r)
same (prepare_qubit {h = h}) (prepare_qubit {h = k}) q = let p : h ≡ k = cc in ap (λ (i : ℕ). var tt (held i)) p
same prepare_qubit (in_argument r) q = absurd (rests value_const r)
same prepare_qubit (in_function _ r) q = absurd (rests value_const r)
same (read_qubit {b = a}) (read_qubit {b = b}) q = let p : a ≡ b = cc in ap (λ (o : Bool). const tt (bit_of o)) p
same read_qubit (in_argument r) q = absurd (rests value_var r)
same read_qubit (in_function _ r) q = absurd (rests value_const r)
same (apply_gate o) (apply_gate _) q = refl
same (apply_gate o) (in_argument r) q = absurd (rests (operands_value o) r)
same (apply_gate o) (in_function _ r) q = absurd (rests value_const r)
same (in_argument r) (apply_function v) q = absurd (rests v r)
same (in_argument r) prepare_qubit q = absurd (rests value_const r)
same (in_argument r) read_qubit q = absurd (rests value_var r)
same (in_argument r) (apply_gate o) q = absurd (rests (operands_value o) r)
same (in_argument {m = m} r) (in_argument s) q = ap (app tt m) (same r s q)
same (in_argument r) (in_function v s) q = absurd (rests v r)
same (in_function v r) (apply_function _) q = absurd (rests value_lam r)
same (in_function v r) prepare_qubit q = absurd (rests value_const r)
same (in_function v r) read_qubit q = absurd (rests value_const r)
same (in_function v r) (apply_gate o) q = absurd (rests value_const r)
same (in_function v r) (in_argument s) q = absurd (rests v s)
same (in_function {v = w} v r) (in_function _ s) q = ap (λ (m : Running). app tt m w) (same r s q)
same (in_left {n = n} r) (in_left s) q = ap (λ (m : Running). pair tt m n) (same r s q)
same (in_left r) (in_right v s) q = absurd (rests v r)
same (in_right v r) (in_left s) q = absurd (rests v s)
same (in_right {v = w} v r) (in_right _ s) q = ap (pair tt w) (same r s q)
same (in_condition r) take_then q = absurd (rests value_const r)
same (in_condition r) take_else q = absurd (rests value_const r)
same (in_condition {m = m} {n = n} r) (in_condition s) q = ap (λ (p : Running). if_then_else tt p m n) (same r s q)
same (in_pair r) (open_pair v w) q = absurd (rests (value_pair v w) r)
same (in_pair {n = n} r) (in_pair s) q = ap (λ (m : Running). let_pair tt m n) (same r s q)

pub deterministic : Deterministic
deterministic m n n' e r s = same r s refl

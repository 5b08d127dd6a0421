-- The search of a term finds its step, if it takes one.
use Rattle.std.proofs.Common.{◌≡◌, ℕ, ◌+◌, Bool, true, false, ◌&&◌, List, [], ◌∷◌, Some, None, Option, sym, refl, ap, ◌∙◌, subst, arith}
use Rattle.std.specs.Bool.{then_some}
use Rattle.std.specs.Option.{option_or}
use Rattle.calculus.specs.declared.gates.Gate.{Gate}
use Rattle.calculus.specs.declared.gates.Gate.TheVariants.{H, X, Z, S, T, Cnot, Swap, Toffoli}
use Rattle.calculus.specs.Terms.{bit_of, meas, new, gate, bound, held, var, const, star, lam, app, pair, if_then_else, let_pair, Running, size}
use Rattle.calculus.specs.Reduction.{Value, value_var, value_const, value_star, value_lam, value_pair, Operands, on_h, on_x, on_z, on_s, on_t, on_cnot, on_swap, on_toffoli, Effect, silent, prepares, reads, applies, Reduces, apply_function, open_pair, take_then, take_else, prepare_qubit, read_qubit, apply_gate, in_argument, in_function, in_left, in_right, in_condition, in_pair}
use Rattle.calculus.proofs.Determinism.{operands_value}
use Rattle.finder.specs.Due.{Due, due_application, due_let, due_condition, of_argument, of_function, of_left, of_right, of_test, of_pair}
use Rattle.finder.specs.Search.{is_bit, is_qubit, is_pair_of, takes, applied, branched, opened, Found, found}
use Rattle.finder.specs.Steps.{step_rule, step_cell}
use Rattle.finder.specs.declared.rules.Rule.{Rule}
use Rattle.finder.specs.declared.rules.Rule.TheVariants.{Function, Pair, Then, Else, Prepare, Read, Gates}

pub value_found : {m : Running} → Value m → (at : ℕ) → found at m ≡ None
value_found value_var at = refl
value_found value_const at = refl
value_found value_star at = refl
value_found value_lam at = refl
value_found (value_pair {v = v} x y) at = simp (value_found x (at + 1), value_found y (at + 1 + size v))

operands_taken : {u : Gate} {hs : List ℕ} {m : Running} → Operands u hs m → takes u m ≡ true
operands_taken on_h = refl
operands_taken on_x = refl
operands_taken on_z = refl
operands_taken on_s = refl
operands_taken on_t = refl
operands_taken on_cnot = refl
operands_taken on_swap = refl
operands_taken on_toffoli = refl

-- the first cell that is due, and else the second
abbrev pub due : ℕ → Option Rule → Found
due at r = Some (at, r)

pub same_due : {j k : ℕ} {r s : Option Rule} → due j r ≡ due k s → (j ≡ k) × (r ≡ s)
same_due {j} {k} {r} {s} e = let z : ◌≡◌ {A = ℕ × Option Rule} (j, r) (k, s) = cc in (ap (λ t. t.0) z, ap (λ t. t.1) z)

waited : {w : Found} (u : Found) (r : Option Rule) (j k : ℕ) → w ≡ due j r → j ≡ k → option_or w u ≡ due k r
waited u r j k e p = ap (λ x. option_or x u) e ∙ ap (λ i. due i r) p

after : {w u x : Found} → w ≡ None → u ≡ x → option_or w u ≡ x
after {u} e p = ap (λ y. option_or y u) e ∙ p

zero_later : (at : ℕ) → at + 0 ≡ at
zero_later at = omega arith

farther : (at j k : ℕ) → at + 1 + j + k ≡ at + (1 + j + k)
farther at j k = omega arith

here : (r : Option Rule) (at : ℕ) → due at r ≡ due (at + 0) r
here r at = ap (λ i. due i r) (sym (zero_later at))

gate_here : {u : Gate} {hs : List ℕ} {m : Running} → Operands u hs m → (at : ℕ) → due at (then_some (takes u m) Gates) ≡ due (at + 0) (Some Gates)
gate_here o at = ap (λ b. due at (then_some b Gates)) (operands_taken o) ∙ here (Some Gates) at

-- a step is found
pub step_found : {m n : Running} {e : Effect} (d : Reduces m e n) (at : ℕ) → found at m ≡ due (at + step_cell d) (Some (step_rule d))
step_found (apply_function v) at = after (value_found v _) (here (Some Function) at)
step_found (open_pair v w) at = after (value_found (value_pair v w) _) (here (Some Pair) at)
step_found take_then at = here (Some Then) at
step_found take_else at = here (Some Else) at
step_found prepare_qubit at = here (Some Prepare) at
step_found read_qubit at = here (Some Read) at
step_found (apply_gate o) at = after (value_found (operands_value o) _) (gate_here o at)
step_found (in_argument d) at = waited _ _ _ _ (step_found d _) (omega arith)
step_found (in_function v d) at = after (value_found v _) (waited _ _ _ _ (step_found d _) (omega arith))
step_found (in_left d) at = waited _ _ _ _ (step_found d _) (omega arith)
step_found (in_right {v = v} x d) at = after (value_found x _) (step_found d _ ∙ ap (λ i. due i (Some (step_rule d))) (farther at (size v) (step_cell d)))
step_found (in_condition d) at = waited _ _ _ _ (step_found d _) (omega arith)
step_found (in_pair d) at = waited _ _ _ _ (step_found d _) (omega arith)

-- A step of the term is made by the rule, at a place counted from `at`.
abbrev Stepping : Running → ℕ → Rule → ℕ → Type 0
Stepping m at r k = (e : Effect) × (n : Running) × (d : Reduces m e n) × (step_rule d ≡ r) × (at + step_cell d ≡ k)

-- The term takes no step.
abbrev pub Rests : Running → Type 0
Rests m = (e : Effect) (n : Running) → Reduces m e n → ⊥

-- what was found is so
abbrev pub Right : Running → ℕ → Found → Type 0
Right m at None = Value m
Right m at (Some (k, Some r)) = Stepping m at r k
Right m at (Some (k, None)) = (j : ℕ) × (p : Running) × Due m j p × Rests p × (at + j ≡ k)

abbrev Ruled : Running → ℕ → Option Rule → Type 0
Ruled m at None = Unit {0}
Ruled m at (Some r) = Stepping m at r at

-- the tests for qubits, with what they show
data Qubit : Running → Bool → Type 0 where
  one : {c : Unit {0}} {h : ℕ} → Qubit (var c (held h)) true
  not_one : {m : Running} → Qubit m false

data Two : Running → Bool → Type 0 where
  two : {c d e : Unit {0}} {h k : ℕ} → Two (pair c (var d (held h)) (var e (held k))) true
  not_two : {m : Running} → Two m false

data Three : Running → Bool → Type 0 where
  three : {c d e f g : Unit {0}} {h j k : ℕ} → Three (pair c (var d (held h)) (pair e (var f (held j)) (var g (held k)))) true
  not_three : {m : Running} → Three m false

qubit : (m : Running) → Qubit m (is_qubit m)
qubit (var c (bound i)) = not_one
qubit (var c (held h)) = one
qubit (const c k) = not_one
qubit (star c) = not_one
qubit (lam c m) = not_one
qubit (app c m n) = not_one
qubit (pair c m n) = not_one
qubit (if_then_else c p m n) = not_one
qubit (let_pair c m n) = not_one

qubits : (m : Running) → Two m (is_pair_of is_qubit is_qubit m)
qubits (var c x) = not_two
qubits (const c k) = not_two
qubits (star c) = not_two
qubits (lam c m) = not_two
qubits (app c m n) = not_two
qubits (pair c m n) = go (qubit m) (qubit n)
  where
    go : {a b : Running} {x y : Bool} → Qubit a x → Qubit b y → Two (pair c a b) (x && y)
    go one one = two
    go one not_one = not_two
    go not_one q = not_two
qubits (if_then_else c p m n) = not_two
qubits (let_pair c m n) = not_two

more_qubits : (m : Running) → Three m (is_pair_of is_qubit (is_pair_of is_qubit is_qubit) m)
more_qubits (var c x) = not_three
more_qubits (const c k) = not_three
more_qubits (star c) = not_three
more_qubits (lam c m) = not_three
more_qubits (app c m n) = not_three
more_qubits (pair c m n) = go (qubit m) (qubits n)
  where
    go : {a b : Running} {x y : Bool} → Qubit a x → Two b y → Three (pair c a b) (x && y)
    go one two = three
    go one not_two = not_three
    go not_one q = not_three
more_qubits (if_then_else c p m n) = not_three
more_qubits (let_pair c m n) = not_three

gate_ruled : {c d : Unit {0}} (u : Gate) (m : Running) (hs : List ℕ) (at : ℕ) → Operands u hs m → Stepping (app c (const d (gate u)) m) at Gates at
gate_ruled u m hs at o = (applies u hs, m, apply_gate o, refl, zero_later at)

module _ {c d : Unit {0}} (u : Gate) (at : ℕ) where
  on_one : {m : Running} {x : Bool} → ((h : ℕ) → Operands u (h ∷ []) (var tt (held h))) → Qubit m x → Ruled (app c (const d (gate u)) m) at (then_some x Gates)
  on_one f (one {h = h}) = gate_ruled u _ (h ∷ []) at (f h)
  on_one f not_one = tt

  on_two : {m : Running} {x : Bool} → ((h k : ℕ) → Operands u (h ∷ k ∷ []) (pair tt (var tt (held h)) (var tt (held k)))) → Two m x → Ruled (app c (const d (gate u)) m) at (then_some x Gates)
  on_two f (two {h = h} {k = k}) = gate_ruled u _ (h ∷ k ∷ []) at (f h k)
  on_two f not_two = tt

  on_three : {m : Running} {x : Bool} → ((h j k : ℕ) → Operands u (h ∷ j ∷ k ∷ []) (pair tt (var tt (held h)) (pair tt (var tt (held j)) (var tt (held k))))) → Three m x → Ruled (app c (const d (gate u)) m) at (then_some x Gates)
  on_three f (three {h = h} {j = j} {k = k}) = gate_ruled u _ (h ∷ j ∷ k ∷ []) at (f h j k)
  on_three f not_three = tt

gates_right : {c d : Unit {0}} (u : Gate) (m : Running) (at : ℕ) → Ruled (app c (const d (gate u)) m) at (then_some (takes u m) Gates)
gates_right H m at = on_one H at (λ h. on_h) (qubit m)
gates_right X m at = on_one X at (λ h. on_x) (qubit m)
gates_right Z m at = on_one Z at (λ h. on_z) (qubit m)
gates_right S m at = on_one S at (λ h. on_s) (qubit m)
gates_right T m at = on_one T at (λ h. on_t) (qubit m)
gates_right Cnot m at = on_two Cnot at (λ h k. on_cnot) (qubits m)
gates_right Swap m at = on_two Swap at (λ h k. on_swap) (qubits m)
gates_right Toffoli m at = on_three Toffoli at (λ h j k. on_toffoli) (more_qubits m)

read_right : {c d : Unit {0}} (m : Running) (at : ℕ) → Ruled (app c (const d meas) m) at (then_some (is_qubit m) Read)
read_right {c} {d} m at = go (qubit m)
  where
    go : {n : Running} {x : Bool} → Qubit n x → Ruled (app c (const d meas) n) at (then_some x Read)
    go (one {h = h}) = (reads h false, _, read_qubit, refl, zero_later at)
    go not_one = tt

prepare_right : {c d : Unit {0}} (m : Running) (at : ℕ) → Ruled (app c (const d new) m) at (then_some (is_bit m) Prepare)
prepare_right (var e x) at = tt
prepare_right (const e (bit_of b)) at = (prepares b 0, _, prepare_qubit, refl, zero_later at)
prepare_right (const e meas) at = tt
prepare_right (const e new) at = tt
prepare_right (const e (gate u)) at = tt
prepare_right (star e) at = tt
prepare_right (lam e m) at = tt
prepare_right (app e m n) at = tt
prepare_right (pair e m n) at = tt
prepare_right (if_then_else e p m n) at = tt
prepare_right (let_pair e m n) at = tt

applied_right : {c : Unit {0}} (m n : Running) (at : ℕ) → Value n → Ruled (app c m n) at (applied m n)
applied_right (var d x) n at v = tt
applied_right (const d (bit_of b)) n at v = tt
applied_right (const d meas) n at v = read_right n at
applied_right (const d new) n at v = prepare_right n at
applied_right (const d (gate u)) n at v = gates_right u n at
applied_right (star d) n at v = tt
applied_right (lam d m) n at v = (silent, _, apply_function v, refl, zero_later at)
applied_right (app d m p) n at v = tt
applied_right (pair d m p) n at v = tt
applied_right (if_then_else d p m q) n at v = tt
applied_right (let_pair d m p) n at v = tt

branched_right : {c : Unit {0}} (p m n : Running) (at : ℕ) → Ruled (if_then_else c p m n) at (branched p)
branched_right (var d x) m n at = tt
branched_right (const d (bit_of false)) m n at = (silent, n, take_else, refl, zero_later at)
branched_right (const d (bit_of true)) m n at = (silent, m, take_then, refl, zero_later at)
branched_right (const d meas) m n at = tt
branched_right (const d new) m n at = tt
branched_right (const d (gate u)) m n at = tt
branched_right (star d) m n at = tt
branched_right (lam d p) m n at = tt
branched_right (app d p q) m n at = tt
branched_right (pair d p q) m n at = tt
branched_right (if_then_else d p q r) m n at = tt
branched_right (let_pair d p q) m n at = tt

opened_right : {c : Unit {0}} {m : Running} (n : Running) (at : ℕ) → Value m → Ruled (let_pair c m n) at (opened m)
opened_right n at value_var = tt
opened_right n at value_const = tt
opened_right n at value_star = tt
opened_right n at value_lam = tt
opened_right n at (value_pair v w) = (silent, _, open_pair v w, refl, zero_later at)

-- where the search ends at a part
ruled_right : (m : Running) (at : ℕ) (r : Option Rule) → Due m 0 m → found at m ≡ due at r → Ruled m at r → Right m at (due at r)
ruled_right m at None d f p = (0, m, d, rests, zero_later at)
  where
    rests : Rests m
    rests e n s = let (j, g) = same_due (sym f ∙ step_found s at) in cc
ruled_right m at (Some r) d f p = p

module _ {c : Unit {0}} (m n : Running) (at : ℕ) where
  app_right : (x y : Found) → Right n (at + 1 + size m) x → Right m (at + 1) y → Right (app c m n) at (option_or x (option_or y (due at (applied m n))))
  app_right (Some (k, Some r)) y (e, n', d, p, q) f = (e, app c m n', in_argument d, p, omega arith)
  app_right (Some (k, None)) y (j, p, d, s, q) f = (1 + size m + j, p, of_argument d, s, omega arith)
  app_right None (Some (k, Some r)) v (e, m', d, p, q) = (e, app c m' n, in_function v d, p, omega arith)
  app_right None (Some (k, None)) v (j, p, d, s, q) = (1 + j, p, of_function v d, s, omega arith)
  app_right None None v w = ruled_right _ at (applied m n) (due_application w v) (after (value_found v _) (after (value_found w _) refl)) (applied_right m n at v)

  pair_right : (x y : Found) → Right m (at + 1) x → Right n (at + 1 + size m) y → Right (pair c m n) at (option_or x y)
  pair_right (Some (k, Some r)) y (e, m', d, p, q) f = (e, pair c m' n, in_left d, p, omega arith)
  pair_right (Some (k, None)) y (j, p, d, s, q) f = (1 + j, p, of_left d, s, omega arith)
  pair_right None (Some (k, Some r)) v (e, n', d, p, q) = (e, pair c m n', in_right v d, p, omega arith)
  pair_right None (Some (k, None)) v (j, p, d, s, q) = (1 + size m + j, p, of_right v d, s, omega arith)
  pair_right None None v w = value_pair v w

  let_right : (x : Found) → Right m (at + 1) x → Right (let_pair c m n) at (option_or x (due at (opened m)))
  let_right (Some (k, Some r)) (e, m', d, p, q) = (e, let_pair c m' n, in_pair d, p, omega arith)
  let_right (Some (k, None)) (j, p, d, s, q) = (1 + j, p, of_pair d, s, omega arith)
  let_right None v = ruled_right _ at (opened m) (due_let v) (after (value_found v _) refl) (opened_right n at v)

if_right : {c : Unit {0}} (p m n : Running) (at : ℕ) (x : Found) → Right p (at + 1) x → Right (if_then_else c p m n) at (option_or x (due at (branched p)))
if_right {c} p m n at (Some (k, Some r)) (e, p', d, f, q) = (e, if_then_else c p' m n, in_condition d, f, omega arith)
if_right p m n at (Some (k, None)) (j, o, d, s, q) = (1 + j, o, of_test d, s, omega arith)
if_right p m n at None v = ruled_right _ at (branched p) (due_condition v) (after (value_found v _) refl) (branched_right p m n at)

pub right : (m : Running) (at : ℕ) → Right m at (found at m)
right (var c x) at = value_var
right (const c k) at = value_const
right (star c) at = value_star
right (lam c m) at = value_lam
right (app c m n) at = app_right m n at _ _ (right n (at + 1 + size m)) (right m (at + 1))
right (pair c m n) at = pair_right m n at _ _ (right m (at + 1)) (right n (at + 1 + size m))
right (if_then_else c p m n) at = if_right p m n at _ (right p (at + 1))
right (let_pair c m n) at = let_right m n at _ (right m (at + 1))

-- a due part without a step is found
rests_found : (m : Running) (at : ℕ) (r : Option Rule) → found at m ≡ due at r → Rests m → found at m ≡ due (at + 0) None
rests_found m at None f s = f ∙ here None at
rests_found m at (Some r) f s = let (e, n, d, p, q) = subst (Right m at) f (right m at) in absurd (s e n d)

pub due_found : {m p : Running} {k : ℕ} → Due m k p → Rests p → (at : ℕ) → found at m ≡ due (at + k) None
due_found (due_application {m = m} {n = n} v w) s at = rests_found _ at (applied m n) (after (value_found w _) (after (value_found v _) refl)) s
due_found (due_let {m = m} v) s at = rests_found _ at (opened m) (after (value_found v _) refl) s
due_found (due_condition {p = p} v) s at = rests_found _ at (branched p) (after (value_found v _) refl) s
due_found (of_argument d) s at = waited _ _ _ _ (due_found d s _) (omega arith)
due_found (of_function v d) s at = after (value_found v _) (waited _ _ _ _ (due_found d s _) (omega arith))
due_found (of_left d) s at = waited _ _ _ _ (due_found d s _) (omega arith)
due_found (of_right {v = v} {k = k} x d) s at = after (value_found x _) (due_found d s _ ∙ ap (λ i. due i None) (farther at (size v) k))
due_found (of_test d) s at = waited _ _ _ _ (due_found d s _) (omega arith)
due_found (of_pair d) s at = waited _ _ _ _ (due_found d s _) (omega arith)

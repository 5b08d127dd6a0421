-- The forms of values, and progress.
use Rattle.std.proofs.Common.{◌≡◌, ℕ, zero, suc, Bool, true, false, ◌⊎◌, List, [], ◌∷◌, Some, sym, refl, ap, ◌∙◌, subst, ap₂, inl, inr, ⊎_elim, arith}
use Rattle.calculus.specs.Types.{Ty, bit, qbit, unit, bang, arrow, tensor, bangs, Sub, sub_bit, sub_qbit, sub_unit, sub_use, sub_keep, sub_tensor, sub_arrow}
use Rattle.calculus.specs.declared.gates.Gate.{Gate}
use Rattle.calculus.specs.declared.gates.Gate.TheVariants.{H, X, Z, S, T, Cnot, Swap, Toffoli}
use Rattle.calculus.specs.Terms.{qubits, Const, bit_of, meas, new, gate, type_of, bound, held, var, const, star, lam, app, pair, if_then_else, let_pair, Running, free_var, free_fun, free_arg, free_left, free_right, free_test, free_pair}
use Rattle.calculus.specs.Contexts.{Context}
use Rattle.calculus.specs.Typing.{Derives, Unclaimed, rule_variable, rule_constant, rule_unit, rule_function, rule_duplicable_function, rule_application, rule_pair, rule_condition, rule_let}
use Rattle.calculus.specs.Reduction.{Value, value_var, value_const, value_star, value_lam, value_pair, Operands, on_h, on_x, on_z, on_s, on_t, on_cnot, on_swap, on_toffoli, Effect, Reduces, apply_function, open_pair, take_then, take_else, prepare_qubit, read_qubit, apply_gate, in_argument, in_function, in_left, in_right, in_condition, in_pair}
use Rattle.calculus.specs.Names.{Names, Way, way_held, way_pair}
use Rattle.calculus.specs.Safety.{Goes, goes_silent, goes_prepare, goes_read, goes_gate, Progress}
use Rattle.calculus.proofs.Subtyping.{bangs_pair}
use Rattle.calculus.proofs.Narrowing.{at_least_refl, carry}
use Rattle.calculus.proofs.Values.{QubitAt, a_qubit, present, none_present, Plain, plain_left, plain_right}
use Rattle.calculus.proofs.Ways.{wires_qubits, way_names, way_distinct}

-- The head of a type, past its bangs.
pub data Head : Type 0 where
  bits qubit units functions pairs : Head

abbrev pub head : Ty → Head
head bit = bits
head qbit = qubit
head unit = units
head (bang a) = head a
head (arrow a b) = functions
head (tensor a b) = pairs

head_bangs : (n : ℕ) (a : Ty) → head (bangs n a) ≡ head a
head_bangs zero a = refl
head_bangs (suc n) a = head_bangs n a

sub_head : {a b : Ty} → Sub a b → head a ≡ head b
sub_head sub_bit = refl
sub_head sub_qbit = refl
sub_head sub_unit = refl
sub_head (sub_use p) = sub_head p
sub_head (sub_keep p) = sub_head p
sub_head (sub_tensor p q) = refl
sub_head (sub_arrow p q) = refl

-- The head of its type tells the form of a value.
pub data Form : Running → Head → Type 0 where
  form_bit : {c : Unit {0}} {b : Bool} → Form (const c (bit_of b)) bits
  form_measure : {c : Unit {0}} → Form (const c meas) functions
  form_prepare : {c : Unit {0}} → Form (const c new) functions
  form_gate : {c : Unit {0}} {u : Gate} → Form (const c (gate u)) functions
  form_qubit : {c : Unit {0}} {h : ℕ} → Form (var c (held h)) qubit
  form_unit : {c : Unit {0}} → Form (star c) units
  form_lam : {c : Unit {0}} {m : Running} → Form (lam c m) functions
  form_pair : {c : Unit {0}} {v w : Running} → Form (pair c v w) pairs

form_const : {c : Unit {0}} (k : Const) → Form (const c k) (head (type_of k))
form_const (bit_of b) = form_bit
form_const meas = form_measure
form_const new = form_prepare
form_const (gate u) = form_gate

form_held : {c : Unit {0}} {h : ℕ} {a t : Ty} → QubitAt (Some a) → Sub a t → Form (var c (held h)) (head t)
form_held a_qubit s = subst (Form _) (sub_head s) form_qubit

form_marked : {m : Running} {t : Ty} (n : ℕ) (a : Ty) → t ≡ bangs n a → Form m (head a) → Form m (head t)
form_marked n a e f = subst (Form _) (sym (ap head e ∙ head_bangs n a)) f

pub canonical : {γ : Context} {v : Running} {t : Ty} → Plain γ → Value v → Derives Unclaimed γ v t → Form v (head t)
canonical p value_var (rule_variable {x = bound i} c e s) = absurd (none_present (p.0 i) (rw e present))
canonical p value_var (rule_variable {x = held h} c e s) = form_held (rw e at (p.1 h)) s
canonical p value_const (rule_constant {k = k} c s) = subst (Form _) (sub_head s) (form_const k)
canonical p value_star (rule_unit n c e) = form_marked n unit e form_unit
canonical p value_lam (rule_function {a = a} {b = b} c e r) = form_marked 0 (arrow a b) e form_lam
canonical p value_lam (rule_duplicable_function {a = a} {b = b} n c e f r) = form_marked (suc n) (arrow a b) e form_lam
canonical p (value_pair v w) (rule_pair n a b c s e r₁ r₂) = form_marked n (tensor a b) e form_pair

pub raise : {γ : Context} {m : Running} {a b : Ty} → Derives Unclaimed γ m a → Sub a b → Derives Unclaimed γ m b
raise r p = carry r p (λ x f. at_least_refl _)

pub argument : {a b c d : Ty} → Sub (bang (arrow a b)) (arrow c d) → Sub c a
argument (sub_use (sub_arrow p q)) = p

pub outcome : {a b c d : Ty} → Sub (bang (arrow a b)) (arrow c d) → Sub b d
outcome (sub_use (sub_arrow p q)) = q

-- the qubits of a gate
handle : {v : Running} → Form v qubit → (h : ℕ) × (v ≡ var tt (held h))
handle (form_qubit {h = h}) = (h, refl)

held_of : {γ : Context} {v : Running} → Plain γ → Value v → Derives Unclaimed γ v qbit → (h : ℕ) × (v ≡ var tt (held h))
held_of p v r = handle (canonical p v r)

data Paired (x y : Ty) : Running → Type 0 where
  paired : {γ₁ γ₂ : Context} {c : Unit {0}} {v w : Running} → Value v → Value w → Plain γ₁ → Plain γ₂ → Derives Unclaimed γ₁ v x → Derives Unclaimed γ₂ w y → Paired x y (pair c v w)

part_types : (n : ℕ) (a b x y : Ty) → tensor x y ≡ bangs n (tensor a b) → (bangs n a ≡ x) × (bangs n b ≡ y)
part_types zero a b x y e = let q = bangs_pair 0 0 x y a b e in (sym q.1, sym q.2)
part_types (suc n) a b x y e = let q = bangs_pair 0 (suc n) x y a b e in absurd (omega (arith, q.0))

pair_form : {γ : Context} {m : Running} {x y : Ty} → Form m pairs → Plain γ → Value m → Derives Unclaimed γ m (tensor x y) → Paired x y m
pair_form {x = x} {y = y} form_pair p (value_pair v w) (rule_pair n a b c s e r₁ r₂) =
    let q = part_types n a b x y e in
    paired v w (plain_left s p) (plain_right s p) (subst (Derives Unclaimed _ _) q.0 r₁) (subst (Derives Unclaimed _ _) q.1 r₂)

two_held : {m : Running} → Paired qbit qbit m → (h : ℕ) × (k : ℕ) × (m ≡ pair tt (var tt (held h)) (var tt (held k)))
two_held (paired v w p q r₁ r₂) =
    let a = held_of p v r₁ in let b = held_of q w r₂ in (a.0, b.0, ap₂ (pair tt) a.1 b.1)

three_held : {m : Running} → Paired qbit (tensor qbit qbit) m → (h : ℕ) × (j : ℕ) × (k : ℕ) × (m ≡ pair tt (var tt (held h)) (pair tt (var tt (held j)) (var tt (held k))))
three_held (paired v w p q r₁ r₂) =
    let a = held_of p v r₁ in let b = two_held (pair_form (canonical q w r₂) q w r₂) in (a.0, b.0, b.1, ap₂ (pair tt) a.1 b.2)

put : {u : Gate} {hs : List ℕ} {v w : Running} → v ≡ w → Operands u hs w → Operands u hs v
put e o = subst (Operands _ _) (sym e) o

ready : {γ : Context} {v : Running} (u : Gate) → Plain γ → Value v → Derives Unclaimed γ v (qubits u) → (hs : List ℕ) × Operands u hs v
ready H p v r = let a = held_of p v r in (a.0 ∷ [], put a.1 on_h)
ready X p v r = let a = held_of p v r in (a.0 ∷ [], put a.1 on_x)
ready Z p v r = let a = held_of p v r in (a.0 ∷ [], put a.1 on_z)
ready S p v r = let a = held_of p v r in (a.0 ∷ [], put a.1 on_s)
ready T p v r = let a = held_of p v r in (a.0 ∷ [], put a.1 on_t)
ready Cnot p v r = let a = two_held (pair_form (canonical p v r) p v r) in (a.0 ∷ a.1 ∷ [], put a.2 on_cnot)
ready Swap p v r = let a = two_held (pair_form (canonical p v r) p v r) in (a.0 ∷ a.1 ∷ [], put a.2 on_swap)
ready Toffoli p v r = let a = three_held (pair_form (canonical p v r) p v r) in (a.0 ∷ a.1 ∷ a.2 ∷ [], put a.3 on_toffoli)

pub operands_way : {u : Gate} {hs : List ℕ} {v : Running} → Operands u hs v → Way v hs
operands_way on_h = way_held
operands_way on_x = way_held
operands_way on_z = way_held
operands_way on_s = way_held
operands_way on_t = way_held
operands_way on_cnot = way_pair way_held way_held
operands_way on_swap = way_pair way_held way_held
operands_way on_toffoli = way_pair way_held (way_pair way_held way_held)

-- A step of a part is a step of the whole.
goes_in : {m : Running} (f : Running → Running) → ((e : Effect) (n : Running) → Reduces m e n → Reduces (f m) e (f n)) → ((h : ℕ) → Names m h → Names (f m) h) → Goes m → Goes (f m)
goes_in f r p (goes_silent s) = goes_silent (r _ _ s)
goes_in f r p (goes_prepare b s) = goes_prepare b (λ h. (f (s h).0, r _ _ (s h).1))
goes_in f r p (goes_read h n s) = goes_read h (p h n) (λ b. (f (s b).0, r _ _ (s b).1))
goes_in f r p (goes_gate u hs d i s) = goes_gate u hs d (λ h k. p h (i h k)) (r _ _ s)

reading : {c d : Unit {0}} {v : Running} → Form v qubit → Goes (app c (const d meas) v)
reading (form_qubit {h = h}) = goes_read h (free_arg free_var) (λ b. (_, read_qubit))

preparing : {c d : Unit {0}} {v : Running} → Form v bits → Goes (app c (const d new) v)
preparing (form_bit {b = b}) = goes_prepare b (λ h. (_, prepare_qubit))

applied : {γ₁ γ₂ : Context} {c : Unit {0}} {m v : Running} {a t : Ty} → Form m functions → Plain γ₂ → Value v → Derives Unclaimed γ₁ m (arrow a t) → Derives Unclaimed γ₂ v a → Goes (app c m v)
applied form_lam p v r₁ r₂ = goes_silent (apply_function v)
applied form_measure p v (rule_constant _ s) r₂ = reading (canonical p v (raise r₂ (argument s)))
applied form_prepare p v (rule_constant _ s) r₂ = preparing (canonical p v (raise r₂ (argument s)))
applied (form_gate {u = u}) p v (rule_constant _ s) r₂ =
    let o = ready u p v (raise r₂ (argument s)) in
    goes_gate u o.0 (way_distinct p.1 r₂ (operands_way o.1)) (λ h i. free_arg (way_names h (operands_way o.1) i)) (apply_gate o.1)

chosen_branch : {c : Unit {0}} {p m n : Running} → Form p bits → Goes (if_then_else c p m n)
chosen_branch (form_bit {b = true}) = goes_silent take_then
chosen_branch (form_bit {b = false}) = goes_silent take_else

opened : {c : Unit {0}} {m n : Running} → Form m pairs → Value m → Goes (let_pair c m n)
opened form_pair (value_pair v w) = goes_silent (open_pair v w)

app_goes : {γ₁ γ₂ : Context} {c : Unit {0}} {m n : Running} {a t : Ty} → Plain γ₁ → Plain γ₂ → Derives Unclaimed γ₁ m (arrow a t) → Derives Unclaimed γ₂ n a
    → Value m ⊎ Goes m → Value n ⊎ Goes n → Goes (app c m n)
app_goes {c = c} {m = m} p q r₁ r₂ x (inr g) = goes_in (app c m) (λ e n r. in_argument r) (λ h f. free_arg f) g
app_goes {c = c} {n = n} p q r₁ r₂ (inr g) (inl v) = goes_in (λ m. app c m n) (λ e m r. in_function v r) (λ h f. free_fun f) g
app_goes p q r₁ r₂ (inl w) (inl v) = applied (canonical p w r₁) q v r₁ r₂

pair_goes : {c : Unit {0}} {m n : Running} → Value m ⊎ Goes m → Value n ⊎ Goes n → Value (pair c m n) ⊎ Goes (pair c m n)
pair_goes {c} {m} {n} (inr g) y = inr (goes_in (λ m. pair c m n) (λ e m r. in_left r) (λ h f. free_left f) g)
pair_goes {c} {m} (inl v) (inr g) = inr (goes_in (pair c m) (λ e n r. in_right v r) (λ h f. free_right f) g)
pair_goes (inl v) (inl w) = inl (value_pair v w)

cond_goes : {γ : Context} {c : Unit {0}} {p m n : Running} → Plain γ → Derives Unclaimed γ p bit → Value p ⊎ Goes p → Goes (if_then_else c p m n)
cond_goes q r (inl v) = chosen_branch (canonical q v r)
cond_goes {c = c} {m = m} {n = n} q r (inr g) = goes_in (λ p. if_then_else c p m n) (λ e p r. in_condition r) (λ h f. free_test f) g

let_goes : {γ : Context} {c : Unit {0}} {m n : Running} (k : ℕ) (a b : Ty) → Plain γ → Derives Unclaimed γ m (bangs k (tensor a b)) → Value m ⊎ Goes m → Goes (let_pair c m n)
let_goes k a b p r (inl v) = opened (rw (head_bangs k (tensor a b)) at (canonical p v r)) v
let_goes {c = c} {n = n} k a b p r (inr g) = goes_in (λ m. let_pair c m n) (λ e m r. in_pair r) (λ h f. free_pair f) g

pub progresses : {γ : Context} {m : Running} {t : Ty} → Plain γ → Derives Unclaimed γ m t → Value m ⊎ Goes m
progresses p (rule_variable c e s) = inl value_var
progresses p (rule_constant c s) = inl value_const
progresses p (rule_unit n c e) = inl value_star
progresses p (rule_function c e r) = inl value_lam
progresses p (rule_duplicable_function n c e f r) = inl value_lam
progresses p (rule_application c s r₁ r₂) = inr (app_goes (plain_left s p) (plain_right s p) r₁ r₂ (progresses (plain_left s p) r₁) (progresses (plain_right s p) r₂))
progresses p (rule_pair n a b c s e r₁ r₂) = pair_goes (progresses (plain_left s p) r₁) (progresses (plain_right s p) r₂)
progresses p (rule_condition c s r₁ r₂ r₃) = inr (cond_goes (plain_left s p) r₁ (progresses (plain_left s p) r₁))
progresses p (rule_let n a b c s r₁ r₂) = inr (let_goes n a b (plain_left s p) r₁ (progresses (plain_left s p) r₁))

pub progress : Progress
progress m a t n = ⊎_elim (λ v. absurd (n v)) (λ g. g) (progresses (t.1.no_binder, wires_qubits t.1) t.2)

-- What is free in a value of a duplicable type is duplicable. And what a context of nothing but qubits says of a term.
use Rattle.std.proofs.Common.{◌≡◌, ℕ, zero, suc, ◌<◌, true, ltb, List, Some, None, Option, refl, ap, subst, ap₂, arith}
use Rattle.calculus.specs.Types.{Ty, qbit, tensor, bangs, Duplicable}
use Rattle.calculus.specs.Terms.{Var, bound, held, under, var, const, star, lam, app, pair, if_then_else, let_pair, Running, Free, free_var, free_lam, free_fun, free_arg, free_left, free_right, free_test, free_then, free_else, free_pair, free_body}
use Rattle.calculus.specs.Contexts.{Context, extended, Shared, to_left, to_right, to_both, Split, DuplicableAt}
use Rattle.calculus.specs.Typing.{Derives, Unclaimed, rule_variable, rule_constant, rule_unit, rule_function, rule_duplicable_function, rule_application, rule_pair, rule_condition, rule_let}
use Rattle.calculus.specs.Reduction.{Value, value_var, value_const, value_star, value_lam, value_pair, raised, substituted}
use Rattle.calculus.proofs.Subtyping.{sub_duplicable}
use Rattle.calculus.proofs.Narrowing.{AtLeast, no_less, at_sub, at_least_refl, at_least_duplicable}

-- What the owners of a variable have, the context has.
pub at_left : {g g₁ g₂ : Option Ty} → Shared g g₁ g₂ → AtLeast g g₁
at_left to_left = at_least_refl _
at_left to_right = no_less
at_left to_both = at_least_refl _

pub at_right : {g g₁ g₂ : Option Ty} → Shared g g₁ g₂ → AtLeast g g₂
at_right to_left = no_less
at_right to_right = at_least_refl _
at_right to_both = at_least_refl _

pub nobody : {g g₁ g₂ : Option Ty} → Shared g g₁ g₂ → g ≡ None → (g₁ ≡ None) × (g₂ ≡ None)
nobody to_left e = (e, refl)
nobody to_right e = (refl, e)
nobody to_both e = (e, e)

-- What is free in a value of a duplicable type is duplicable.
bangs_duplicable : (k : ℕ) (a b c : Ty) {t : Ty} → t ≡ bangs k (tensor a b) → Duplicable t → Duplicable (bangs k c)
bangs_duplicable zero a b c e d = absurd (subst Duplicable e d)
bangs_duplicable (suc k) a b c e d = tt

pub value_duplicable : {γ : Context} {v : Running} {t : Ty} {x : Var} → Value v → Derives Unclaimed γ v t → Duplicable t → Free x v → DuplicableAt (γ x)
value_duplicable value_var (rule_variable c e s) d free_var = rw e (sub_duplicable s d)
value_duplicable value_const r d f = elim f [ ]
value_duplicable value_star r d f = elim f [ ]
value_duplicable value_lam (rule_function c e r) d f = absurd (subst Duplicable e d)
value_duplicable {x = x} value_lam (rule_duplicable_function k c e g r) d f = g x f
value_duplicable {x = x} (value_pair v w) (rule_pair k a b c s e r₁ r₂) d (free_left f) = at_least_duplicable (at_left (s x)) (value_duplicable v r₁ (bangs_duplicable k a b a e d) f)
value_duplicable {x = x} (value_pair v w) (rule_pair k a b c s e r₁ r₂) d (free_right f) = at_least_duplicable (at_right (s x)) (value_duplicable w r₂ (bangs_duplicable k a b b e d) f)

-- A free variable has a type in the context.
pub data Present : Option Ty → Type 0 where
  present : {a : Ty} → Present (Some a)

pub at_least_present : {o u : Option Ty} → AtLeast o u → Present u → Present o
at_least_present no_less p = elim p [ ]
at_least_present (at_sub p) present = present

pub extended_under : (a : Ty) (γ : Context) (x : Var) → extended a γ (under x) ≡ γ x
extended_under a γ (bound i) = refl
extended_under a γ (held h) = refl

pub free_present : {γ : Context} {m : Running} {t : Ty} {x : Var} → Derives Unclaimed γ m t → Free x m → Present (γ x)
free_present (rule_variable c e s) free_var = rw e present
free_present (rule_constant c s) f = elim f [ ]
free_present (rule_unit k c e) f = elim f [ ]
free_present {γ} {x = x} (rule_function {a = a} c e r) (free_lam f) = rw (extended_under a γ x) at (free_present r f)
free_present {γ} {x = x} (rule_duplicable_function {a = a} k c e g r) (free_lam f) = rw (extended_under a γ x) at (free_present r f)
free_present {x = x} (rule_application c s r₁ r₂) (free_fun f) = at_least_present (at_left (s x)) (free_present r₁ f)
free_present {x = x} (rule_application c s r₁ r₂) (free_arg f) = at_least_present (at_right (s x)) (free_present r₂ f)
free_present {x = x} (rule_pair k a b c s e r₁ r₂) (free_left f) = at_least_present (at_left (s x)) (free_present r₁ f)
free_present {x = x} (rule_pair k a b c s e r₁ r₂) (free_right f) = at_least_present (at_right (s x)) (free_present r₂ f)
free_present {x = x} (rule_condition c s r₁ r₂ r₃) (free_test f) = at_least_present (at_left (s x)) (free_present r₁ f)
free_present {x = x} (rule_condition c s r₁ r₂ r₃) (free_then f) = at_least_present (at_right (s x)) (free_present r₂ f)
free_present {x = x} (rule_condition c s r₁ r₂ r₃) (free_else f) = at_least_present (at_right (s x)) (free_present r₃ f)
free_present {x = x} (rule_let k a b c s r₁ r₂) (free_pair f) = at_least_present (at_left (s x)) (free_present r₁ f)
free_present {x = x} (rule_let {γ₂ = γ₂} k a b c s r₁ r₂) (free_body f) =
    at_least_present (at_right (s x)) (rw (extended_under (bangs k b) (extended (bangs k a) γ₂) (under x), extended_under (bangs k a) γ₂ x) at (free_present r₂ f))

-- Contexts that have no more than qubits.
pub data QubitAt : Option Ty → Type 0 where
  no_qubit : QubitAt None
  a_qubit : QubitAt (Some qbit)

abbrev pub Qubits : Context → Type 0
Qubits γ = (h : ℕ) → QubitAt (γ (held h))

abbrev pub Closed : Context → Type 0
Closed γ = (i : ℕ) → γ (bound i) ≡ None

pub qubit_parts : {g g₁ g₂ : Option Ty} → Shared g g₁ g₂ → QubitAt g → QubitAt g₁ × QubitAt g₂
qubit_parts to_left q = (q, no_qubit)
qubit_parts to_right q = (no_qubit, q)
qubit_parts to_both q = elim q [ ]

pub one_owner : {g g₁ g₂ : Option Ty} → Shared g g₁ g₂ → QubitAt g → Present g₁ → Present g₂ → ⊥
one_owner to_left q p r = elim r [ ]
one_owner to_right q p r = elim p [ ]
one_owner to_both q p r = elim q [ ]

pub none_present : {o : Option Ty} → o ≡ None → Present o → ⊥
none_present e p = go (rw e at p)
  where
    go : Present None → ⊥
    go p = elim p [ ]

qubit_unique : {o : Option Ty} → QubitAt o → DuplicableAt o → ⊥
qubit_unique no_qubit d = d
qubit_unique a_qubit d = d

-- A duplicable value names no qubit.
pub value_names_none : {γ : Context} {v : Running} {t : Ty} {x : Var} → Closed γ → Qubits γ → Value v → Derives Unclaimed γ v t → Duplicable t → Free x v → ⊥
value_names_none {x = bound i} n q v r d f = none_present (n i) (free_present r f)
value_names_none {x = held h} n q v r d f = qubit_unique (q h) (value_duplicable v r d f)

-- A term whose free binders are below k is not changed from k on.
abbrev pub Below : ℕ → Running → Type 0
Below k m = (i : ℕ) → Free (bound i) m → i < k

below_under : {k : ℕ} (F : Var → Type 0) → ((i : ℕ) → F (under (bound i)) → i < k) → (i : ℕ) → F (bound i) → i < suc k
below_under F b zero f = omega arith
below_under F b (suc i) f = let h = b i f in omega arith

pub ltb-true : (i k : ℕ) → i < k → ltb i k ≡ true
ltb-true i k h = grind arith

pub raised_below : (n k : ℕ) (m : Running) → Below k m → raised n k m ≡ m
raised_below n k (var c (bound i)) b = rw (ltb-true i k (b i free_var))
raised_below n k (var c (held h)) b = refl
raised_below n k (const c q) b = refl
raised_below n k (star c) b = refl
raised_below n k (lam c m) b = ap (lam c) (raised_below n (suc k) m (below_under (λ x. Free x m) (λ i f. b i (free_lam f))))
raised_below n k (app c m p) b = ap₂ (app c) (raised_below n k m (λ i f. b i (free_fun f))) (raised_below n k p (λ i f. b i (free_arg f)))
raised_below n k (pair c m p) b = ap₂ (pair c) (raised_below n k m (λ i f. b i (free_left f))) (raised_below n k p (λ i f. b i (free_right f)))
raised_below n k (if_then_else c p m q) b =
    cc (raised_below n k p (λ i f. b i (free_test f)), raised_below n k m (λ i f. b i (free_then f)), raised_below n k q (λ i f. b i (free_else f)))
raised_below n k (let_pair c m p) b = ap₂ (let_pair c) (raised_below n k m (λ i f. b i (free_pair f)))
    (raised_below n (suc (suc k)) p (below_under (λ x. Free x p) (below_under (λ x. Free (under x) p) (λ i f. b i (free_body f)))))

pub substituted_below : (vs : List Running) (k : ℕ) (m : Running) → Below k m → substituted k vs m ≡ m
substituted_below vs k (var c (bound i)) b = rw (ltb-true i k (b i free_var))
substituted_below vs k (var c (held h)) b = refl
substituted_below vs k (const c q) b = refl
substituted_below vs k (star c) b = refl
substituted_below vs k (lam c m) b = ap (lam c) (substituted_below vs (suc k) m (below_under (λ x. Free x m) (λ i f. b i (free_lam f))))
substituted_below vs k (app c m p) b = ap₂ (app c) (substituted_below vs k m (λ i f. b i (free_fun f))) (substituted_below vs k p (λ i f. b i (free_arg f)))
substituted_below vs k (pair c m p) b = ap₂ (pair c) (substituted_below vs k m (λ i f. b i (free_left f))) (substituted_below vs k p (λ i f. b i (free_right f)))
substituted_below vs k (if_then_else c p m q) b =
    cc (substituted_below vs k p (λ i f. b i (free_test f)), substituted_below vs k m (λ i f. b i (free_then f)), substituted_below vs k q (λ i f. b i (free_else f)))
substituted_below vs k (let_pair c m p) b = ap₂ (let_pair c) (substituted_below vs k m (λ i f. b i (free_pair f)))
    (substituted_below vs (suc (suc k)) p (below_under (λ x. Free x p) (below_under (λ x. Free (under x) p) (λ i f. b i (free_body f)))))

abbrev pub Plain : Context → Type 0
Plain γ = Closed γ × Qubits γ

pub plain_left : {γ γ₁ γ₂ : Context} → Split γ γ₁ γ₂ → Plain γ → Plain γ₁
plain_left s p = ((λ i. (nobody (s (bound i)) (p.0 i)).0), λ h. (qubit_parts (s (held h)) (p.1 h)).0)

pub plain_right : {γ γ₁ γ₂ : Context} → Split γ γ₁ γ₂ → Plain γ → Plain γ₂
plain_right s p = ((λ i. (nobody (s (bound i)) (p.0 i)).1), λ h. (qubit_parts (s (held h)) (p.1 h)).1)

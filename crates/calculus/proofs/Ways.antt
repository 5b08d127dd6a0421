-- Which qubits a term names, that this can be decided, and that no way through a well_typed term names one twice.
use Rattle.std.proofs.Common.{◌≡◌, ℕ, ◌⊎◌, List, [], ◌∷◌, ◌++◌, Some, None, Option, sym, refl, ap, subst, inl, inr, ⊎_elim}
use native.Mathlib.Decide.{ℕ_discrete}
use Rattle.calculus.specs.Types.{Ty, qbit}
use Rattle.calculus.specs.Terms.{Var, bound, held, under, var, const, star, lam, app, pair, if_then_else, let_pair, Running, Free, free_var, free_lam, free_fun, free_arg, free_left, free_right, free_test, free_then, free_else, free_pair, free_body}
use Rattle.calculus.specs.Contexts.{Context, Split}
use Rattle.calculus.specs.Typing.{Derives, Unclaimed, rule_function, rule_duplicable_function, rule_application, rule_pair, rule_condition, rule_let}
use Rattle.calculus.specs.Names.{Names, Wires, WellTyped, Way, way_bound, way_held, way_const, way_star, way_lam, way_app, way_pair, way_then, way_else, way_let, In, Distinct}
use Rattle.calculus.specs.Safety.{NoWayNamesTwice}
use Rattle.calculus.proofs.Narrowing.{AtLeast, no_less, at_least_refl, carry}
use Rattle.calculus.proofs.Subtyping.{sub_refl}
use Rattle.calculus.proofs.Values.{Present, free_present, QubitAt, no_qubit, a_qubit, Qubits, Closed, qubit_parts, one_owner}

-- Free is decidable.
along : {A B : Type 0} → (A → B) → (B → A) → Dec A → Dec B
along f g (yes a) = yes (f a)
along f g (no n) = no (λ b. n (g b))

either : {A B C : Type 0} → (A → C) → (B → C) → (C → A ⊎ B) → Dec A → Dec B → Dec C
either f g h (yes a) q = yes (f a)
either f g h (no n) (yes b) = yes (g b)
either f g h (no n) (no m) = no (λ c. ⊎_elim n m (h c))

same_bound : {i j : ℕ} → bound i ≡ bound j → i ≡ j
same_bound e = cc

same_held : {i j : ℕ} → held i ≡ held j → i ≡ j
same_held e = cc

abbrev IsHeld : Var → Type 0
IsHeld (bound i) = ⊥
IsHeld (held h) = Unit {0}

same_var : (x y : Var) → Dec (x ≡ y)
same_var (bound i) (bound j) = along (ap bound) same_bound (ℕ_discrete i j)
same_var (bound i) (held k) = no (λ e. subst IsHeld (sym e) tt)
same_var (held h) (bound j) = no (λ e. subst IsHeld e tt)
same_var (held h) (held k) = along (ap held) same_held (ℕ_discrete h k)

of_name : {c : Unit {0}} {x y : Var} → Free x (var c y) → x ≡ y
of_name free_var = refl

of_lam : {c : Unit {0}} {x : Var} {m : Running} → Free x (lam c m) → Free (under x) m
of_lam (free_lam f) = f

of_app : {c : Unit {0}} {x : Var} {m n : Running} → Free x (app c m n) → Free x m ⊎ Free x n
of_app (free_fun f) = inl f
of_app (free_arg f) = inr f

of_both : {c : Unit {0}} {x : Var} {m n : Running} → Free x (pair c m n) → Free x m ⊎ Free x n
of_both (free_left f) = inl f
of_both (free_right f) = inr f

of_cond : {c : Unit {0}} {x : Var} {p m n : Running} → Free x (if_then_else c p m n) → Free x p ⊎ (Free x m ⊎ Free x n)
of_cond (free_test f) = inl f
of_cond (free_then f) = inr (inl f)
of_cond (free_else f) = inr (inr f)

of_split : {c : Unit {0}} {x : Var} {m n : Running} → Free x (let_pair c m n) → Free x m ⊎ Free (under (under x)) n
of_split (free_pair f) = inl f
of_split (free_body f) = inr f

pub free? : (m : Running) (x : Var) → Dec (Free x m)
free? (var c y) x = along (λ e. subst (λ (z : Var). Free x (var c z)) e free_var) of_name (same_var x y)
free? (const c k) x = no (λ f. elim f [ ])
free? (star c) x = no (λ f. elim f [ ])
free? (lam c m) x = along free_lam of_lam (free? m (under x))
free? (app c m n) x = either free_fun free_arg of_app (free? m x) (free? n x)
free? (pair c m n) x = either free_left free_right of_both (free? m x) (free? n x)
free? (if_then_else c p m n) x = either free_test (⊎_elim free_then free_else) of_cond (free? p x) (either inl inr (λ f. f) (free? m x) (free? n x))
free? (let_pair c m n) x = either free_pair free_body of_split (free? m x) (free? n (under (under x)))

-- The wires of a term.
pub wires_qubits : {m : Running} {γ : Context} → Wires m γ → Qubits γ
wires_qubits {m} {γ} w h = go (free? m (held h))
  where
    go : Dec (Names m h) → QubitAt (γ (held h))
    go (yes f) = rw (w.named h f) a_qubit
    go (no n) = rw (w.no_other h n) no_qubit

wire : {A : Type 0} → Dec A → Option Ty
wire (yes a) = Some qbit
wire (no n) = None

abbrev wires_of : Running → Context
wires_of m (bound i) = None
wires_of m (held h) = wire (free? m (held h))

wire_yes : {A : Type 0} (d : Dec A) → A → wire d ≡ Some qbit
unfolding wire
wire_yes (yes a) b = refl
wire_yes (no n) b = absurd (n b)

wire_no : {A : Type 0} (d : Dec A) → (A → ⊥) → wire d ≡ None
unfolding wire
wire_no (yes a) n = absurd (n a)
wire_no (no m) n = refl

at_qubit : {o u : Option Ty} → u ≡ Some qbit → QubitAt o → AtLeast u o
at_qubit e no_qubit = no_less
at_qubit e a_qubit = rw e (at_least_refl _)

-- A context of nothing but qubits can be brought down to the term's wires.
pub well_typed : {m : Running} {a : Ty} {γ : Context} → Closed γ → Qubits γ → Derives Unclaimed γ m a → WellTyped m a
well_typed {m} {a} {γ} n q r = (wires_of m, record { no_binder = λ i. refl; named = λ h f. wire_yes (free? m (held h)) f; no_other = λ h f. wire_no (free? m (held h)) f }, carry r (sub_refl _) go)
  where
    go : (x : Var) → Free x m → AtLeast (wires_of m x) (γ x)
    go (bound i) f = rw (n i) no_less
    go (held h) f = at_qubit (wire_yes (free? m (held h)) f) (q h)

-- Ways.
in_append : (h : ℕ) (hs ks : List ℕ) → In h (hs ++ ks) → In h hs ⊎ In h ks
in_append h [] ks i = inr i
in_append h (j ∷ hs) ks (inl e) = inl (inl e)
in_append h (j ∷ hs) ks (inr i) = ⊎_elim (λ k. inl (inr k)) inr (in_append h hs ks i)

distinct_append : (hs ks : List ℕ) → Distinct hs → Distinct ks → ((h : ℕ) → In h hs → In h ks → ⊥) → Distinct (hs ++ ks)
distinct_append [] ks d e n = e
distinct_append (j ∷ hs) ks d e n = ((λ i. ⊎_elim d.0 (n j (inl refl)) (in_append j hs ks i)), distinct_append hs ks d.1 e (λ h i. n h (inr i)))

pub way_names : {m : Running} {hs : List ℕ} (h : ℕ) → Way m hs → In h hs → Names m h
way_names h way_bound i = elim i [ ]
way_names h (way_held {c = c}) (inl e) = subst (λ (k : ℕ). Free (held h) (var c (held k))) e free_var
way_names h way_held (inr i) = elim i [ ]
way_names h way_const i = elim i [ ]
way_names h way_star i = elim i [ ]
way_names h (way_lam w) i = free_lam (way_names h w i)
way_names h (way_app {hs = hs} {ks = ks} w v) i = ⊎_elim (λ k. free_fun (way_names h w k)) (λ k. free_arg (way_names h v k)) (in_append h hs ks i)
way_names h (way_pair {hs = hs} {ks = ks} w v) i = ⊎_elim (λ k. free_left (way_names h w k)) (λ k. free_right (way_names h v k)) (in_append h hs ks i)
way_names h (way_then {hs = hs} {ks = ks} w v) i = ⊎_elim (λ k. free_test (way_names h w k)) (λ k. free_then (way_names h v k)) (in_append h hs ks i)
way_names h (way_else {hs = hs} {ks = ks} w v) i = ⊎_elim (λ k. free_test (way_names h w k)) (λ k. free_else (way_names h v k)) (in_append h hs ks i)
way_names h (way_let {hs = hs} {ks = ks} w v) i = ⊎_elim (λ k. free_pair (way_names h w k)) (λ k. free_body (way_names h v k)) (in_append h hs ks i)

-- Two parts of a term that share its context name no qubit both.
apart : {γ γ₁ γ₂ : Context} {m : Running} {a : Ty} {hs : List ℕ} (ks : List ℕ) → Qubits γ → Split γ γ₁ γ₂ → Derives Unclaimed γ₁ m a
    → ((h : ℕ) → In h ks → Present (γ₂ (held h))) → Way m hs → Distinct hs → Distinct ks → Distinct (hs ++ ks)
apart {hs = hs} ks q s r p w d e = distinct_append hs ks d e (λ h i j. one_owner (s (held h)) (q h) (free_present r (way_names h w i)) (p h j))

pub way_distinct : {γ : Context} {m : Running} {a : Ty} {hs : List ℕ} → Qubits γ → Derives Unclaimed γ m a → Way m hs → Distinct hs
way_distinct q r way_bound = tt
way_distinct q r way_held = ((λ i. i), tt)
way_distinct q r way_const = tt
way_distinct q r way_star = tt
way_distinct q (rule_function c e r) (way_lam w) = way_distinct q r w
way_distinct q (rule_duplicable_function k c e f r) (way_lam w) = way_distinct q r w
way_distinct q (rule_application c s r₁ r₂) (way_app {ks = ks} w v) = apart ks q s r₁ (λ h i. free_present r₂ (way_names h v i)) w
    (way_distinct (λ h. (qubit_parts (s (held h)) (q h)).0) r₁ w) (way_distinct (λ h. (qubit_parts (s (held h)) (q h)).1) r₂ v)
way_distinct q (rule_pair k a b c s e r₁ r₂) (way_pair {ks = ks} w v) = apart ks q s r₁ (λ h i. free_present r₂ (way_names h v i)) w
    (way_distinct (λ h. (qubit_parts (s (held h)) (q h)).0) r₁ w) (way_distinct (λ h. (qubit_parts (s (held h)) (q h)).1) r₂ v)
way_distinct q (rule_condition c s r₁ r₂ r₃) (way_then {ks = ks} w v) = apart ks q s r₁ (λ h i. free_present r₂ (way_names h v i)) w
    (way_distinct (λ h. (qubit_parts (s (held h)) (q h)).0) r₁ w) (way_distinct (λ h. (qubit_parts (s (held h)) (q h)).1) r₂ v)
way_distinct q (rule_condition c s r₁ r₂ r₃) (way_else {ks = ks} w v) = apart ks q s r₁ (λ h i. free_present r₃ (way_names h v i)) w
    (way_distinct (λ h. (qubit_parts (s (held h)) (q h)).0) r₁ w) (way_distinct (λ h. (qubit_parts (s (held h)) (q h)).1) r₃ v)
way_distinct q (rule_let k a b c s r₁ r₂) (way_let {ks = ks} w v) = apart ks q s r₁ (λ h i. free_present r₂ (way_names h v i)) w
    (way_distinct (λ h. (qubit_parts (s (held h)) (q h)).0) r₁ w) (way_distinct (λ h. (qubit_parts (s (held h)) (q h)).1) r₂ v)

pub no_way_names_twice : NoWayNamesTwice
no_way_names_twice m a hs t w = way_distinct (wires_qubits t.1) t.2 w

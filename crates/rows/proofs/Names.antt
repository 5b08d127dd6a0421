-- A step brings no qubit but the one that it prepares, and no gate.
use Rattle.std.proofs.Common.{◌≡◌, ℕ, zero, suc, ◌-◌, Bool, true, false, ltb, ◌⊎◌, List, [], ◌∷◌, length, refl, subst, inl, inr, ⊎_elim}
use Rattle.calculus.specs.Types.{Ty}
use Rattle.calculus.specs.declared.gates.Gate.{Gate}
use Rattle.calculus.specs.Gates.{operands_of}
use Rattle.calculus.specs.Terms.{gate, bound, held, var, const, star, lam, app, pair, if_then_else, let_pair, Running, free_var, free_lam, free_fun, free_arg, free_left, free_right, free_test, free_then, free_else, free_pair, free_body}
use Rattle.calculus.specs.Contexts.{Context}
use Rattle.calculus.specs.Typing.{Derives, Unclaimed, rule_application, rule_pair, rule_condition, rule_let}
use Rattle.calculus.specs.Reduction.{raised_var, raised, chosen, replaced, substituted, Operands, on_h, on_x, on_z, on_s, on_t, on_cnot, on_swap, on_toffoli, Effect, silent, prepares, reads, applies, Reduces, apply_function, open_pair, take_then, take_else, prepare_qubit, read_qubit, apply_gate, in_argument, in_function, in_left, in_right, in_condition, in_pair}
use Rattle.calculus.specs.Names.{Names, In, Distinct}
use Rattle.rows.specs.Members.{NamesGate, gate_here, gate_lam, gate_fun, gate_arg, gate_left, gate_right, gate_test, gate_then, gate_else, gate_pair, gate_body}
use Rattle.calculus.proofs.Canonical.{operands_way}
use Rattle.calculus.proofs.Values.{Plain, plain_left, plain_right}
use Rattle.calculus.proofs.Ways.{way_names, way_distinct}

-- What is in a term or in one of the terms put in.
abbrev InSome : (Running → Type 0) → List Running → Type 0
InSome P [] = ⊥
InSome P (v ∷ vs) = P v ⊎ InSome P vs

later : {A B C : Type 0} → (A → B) → A ⊎ C → B ⊎ C
later f (inl a) = inl (f a)
later f (inr c) = inr c

-- qubits
raised_names : (n k h : ℕ) (m : Running) → Names (raised n k m) h → Names m h
raised_names n k h (var c (bound i)) f = absurd (go (ltb i k) f)
  where
    go : (b : Bool) → Names (var c (raised_var n k b i)) h → ⊥
    go true f = elim f [ ]
    go false f = elim f [ ]
raised_names n k h (var c (held j)) f = f
raised_names n k h (const c q) f = elim f [ ]
raised_names n k h (star c) f = elim f [ ]
raised_names n k h (lam c m) (free_lam f) = free_lam (raised_names n (suc k) h m f)
raised_names n k h (app c m p) (free_fun f) = free_fun (raised_names n k h m f)
raised_names n k h (app c m p) (free_arg f) = free_arg (raised_names n k h p f)
raised_names n k h (pair c m p) (free_left f) = free_left (raised_names n k h m f)
raised_names n k h (pair c m p) (free_right f) = free_right (raised_names n k h p f)
raised_names n k h (if_then_else c p m q) (free_test f) = free_test (raised_names n k h p f)
raised_names n k h (if_then_else c p m q) (free_then f) = free_then (raised_names n k h m f)
raised_names n k h (if_then_else c p m q) (free_else f) = free_else (raised_names n k h q f)
raised_names n k h (let_pair c m p) (free_pair f) = free_pair (raised_names n k h m f)
raised_names n k h (let_pair c m p) (free_body f) = free_body (raised_names n (suc (suc k)) h p f)

chosen_names : (k h : ℕ) (vs : List Running) (i : ℕ) → Names (chosen k vs i) h → InSome (λ v. Names v h) vs
chosen_names k h [] i f = elim f [ ]
chosen_names k h (v ∷ vs) zero f = inl (raised_names k 0 h v f)
chosen_names k h (v ∷ vs) (suc i) f = inr (chosen_names k h vs i f)

replaced_names : (k h : ℕ) (vs : List Running) (b : Bool) (i : ℕ) → Names (replaced k vs b i) h → InSome (λ v. Names v h) vs
replaced_names k h vs true i f = elim f [ ]
replaced_names k h vs false i f = chosen_names k h vs (i - k) f

substituted_names : (k h : ℕ) (vs : List Running) (m : Running) → Names (substituted k vs m) h → Names m h ⊎ InSome (λ v. Names v h) vs
substituted_names k h vs (var c (bound i)) f = inr (replaced_names k h vs (ltb i k) i f)
substituted_names k h vs (var c (held j)) f = inl f
substituted_names k h vs (const c q) f = elim f [ ]
substituted_names k h vs (star c) f = elim f [ ]
substituted_names k h vs (lam c m) (free_lam f) = later free_lam (substituted_names (suc k) h vs m f)
substituted_names k h vs (app c m p) (free_fun f) = later free_fun (substituted_names k h vs m f)
substituted_names k h vs (app c m p) (free_arg f) = later free_arg (substituted_names k h vs p f)
substituted_names k h vs (pair c m p) (free_left f) = later free_left (substituted_names k h vs m f)
substituted_names k h vs (pair c m p) (free_right f) = later free_right (substituted_names k h vs p f)
substituted_names k h vs (if_then_else c p m q) (free_test f) = later free_test (substituted_names k h vs p f)
substituted_names k h vs (if_then_else c p m q) (free_then f) = later free_then (substituted_names k h vs m f)
substituted_names k h vs (if_then_else c p m q) (free_else f) = later free_else (substituted_names k h vs q f)
substituted_names k h vs (let_pair c m p) (free_pair f) = later free_pair (substituted_names k h vs m f)
substituted_names k h vs (let_pair c m p) (free_body f) = later free_body (substituted_names (suc (suc k)) h vs p f)

-- the effect brings the handle
abbrev pub Brings : Effect → ℕ → Type 0
Brings silent h = ⊥
Brings (prepares b k) h = h ≡ k
Brings (reads k b) h = ⊥
Brings (applies u ks) h = ⊥

of_held : {c : Unit {0}} {h k : ℕ} → Names (var c (held k)) h → h ≡ k
of_held free_var = refl

pub names_before : {m n : Running} {e : Effect} (h : ℕ) → Reduces m e n → Names n h → Names m h ⊎ Brings e h
names_before h (apply_function {m = m} {v = v} _) f = inl (⊎_elim (λ g. free_fun (free_lam g)) (⊎_elim free_arg absurd) (substituted_names 0 h (v ∷ []) m f))
names_before h (open_pair {n = n} {v = v} {w = w} _ _) f =
    inl (⊎_elim free_body (⊎_elim (λ g. free_pair (free_right g)) (⊎_elim (λ g. free_pair (free_left g)) absurd)) (substituted_names 0 h (w ∷ v ∷ []) n f))
names_before h take_then f = inl (free_then f)
names_before h take_else f = inl (free_else f)
names_before h prepare_qubit f = inr (of_held f)
names_before h read_qubit f = elim f [ ]
names_before h (apply_gate o) f = inl (free_arg f)
names_before h (in_argument r) (free_fun f) = inl (free_fun f)
names_before h (in_argument r) (free_arg f) = later free_arg (names_before h r f)
names_before h (in_function v r) (free_fun f) = later free_fun (names_before h r f)
names_before h (in_function v r) (free_arg f) = inl (free_arg f)
names_before h (in_left r) (free_left f) = later free_left (names_before h r f)
names_before h (in_left r) (free_right f) = inl (free_right f)
names_before h (in_right v r) (free_left f) = inl (free_left f)
names_before h (in_right v r) (free_right f) = later free_right (names_before h r f)
names_before h (in_condition r) (free_test f) = later free_test (names_before h r f)
names_before h (in_condition r) (free_then f) = inl (free_then f)
names_before h (in_condition r) (free_else f) = inl (free_else f)
names_before h (in_pair r) (free_pair f) = later free_pair (names_before h r f)
names_before h (in_pair r) (free_body f) = inl (free_body f)

-- A prepared qubit is named afterwards.
pub brought_named : {m n : Running} {e : Effect} (h : ℕ) → Reduces m e n → Brings e h → Names n h
brought_named h (apply_function v) b = absurd b
brought_named h (open_pair v w) b = absurd b
brought_named h take_then b = absurd b
brought_named h take_else b = absurd b
brought_named h (prepare_qubit {c = c} {h = k}) b = subst (λ (j : ℕ). Names (var c (held j)) h) b free_var
brought_named h read_qubit b = absurd b
brought_named h (apply_gate o) b = absurd b
brought_named h (in_argument r) b = free_arg (brought_named h r b)
brought_named h (in_function v r) b = free_fun (brought_named h r b)
brought_named h (in_left r) b = free_left (brought_named h r b)
brought_named h (in_right v r) b = free_right (brought_named h r b)
brought_named h (in_condition r) b = free_test (brought_named h r b)
brought_named h (in_pair r) b = free_pair (brought_named h r b)

-- A qubit that is asked for is named before.
abbrev pub Asks : Effect → ℕ → Type 0
Asks silent h = ⊥
Asks (prepares b k) h = ⊥
Asks (reads k b) h = h ≡ k
Asks (applies u ks) h = In h ks

pub asked_named : {m n : Running} {e : Effect} (h : ℕ) → Reduces m e n → Asks e h → Names m h
asked_named h (apply_function v) b = absurd b
asked_named h (open_pair v w) b = absurd b
asked_named h take_then b = absurd b
asked_named h take_else b = absurd b
asked_named h prepare_qubit b = absurd b
asked_named h (read_qubit {e = c}) b = free_arg (subst (λ (j : ℕ). Names (var c (held j)) h) b free_var)
asked_named h (apply_gate o) b = free_arg (way_names h (operands_way o) b)
asked_named h (in_argument r) b = free_arg (asked_named h r b)
asked_named h (in_function v r) b = free_fun (asked_named h r b)
asked_named h (in_left r) b = free_left (asked_named h r b)
asked_named h (in_right v r) b = free_right (asked_named h r b)
asked_named h (in_condition r) b = free_test (asked_named h r b)
asked_named h (in_pair r) b = free_pair (asked_named h r b)

-- The qubits of a gate are distinct.
abbrev pub Apart : Effect → Type 0
Apart silent = Unit {0}
Apart (prepares b k) = Unit {0}
Apart (reads k b) = Unit {0}
Apart (applies u ks) = Distinct ks

pub asked_apart : {γ : Context} {m n : Running} {e : Effect} {t : Ty} → Plain γ → Reduces m e n → Derives Unclaimed γ m t → Apart e
asked_apart p (apply_function v) r = tt
asked_apart p (open_pair v w) r = tt
asked_apart p take_then r = tt
asked_apart p take_else r = tt
asked_apart p prepare_qubit r = tt
asked_apart p read_qubit r = tt
asked_apart p (apply_gate o) (rule_application _ s r₁ r₂) = way_distinct (plain_right s p).1 r₂ (operands_way o)
asked_apart p (in_argument i) (rule_application _ s r₁ r₂) = asked_apart (plain_right s p) i r₂
asked_apart p (in_function v i) (rule_application _ s r₁ r₂) = asked_apart (plain_left s p) i r₁
asked_apart p (in_left i) (rule_pair k a b _ s q r₁ r₂) = asked_apart (plain_left s p) i r₁
asked_apart p (in_right v i) (rule_pair k a b _ s q r₁ r₂) = asked_apart (plain_right s p) i r₂
asked_apart p (in_condition i) (rule_condition _ s r₁ r₂ r₃) = asked_apart (plain_left s p) i r₁
asked_apart p (in_pair i) (rule_let k a b _ s r₁ r₂) = asked_apart (plain_left s p) i r₁

-- A gate is given as many qubits as it takes.
abbrev pub Fits : Effect → Type 0
Fits silent = Unit {0}
Fits (prepares b k) = Unit {0}
Fits (reads k b) = Unit {0}
Fits (applies u ks) = length ks ≡ operands_of u

operands_fit : {u : Gate} {hs : List ℕ} {a : Running} → Operands u hs a → length hs ≡ operands_of u
operands_fit on_h = refl
operands_fit on_x = refl
operands_fit on_z = refl
operands_fit on_s = refl
operands_fit on_t = refl
operands_fit on_cnot = refl
operands_fit on_swap = refl
operands_fit on_toffoli = refl

pub asked_fits : {m n : Running} {e : Effect} → Reduces m e n → Fits e
asked_fits (apply_function v) = tt
asked_fits (open_pair v w) = tt
asked_fits take_then = tt
asked_fits take_else = tt
asked_fits prepare_qubit = tt
asked_fits read_qubit = tt
asked_fits (apply_gate o) = operands_fit o
asked_fits (in_argument r) = asked_fits r
asked_fits (in_function v r) = asked_fits r
asked_fits (in_left r) = asked_fits r
asked_fits (in_right v r) = asked_fits r
asked_fits (in_condition r) = asked_fits r
asked_fits (in_pair r) = asked_fits r

-- gates
raised_gate : {u : Gate} (n k : ℕ) (m : Running) → NamesGate u (raised n k m) → NamesGate u m
raised_gate n k (var c (bound i)) f = elim f [ ]
raised_gate n k (var c (held j)) f = f
raised_gate n k (const c q) f = f
raised_gate n k (star c) f = f
raised_gate n k (lam c m) (gate_lam f) = gate_lam (raised_gate n (suc k) m f)
raised_gate n k (app c m p) (gate_fun f) = gate_fun (raised_gate n k m f)
raised_gate n k (app c m p) (gate_arg f) = gate_arg (raised_gate n k p f)
raised_gate n k (pair c m p) (gate_left f) = gate_left (raised_gate n k m f)
raised_gate n k (pair c m p) (gate_right f) = gate_right (raised_gate n k p f)
raised_gate n k (if_then_else c p m q) (gate_test f) = gate_test (raised_gate n k p f)
raised_gate n k (if_then_else c p m q) (gate_then f) = gate_then (raised_gate n k m f)
raised_gate n k (if_then_else c p m q) (gate_else f) = gate_else (raised_gate n k q f)
raised_gate n k (let_pair c m p) (gate_pair f) = gate_pair (raised_gate n k m f)
raised_gate n k (let_pair c m p) (gate_body f) = gate_body (raised_gate n (suc (suc k)) p f)

chosen_gate : {u : Gate} (k : ℕ) (vs : List Running) (i : ℕ) → NamesGate u (chosen k vs i) → InSome (NamesGate u) vs
chosen_gate k [] i f = elim f [ ]
chosen_gate k (v ∷ vs) zero f = inl (raised_gate k 0 v f)
chosen_gate k (v ∷ vs) (suc i) f = inr (chosen_gate k vs i f)

replaced_gate : {u : Gate} (k : ℕ) (vs : List Running) (b : Bool) (i : ℕ) → NamesGate u (replaced k vs b i) → InSome (NamesGate u) vs
replaced_gate k vs true i f = elim f [ ]
replaced_gate k vs false i f = chosen_gate k vs (i - k) f

substituted_gate : {u : Gate} (k : ℕ) (vs : List Running) (m : Running) → NamesGate u (substituted k vs m) → NamesGate u m ⊎ InSome (NamesGate u) vs
substituted_gate k vs (var c (bound i)) f = inr (replaced_gate k vs (ltb i k) i f)
substituted_gate k vs (var c (held j)) f = inl f
substituted_gate k vs (const c q) f = inl f
substituted_gate k vs (star c) f = inl f
substituted_gate k vs (lam c m) (gate_lam f) = later gate_lam (substituted_gate (suc k) vs m f)
substituted_gate k vs (app c m p) (gate_fun f) = later gate_fun (substituted_gate k vs m f)
substituted_gate k vs (app c m p) (gate_arg f) = later gate_arg (substituted_gate k vs p f)
substituted_gate k vs (pair c m p) (gate_left f) = later gate_left (substituted_gate k vs m f)
substituted_gate k vs (pair c m p) (gate_right f) = later gate_right (substituted_gate k vs p f)
substituted_gate k vs (if_then_else c p m q) (gate_test f) = later gate_test (substituted_gate k vs p f)
substituted_gate k vs (if_then_else c p m q) (gate_then f) = later gate_then (substituted_gate k vs m f)
substituted_gate k vs (if_then_else c p m q) (gate_else f) = later gate_else (substituted_gate k vs q f)
substituted_gate k vs (let_pair c m p) (gate_pair f) = later gate_pair (substituted_gate k vs m f)
substituted_gate k vs (let_pair c m p) (gate_body f) = later gate_body (substituted_gate (suc (suc k)) vs p f)

pub gate_before : {m n : Running} {e : Effect} {u : Gate} → Reduces m e n → NamesGate u n → NamesGate u m
gate_before (apply_function {m = m} {v = v} _) f = ⊎_elim (λ g. gate_fun (gate_lam g)) (⊎_elim gate_arg absurd) (substituted_gate 0 (v ∷ []) m f)
gate_before (open_pair {n = n} {v = v} {w = w} _ _) f =
    ⊎_elim gate_body (⊎_elim (λ g. gate_pair (gate_right g)) (⊎_elim (λ g. gate_pair (gate_left g)) absurd)) (substituted_gate 0 (w ∷ v ∷ []) n f)
gate_before take_then f = gate_then f
gate_before take_else f = gate_else f
gate_before prepare_qubit f = elim f [ ]
gate_before read_qubit f = elim f [ ]
gate_before (apply_gate o) f = gate_arg f
gate_before (in_argument r) (gate_fun f) = gate_fun f
gate_before (in_argument r) (gate_arg f) = gate_arg (gate_before r f)
gate_before (in_function v r) (gate_fun f) = gate_fun (gate_before r f)
gate_before (in_function v r) (gate_arg f) = gate_arg f
gate_before (in_left r) (gate_left f) = gate_left (gate_before r f)
gate_before (in_left r) (gate_right f) = gate_right f
gate_before (in_right v r) (gate_left f) = gate_left f
gate_before (in_right v r) (gate_right f) = gate_right (gate_before r f)
gate_before (in_condition r) (gate_test f) = gate_test (gate_before r f)
gate_before (in_condition r) (gate_then f) = gate_then f
gate_before (in_condition r) (gate_else f) = gate_else f
gate_before (in_pair r) (gate_pair f) = gate_pair (gate_before r f)
gate_before (in_pair r) (gate_body f) = gate_body f

-- A gate that is applied is named before.
abbrev pub Calls : Effect → Gate → Type 0
Calls silent u = ⊥
Calls (prepares b k) u = ⊥
Calls (reads k b) u = ⊥
Calls (applies v ks) u = u ≡ v

pub called_named : {m n : Running} {e : Effect} {u : Gate} → Reduces m e n → Calls e u → NamesGate u m
called_named (apply_function v) b = absurd b
called_named (open_pair v w) b = absurd b
called_named take_then b = absurd b
called_named take_else b = absurd b
called_named prepare_qubit b = absurd b
called_named read_qubit b = absurd b
called_named {u = u} (apply_gate {d = d} o) b = gate_fun (subst (λ (v : Gate). NamesGate u (const d (gate v))) b gate_here)
called_named (in_argument r) b = gate_arg (called_named r b)
called_named (in_function v r) b = gate_fun (called_named r b)
called_named (in_left r) b = gate_left (called_named r b)
called_named (in_right v r) b = gate_right (called_named r b)
called_named (in_condition r) b = gate_test (called_named r b)
called_named (in_pair r) b = gate_pair (called_named r b)

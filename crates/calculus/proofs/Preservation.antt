-- Subject reduction.
use Rattle.std.proofs.Common.{◌≡◌, ℕ, zero, suc, [], ◌∷◌, Some, None, Option, sym, refl, subst, ap₂}
use native.Mathlib.Decide.{ℕ_discrete}
use Rattle.calculus.specs.Types.{Ty, qbit, tensor, bangs}
use Rattle.calculus.specs.Terms.{Var, bound, held, Running, Free}
use Rattle.calculus.specs.Contexts.{Context, extended, Shared, to_left, Split}
use Rattle.calculus.specs.Typing.{Derives, Unclaimed, rule_variable, rule_constant, rule_function, rule_duplicable_function, rule_application, rule_pair, rule_condition, rule_let}
use Rattle.calculus.specs.Reduction.{Value, substituted, Effect, silent, prepares, reads, applies, Reduces, apply_function, open_pair, take_then, take_else, prepare_qubit, read_qubit, apply_gate, in_argument, in_function, in_left, in_right, in_condition, in_pair}
use Rattle.calculus.specs.Names.{Wires}
use Rattle.calculus.specs.Safety.{Answerable, SubjectReduction}
use Rattle.calculus.proofs.Subtyping.{sub_refl, sub_trans, bangs_pair, plain_arrow, arrow_no_bangs}
use Rattle.calculus.proofs.Narrowing.{AtLeast, no_less, at_least_refl, carry}
use Rattle.calculus.proofs.Values.{at_right, nobody, free_present, none_present, QubitAt, a_qubit, Plain, plain_left, plain_right, Below}
use Rattle.calculus.proofs.Covering.{swapped, regrouped}
use Rattle.calculus.proofs.Substitution.{two, put_in}
use Rattle.calculus.proofs.Ways.{wires_qubits, well_typed}
use Rattle.calculus.proofs.Canonical.{argument, outcome}

-- The context that a step leaves: a prepared qubit is new in it.
abbrev added : {A : Type 0} → Dec A → Option Ty → Option Ty
added (yes a) o = Some qbit
added (no n) o = o

abbrev after : Effect → Context → Context
after silent γ x = γ x
after (prepares b h) γ (bound i) = γ (bound i)
after (prepares b h) γ (held k) = added (ℕ_discrete h k) (γ (held k))
after (reads h b) γ x = γ x
after (applies u hs) γ x = γ x

abbrev Fresh : Effect → Context → Type 0
Fresh silent γ = Unit {0}
Fresh (prepares b h) γ = γ (held h) ≡ None
Fresh (reads h b) γ = Unit {0}
Fresh (applies u hs) γ = Unit {0}

fresh_left : {γ γ₁ γ₂ : Context} (e : Effect) → Split γ γ₁ γ₂ → Fresh e γ → Fresh e γ₁
fresh_left silent s f = f
fresh_left (prepares b h) s f = (nobody (s (held h)) f).0
fresh_left (reads h b) s f = f
fresh_left (applies u hs) s f = f

fresh_right : {γ γ₁ γ₂ : Context} (e : Effect) → Split γ γ₁ γ₂ → Fresh e γ → Fresh e γ₂
fresh_right e s f = fresh_left e (λ x. swapped (s x)) f

added_shared : {A : Type 0} {g g₁ g₂ : Option Ty} (d : Dec A) → (A → g₂ ≡ None) → Shared g g₁ g₂ → Shared (added d g) (added d g₁) g₂
added_shared (yes a) n s = rw (n a) to_left
added_shared (no m) n s = s

after_left : {γ γ₁ γ₂ : Context} (e : Effect) → Fresh e γ → Split γ γ₁ γ₂ → Split (after e γ) (after e γ₁) γ₂
after_left silent f s x = s x
after_left (prepares b h) f s (bound i) = s (bound i)
after_left {γ₂ = γ₂} (prepares b h) f s (held k) =
    added_shared (ℕ_discrete h k) (λ p. subst (λ (j : ℕ). γ₂ (held j) ≡ None) p (nobody (s (held h)) f).1) (s (held k))
after_left (reads h b) f s x = s x
after_left (applies u hs) f s x = s x

after_right : {γ γ₁ γ₂ : Context} (e : Effect) → Fresh e γ → Split γ γ₁ γ₂ → Split (after e γ) γ₁ (after e γ₂)
after_right e f s x = swapped (after_left e f (λ y. swapped (s y)) x)

added_qubit : {A : Type 0} {o : Option Ty} (d : Dec A) → QubitAt o → QubitAt (added d o)
added_qubit (yes a) q = a_qubit
added_qubit (no n) q = q

after_plain : (γ : Context) (e : Effect) → Plain γ → Plain (after e γ)
after_plain γ silent p = p
after_plain γ (prepares b h) p = (p.0, λ k. added_qubit (ℕ_discrete h k) (p.1 k))
after_plain γ (reads h b) p = p
after_plain γ (applies u hs) p = p

added_here : {A : Type 0} (o : Option Ty) (d : Dec A) → A → added d o ≡ Some qbit
added_here o (yes a) b = refl
added_here o (no n) b = absurd (n b)

-- The redexes that put values in.
abbrev wired : Context → Context
wired γ (bound i) = None
wired γ (held h) = γ (held h)

below : {γ : Context} {m : Running} {a : Ty} → Plain γ → Derives Unclaimed γ m a → Below 0 m
below p r i f = absurd (none_present (p.0 i) (free_present r f))

unpaired : {γ γ₁ γ₂ γ₃ γ₄ : Context} {n v w : Running} {a b t : Ty} → Plain γ → Split γ γ₁ γ₂ → Split γ₁ γ₃ γ₄ → Value v → Value w
    → Derives Unclaimed γ₃ v a → Derives Unclaimed γ₄ w b → Derives Unclaimed (extended b (extended a γ₂)) n t → Derives Unclaimed γ (substituted 0 (w ∷ v ∷ []) n) t
unpaired {γ} {γ₁} {γ₂} {γ₃} {γ₄} {n} {v} {w} {a} {b} {t} p s s' is_v is_w r₁ r₂ r =
    subst (λ (m : Running). Derives Unclaimed γ m t) (sym (two n 0 w v (below p₄ r₂))) (put_in 0 (λ x. (rest x).1) is_v step₁ r₁)
  where
    p₄ : Plain γ₄
    p₄ = plain_right s' (plain_left s p)

    rest : (x : Var) → (o : Option Ty) × Shared (γ x) o (γ₃ x) × Shared o (γ₄ x) (γ₂ x)
    rest x = regrouped (s x) (swapped (s' x))

    -- the value has no binder's variable, and so none of the one that is between
    held_apart : (x : Var) → Shared (extended a (λ y. (rest y).0) x) (extended a γ₂ x) (wired γ₄ x)
    held_apart (bound zero) = to_left
    held_apart (bound (suc i)) = subst (Shared ((rest (bound i)).0) (γ₂ (bound i))) (p₄.0 i) (swapped (rest (bound i)).2)
    held_apart (held h) = swapped (rest (held h)).2

    only_held : (x : Var) → Free x w → AtLeast (wired γ₄ x) (γ₄ x)
    only_held (bound i) f = rw (p₄.0 i) no_less
    only_held (held h) f = at_least_refl _

    step₁ : Derives Unclaimed (extended a (λ x. (rest x).0)) (substituted 0 (w ∷ []) n) t
    step₁ = put_in 0 held_apart is_w r (carry r₂ (sub_refl _) only_held)

same_parts : (k l : ℕ) (a b x y : Ty) → bangs k (tensor a b) ≡ bangs l (tensor x y) → (bangs l x ≡ bangs k a) × (bangs l y ≡ bangs k b)
same_parts k l a b x y e = let q = bangs_pair k l a b x y e in (sym (ap₂ bangs q.0 q.1), sym (ap₂ bangs q.0 q.2))

keeps : {γ : Context} {m n : Running} {e : Effect} {t : Ty} → Plain γ → Fresh e γ → Reduces m e n → Derives Unclaimed γ m t → Derives Unclaimed (after e γ) n t
keeps p f (apply_function v) (rule_application _ s (rule_function _ q r₁) r₂) =
    let e = plain_arrow q in subst (Derives Unclaimed _ _) (sym e.1) (put_in 0 s v r₁ (subst (Derives Unclaimed _ _) e.0 r₂))
keeps p f (apply_function v) (rule_application _ s (rule_duplicable_function n _ q g r₁) r₂) = absurd (arrow_no_bangs n _ q)
keeps p f (open_pair v w) (rule_let k a b _ s (rule_pair l x y _ s' q r₁ r₂) r) =
    let e = same_parts k l a b x y q in unpaired p s s' v w (subst (Derives Unclaimed _ _) e.0 r₁) (subst (Derives Unclaimed _ _) e.1 r₂) r
keeps p f take_then (rule_condition _ s r₁ r₂ r₃) = carry r₂ (sub_refl _) (λ x o. at_right (s x))
keeps p f take_else (rule_condition _ s r₁ r₂ r₃) = carry r₃ (sub_refl _) (λ x o. at_right (s x))
keeps p f (prepare_qubit {h = h}) (rule_application _ s (rule_constant _ q) r₂) = rule_variable tt (added_here _ (ℕ_discrete h h) refl) (outcome q)
keeps p f read_qubit (rule_application _ s (rule_constant _ q) r₂) = rule_constant tt (outcome q)
keeps p f (apply_gate o) (rule_application _ s (rule_constant _ q) r₂) = carry r₂ (sub_trans (argument q) (outcome q)) (λ x u. at_right (s x))
keeps {e = e} p f (in_argument r) (rule_application _ s r₁ r₂) = rule_application tt (after_right e f s) r₁ (keeps (plain_right s p) (fresh_right e s f) r r₂)
keeps {e = e} p f (in_function v r) (rule_application _ s r₁ r₂) = rule_application tt (after_left e f s) (keeps (plain_left s p) (fresh_left e s f) r r₁) r₂
keeps {e = e} p f (in_left r) (rule_pair k a b _ s q r₁ r₂) = rule_pair k a b tt (after_left e f s) q (keeps (plain_left s p) (fresh_left e s f) r r₁) r₂
keeps {e = e} p f (in_right v r) (rule_pair k a b _ s q r₁ r₂) = rule_pair k a b tt (after_right e f s) q r₁ (keeps (plain_right s p) (fresh_right e s f) r r₂)
keeps {e = e} p f (in_condition r) (rule_condition _ s r₁ r₂ r₃) = rule_condition tt (after_left e f s) (keeps (plain_left s p) (fresh_left e s f) r r₁) r₂ r₃
keeps {e = e} p f (in_pair r) (rule_let k a b _ s r₁ r₂) = rule_let k a b tt (after_left e f s) (keeps (plain_left s p) (fresh_left e s f) r r₁) r₂

answered : {m : Running} {γ : Context} (e : Effect) → Wires m γ → Answerable m e → Fresh e γ
answered silent w a = tt
answered (prepares b h) w a = w.no_other h a
answered (reads h b) w a = tt
answered (applies u hs) w a = tt

pub subject_reduction : SubjectReduction
subject_reduction m n e a t r k =
    let p = after_plain t.0 e (t.1.no_binder, wires_qubits t.1) in
    well_typed p.0 p.1 (keeps (t.1.no_binder, wires_qubits t.1) (answered e t.1 k) r t.2)

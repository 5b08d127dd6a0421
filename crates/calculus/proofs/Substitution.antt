-- A value may stand for a variable of its type.
use Rattle.std.proofs.Common.{◌≡◌, ℕ, zero, suc, ◌-◌, ◌<◌, ◌≤◌, List, [], ◌∷◌, Some, None, Option, sym, refl, ap, ◌∙◌, subst, ap₂, arith}
use Rattle.calculus.specs.Types.{Ty, bang, bangs, Sub}
use Rattle.calculus.specs.Terms.{Var, bound, held, var, const, star, lam, app, pair, if_then_else, let_pair, Running, Free, free_lam}
use Rattle.calculus.specs.Contexts.{Context, empty, extended, outer, inserted, inside, Shared, to_left, to_right, to_both, Split}
use Rattle.calculus.specs.Typing.{Derives, Unclaimed, rule_variable, rule_constant, rule_unit, rule_function, rule_duplicable_function, rule_application, rule_pair, rule_condition, rule_let}
use Rattle.calculus.specs.Reduction.{Value, raised, chosen, substituted}
use Rattle.calculus.proofs.Subtyping.{Marking, a_bang, no_bang, marking, sub_refl, sub_trans}
use Rattle.calculus.proofs.Narrowing.{at_least_refl, at_least_some, narrower_under, carry}
use Rattle.calculus.proofs.Values.{value_duplicable, Below, ltb-true, raised_below, substituted_below}
use Rattle.calculus.proofs.Keeping.{kept_type, keep, kept, keep_duplicable, lam_kept}
use Rattle.calculus.proofs.Covering.{Covers, covers_left, covers_right, covers_alone, covers_keep, Dealt, deal_left, deal_right, deal_kept}
use Rattle.calculus.proofs.Raising.{Seen, low, here, high, seen, ltb-false, risen}

not_below : (k i : ℕ) (vs : List Running) → k ≤ i → substituted k vs (var tt (bound i)) ≡ chosen k vs (i - k)
not_below k i vs h = rw (ltb-false i k h)

first_chosen : (k : ℕ) (v : Running) (vs : List Running) → substituted k (v ∷ vs) (var tt (bound k)) ≡ raised k 0 v
first_chosen k v vs = not_below k k (v ∷ vs) (omega arith) ∙ ap (chosen k (v ∷ vs)) go
  where
    go : k - k ≡ 0
    go = omega arith

later_chosen : (k j : ℕ) (v : Running) (vs : List Running) → k ≤ j → substituted k (v ∷ vs) (var tt (bound (suc j))) ≡ chosen k vs (j - k)
later_chosen k j v vs h = not_below k (suc j) (v ∷ vs) (omega arith) ∙ ap (chosen k (v ∷ vs)) go
  where
    go : suc j - k ≡ suc (j - k)
    go = omega arith

beyond : (k j : ℕ) (v : Running) → k ≤ j → substituted k (v ∷ []) (var tt (bound (suc j))) ≡ var tt (bound j)
beyond k j v h = later_chosen k j v [] h ∙ ap (λ (i : ℕ). var tt (bound i)) (omega arith)

-- Two closed terms may be put in one after the other.
below_zero : (k : ℕ) (w : Running) → Below 0 w → Below k w
below_zero k w b i f = let h = b i f in omega arith

two_at : (k i : ℕ) (w v : Running) → Below 0 w → Seen k i
    → substituted k (w ∷ v ∷ []) (var tt (bound i)) ≡ substituted k (v ∷ []) (substituted k (w ∷ []) (var tt (bound i)))
two_at k i w v b (low h) = simp (ltb-true i k h)
two_at k i w v b here = first_chosen k w (v ∷ []) ∙ raised_below k 0 w b
    ∙ sym (ap (substituted k (v ∷ [])) (first_chosen k w [] ∙ raised_below k 0 w b) ∙ substituted_below (v ∷ []) k w (below_zero k w b))
two_at k i w v b (high {j = j} h) = later_chosen k j w (v ∷ []) h ∙ sym (ap (substituted k (v ∷ [])) (beyond k j w h) ∙ not_below k j (v ∷ []) h)

pub two : (m : Running) (k : ℕ) (w v : Running) → Below 0 w → substituted k (w ∷ v ∷ []) m ≡ substituted k (v ∷ []) (substituted k (w ∷ []) m)
two (var c (bound i)) k w v b = two_at k i w v b (seen k i)
two (var c (held h)) k w v b = refl
two (const c q) k w v b = refl
two (star c) k w v b = refl
two (lam c m) k w v b = ap (lam c) (two m (suc k) w v b)
two (app c m p) k w v b = ap₂ (app c) (two m k w v b) (two p k w v b)
two (pair c m p) k w v b = ap₂ (pair c) (two m k w v b) (two p k w v b)
two (if_then_else c p m q) k w v b = cc (two p k w v b, two m k w v b, two q k w v b)
two (let_pair c m p) k w v b = ap₂ (let_pair c) (two m k w v b) (two p (suc (suc k)) w v b)

-- The place in a longer context of a variable that is not the k-th.
abbrev pub skip : ℕ → ℕ → ℕ
skip zero i = suc i
skip (suc k) zero = zero
skip (suc k) (suc i) = suc (skip k i)

skip_low : (k i : ℕ) → i < k → skip k i ≡ i
skip_low zero i h = absurd (omega arith)
skip_low (suc k) zero h = refl
skip_low (suc k) (suc i) h = ap suc (skip_low k i (omega arith))

skip_high : (k i : ℕ) → k ≤ i → skip k i ≡ suc i
skip_high zero i h = refl
skip_high (suc k) zero h = absurd (omega arith)
skip_high (suc k) (suc i) h = ap suc (skip_high k i (omega arith))

abbrev past : ℕ → Var → Var
past k (bound i) = bound (skip k i)
past k (held h) = held h

inside_kept : (k : ℕ) (u : Context) (x : Var) → keep (inside k u x) ≡ inside k (kept u) x
inside_kept zero u x = refl
inside_kept (suc k) u (bound zero) = refl
inside_kept (suc k) u (bound (suc i)) = inside_kept k u (bound i)
inside_kept (suc k) u (held h) = inside_kept k u (held h)

inside_empty : (k : ℕ) (x : Var) → None ≡ inside k empty x
inside_empty zero x = refl
inside_empty (suc k) (bound zero) = refl
inside_empty (suc k) (bound (suc i)) = inside_empty k (bound i)
inside_empty (suc k) (held h) = inside_empty k (held h)

-- The value fits the type that the context has for the variable, if it has one.
pub data Fits (v : Running) (u : Context) : Option Ty → Type 0 where
  unused : Fits v u None
  fits : {a : Ty} → Derives Unclaimed u v a → Fits v u (Some a)

-- w has, at each variable, what is left of γ without its k-th binder's, and what the value has outside k binders.
abbrev Suffices : ℕ → Context → Context → Context → Type 0
Suffices k w γ u = (x : Var) → Covers (w x) (γ (past k x)) (inside k u x)

suffices_under : (k : ℕ) (a : Ty) (w γ u : Context) → Suffices k w γ u → Suffices (suc k) (extended a w) (extended a γ) u
suffices_under k a w γ u c (bound zero) = covers_alone (at_least_refl _)
suffices_under k a w γ u c (bound (suc i)) = c (bound i)
suffices_under k a w γ u c (held h) = c (held h)

suffices_kept : (k : ℕ) (w γ u : Context) → Suffices k w γ u → Suffices k (kept w) (kept γ) (kept u)
suffices_kept k w γ u c x = subst (Covers (keep (w x)) (keep (γ (past k x)))) (inside_kept k u x) (covers_keep (γ (past k x)) (inside k u x) (c x))

module _ (v : Running) (is : Value v) where
  fits_bang : {u : Context} {a : Ty} → Derives Unclaimed u v (bang a) → Fits v (kept u) (Some (bang a))
  fits_bang {u} r = fits (carry r (sub_refl _) (λ x f. keep_duplicable (u x) (value_duplicable is r tt f)))

  fits_type : {u : Context} (t : Ty) (d : Marking t) → Derives Unclaimed u v t → Fits v (kept u) (kept_type t d)
  fits_type t a_bang r = fits_bang r
  fits_type t (no_bang n) r = unused

  fits_kept : {u : Context} {o : Option Ty} → Fits v u o → Fits v (kept u) (keep o)
  fits_kept unused = unused
  fits_kept (fits {a = a} r) = fits_type a (marking a) r

  abbrev Owners : Option Ty → Option Ty → (k : ℕ) (u w γ₁ γ₂ : Context) → Type 0
  Owners o₁ o₂ k u w γ₁ γ₂ = (u₁ : Context) × (u₂ : Context) × Fits v u₁ o₁ × Fits v u₂ o₂ × ((x : Var) → Dealt (w x) (γ₁ (past k x)) (γ₂ (past k x)) (inside k u₁ x) (inside k u₂ x))

  -- Who gets the value's variables where a rule parts the context.
  owners : {o o₁ o₂ : Option Ty} (k : ℕ) (u w γ γ₁ γ₂ : Context) → Split γ γ₁ γ₂ → Shared o o₁ o₂ → Fits v u o → Suffices k w γ u → Owners o₁ o₂ k u w γ₁ γ₂
  owners k u w γ γ₁ γ₂ s to_left f c =
      (u, empty, f, unused, λ x. subst (Dealt (w x) (γ₁ (past k x)) (γ₂ (past k x)) (inside k u x)) (inside_empty k x) (deal_left (w x) (s (past k x)) (c x)))
  owners k u w γ γ₁ γ₂ s to_right f c =
      (empty, u, unused, f, λ x. subst (λ (o : Option Ty). Dealt (w x) (γ₁ (past k x)) (γ₂ (past k x)) o (inside k u x)) (inside_empty k x) (deal_right (w x) (s (past k x)) (c x)))
  owners k u w γ γ₁ γ₂ s to_both (fits r) c =
      (kept u, kept u, fits_bang r, fits_bang r, λ x. subst (λ (o : Option Ty). Dealt (w x) (γ₁ (past k x)) (γ₂ (past k x)) o o) (inside_kept k u x) (deal_kept (w x) (inside k u x) (s (past k x)) (c x)))

  abbrev Sides : (k : ℕ) (w γ₁ γ₂ : Context) → Type 0
  Sides k w γ₁ γ₂ = (u₁ : Context) × (u₂ : Context) × (w₁ : Context) × (w₂ : Context)
      × Fits v u₁ (γ₁ (bound k)) × Fits v u₂ (γ₂ (bound k)) × Suffices k w₁ γ₁ u₁ × Suffices k w₂ γ₂ u₂ × Split w w₁ w₂

  sides : (k : ℕ) (u w : Context) {γ γ₁ γ₂ : Context} → Split γ γ₁ γ₂ → Fits v u (γ (bound k)) → Suffices k w γ u → Sides k w γ₁ γ₂
  sides k u w {γ} {γ₁} {γ₂} s f c = (d.0, d.1, (λ x. (d.4 x).0), (λ x. (d.4 x).1), d.2, d.3, (λ x. (d.4 x).3), (λ x. (d.4 x).4), (λ x. (d.4 x).2))
    where
      d : Owners (γ₁ (bound k)) (γ₂ (bound k)) k u w γ₁ γ₂
      d = owners k u w γ γ₁ γ₂ s (s (bound k)) f c

  fits_some : {u : Context} {a : Ty} → Fits v u (Some a) → Derives Unclaimed u v a
  fits_some (fits r) = r

  replace_at : (γ : Context) {t a : Ty} (k i : ℕ) (u w : Context) → Seen k i → γ (bound i) ≡ Some a → Sub a t → Fits v u (γ (bound k)) → Suffices k w γ u
      → Derives Unclaimed w (substituted k (v ∷ []) (var tt (bound i))) t
  replace_at γ {t} k i u w (low h) e s f c =
      let q = at_least_some (rw (skip_low k i h, e) at (covers_left (c (bound i)))) in
      rw (ltb-true i k h) (rule_variable tt q.1 (sub_trans q.2 s))
  replace_at γ {t} {a} k i u w here e s f c =
      subst (λ (m : Running). Derives Unclaimed w m t) (sym (first_chosen k v [])) (carry (risen k (fits_some (rw e at f))) s (λ x o. covers_right (c x)))
  replace_at γ {t} k i u w (high {j = j} h) e s f c =
      let q = at_least_some (rw (skip_high k j h, e) at (covers_left (c (bound j)))) in
      subst (λ (m : Running). Derives Unclaimed w m t) (sym (beyond k j v h)) (rule_variable tt q.1 (sub_trans q.2 s))

  pub replace : (m : Running) {γ : Context} {t : Ty} → Derives Unclaimed γ m t → (k : ℕ) (u w : Context) → Fits v u (γ (bound k)) → Suffices k w γ u
      → Derives Unclaimed w (substituted k (v ∷ []) m) t
  replace (var c (bound i)) {γ} (rule_variable _ e s) k u w f c' = replace_at γ k i u w (seen k i) e s f c'
  replace (var c (held h)) (rule_variable _ e s) k u w f c' =
      let q = at_least_some (rw e at (covers_left (c' (held h)))) in rule_variable tt q.1 (sub_trans q.2 s)
  replace (const c q) (rule_constant _ s) k u w f c' = rule_constant tt s
  replace (star c) (rule_unit n _ e) k u w f c' = rule_unit n tt e
  replace (lam c m) {γ} (rule_function {a = a} _ e r) k u w f c' =
      rule_function tt e (replace m r (suc k) u (extended a w) f (suffices_under k a w γ u c'))
  replace (lam c m) {γ} (rule_duplicable_function {a = a} n _ e g r) k u w f c' =
      let r' = carry r (sub_refl _) (narrower_under (λ x. Free x m) (sub_refl _) (λ x o. keep_duplicable (γ x) (g x (free_lam o)))) in
      lam_kept n w e (replace m r' (suc k) (kept u) (extended a (kept w)) (fits_kept f) (suffices_under k a (kept w) (kept γ) (kept u) (suffices_kept k w γ u c')))
  replace (app c m n) (rule_application _ s r₁ r₂) k u w f c' =
      let q = sides k u w s f c' in rule_application tt q.8 (replace m r₁ k q.0 q.2 q.4 q.6) (replace n r₂ k q.1 q.3 q.5 q.7)
  replace (pair c m n) (rule_pair l a b _ s e r₁ r₂) k u w f c' =
      let q = sides k u w s f c' in rule_pair l a b tt q.8 e (replace m r₁ k q.0 q.2 q.4 q.6) (replace n r₂ k q.1 q.3 q.5 q.7)
  replace (if_then_else c p m n) (rule_condition _ s r₁ r₂ r₃) k u w f c' =
      let q = sides k u w s f c' in
      rule_condition tt q.8 (replace p r₁ k q.0 q.2 q.4 q.6) (replace m r₂ k q.1 q.3 q.5 q.7) (replace n r₃ k q.1 q.3 q.5 q.7)
  replace (let_pair c m n) (rule_let {γ₂ = γ₂} l a b _ s r₁ r₂) k u w f c' =
      let q = sides k u w s f c' in rule_let l a b tt q.8 (replace m r₁ k q.0 q.2 q.4 q.6)
      (replace n r₂ (suc (suc k)) q.1 (extended (bangs l b) (extended (bangs l a) q.3)) q.5
      (suffices_under (suc k) (bangs l b) (extended (bangs l a) q.3) (extended (bangs l a) γ₂) q.1 (suffices_under k (bangs l a) q.3 γ₂ q.1 q.7)))

-- where the variable is inserted, and the other variables past it
inserted_here : (k : ℕ) (a : Ty) (γ : Context) → inserted k a γ (bound k) ≡ Some a
inserted_here zero a γ = refl
inserted_here (suc k) a γ = inserted_here k a (outer γ)

inserted_past : (k : ℕ) (a : Ty) (γ : Context) (x : Var) → inserted k a γ (past k x) ≡ γ x
inserted_past zero a γ (bound i) = refl
inserted_past zero a γ (held h) = refl
inserted_past (suc k) a γ (bound zero) = refl
inserted_past (suc k) a γ (bound (suc i)) = inserted_past k a (outer γ) (bound i)
inserted_past (suc k) a γ (held h) = refl

pub put_in : (k : ℕ) {γ γ₁ γ₂ : Context} {m v : Running} {a t : Ty} → Split γ γ₁ (inside k γ₂) → Value v → Derives Unclaimed (inserted k a γ₁) m t → Derives Unclaimed γ₂ v a
    → Derives Unclaimed γ (substituted k (v ∷ []) m) t
put_in k {γ} {γ₁} {γ₂} {m} {v} {a} s is r q =
    replace v is m r k γ₂ γ (subst (Fits v γ₂) (sym (inserted_here k a γ₁)) (fits q)) (λ x. subst (λ (o : Option Ty). Covers (γ x) o (inside k γ₂ x)) (sym (inserted_past k a γ₁ x)) (_, s x, at_least_refl _))

-- A derivation seen from inside binders: the variables of the term that are free there are raised.
use Rattle.std.specs.Prelude.{nat_lt}
use Rattle.std.proofs.Common.{◌≡◌, ℕ, zero, suc, ◌+◌, ◌<◌, ◌≤◌, ltb, false, Some, None, Option, refl, ap, ◌∙◌, subst, arith}
use mathlib.Core.Path.{fun_ext}
use Rattle.calculus.specs.Types.{Ty, bangs}
use Rattle.calculus.specs.Terms.{Var, bound, held, var, const, star, lam, app, pair, if_then_else, let_pair, Running, Free, free_lam}
use Rattle.calculus.specs.Contexts.{Context, extended, inside, Shared, to_left, Split}
use Rattle.calculus.specs.Typing.{Derives, Unclaimed, rule_variable, rule_constant, rule_unit, rule_function, rule_duplicable_function, rule_application, rule_pair, rule_condition, rule_let}
use Rattle.calculus.specs.Reduction.{raised_var, raised}
use Rattle.calculus.proofs.Subtyping.{sub_refl}
use Rattle.calculus.proofs.Narrowing.{carry, narrower_under}
use Rattle.calculus.proofs.Values.{ltb-true}
use Rattle.calculus.proofs.Keeping.{keep, kept, keep_duplicable, lam_kept}

-- Where a variable stands to the one that is replaced.
pub data Seen : ℕ → ℕ → Type 0 where
  low : {k i : ℕ} → i < k → Seen k i
  here : {k : ℕ} → Seen k k
  high : {k j : ℕ} → k ≤ j → Seen k (suc j)

seen_under : {k i : ℕ} → Seen k i → Seen (suc k) (suc i)
seen_under (low h) = low (omega arith)
seen_under here = here
seen_under (high h) = high (omega arith)

pub seen : (k i : ℕ) → Seen k i
seen zero zero = here
seen zero (suc i) = high (omega arith)
seen (suc k) zero = low (omega arith)
seen (suc k) (suc i) = seen_under (seen k i)

pub ltb-false : (i k : ℕ) → k ≤ i → ltb i k ≡ false
ltb-false i k h = grind arith

-- The variable that stands at a place, of a term whose variables from k on are raised by n: none at the n places from k on.
abbrev dropped : ℕ → ℕ → Option ℕ
dropped zero i = Some i
dropped (suc n) zero = None
dropped (suc n) (suc i) = dropped n i

abbrev one_more : Option ℕ → Option ℕ
one_more None = None
one_more (Some i) = Some (suc i)

abbrev origin : ℕ → ℕ → ℕ → Option ℕ
origin zero n i = dropped n i
origin (suc k) n zero = Some zero
origin (suc k) n (suc i) = one_more (origin k n i)

dropped_raised : (n i : ℕ) → dropped n (i + n) ≡ Some i
dropped_raised zero i = ap Some (omega arith)
dropped_raised (suc n) i = ap (dropped (suc n)) go ∙ dropped_raised n i
  where
    go : i + suc n ≡ suc (i + n)
    go = omega arith

origin_low : (k n i : ℕ) → i < k → origin k n i ≡ Some i
origin_low zero n i h = absurd (omega arith)
origin_low (suc k) n zero h = refl
origin_low (suc k) n (suc i) h = ap one_more (origin_low k n i (omega arith))

origin_high : (k n i : ℕ) → k ≤ i → origin k n (i + n) ≡ Some i
origin_high zero n i h = dropped_raised n i
origin_high (suc k) n zero h = absurd (omega arith)
origin_high (suc k) n (suc i) h = ap (origin (suc k) n) go ∙ ap one_more (origin_high k n i (omega arith))
  where
    go : suc i + n ≡ suc (i + n)
    go = omega arith

abbrev type_of : Context → Option ℕ → Option Ty
type_of γ None = None
type_of γ (Some i) = γ (bound i)

-- Γ with n binders more from the place k on, whose variables it does not have
abbrev lifted : ℕ → ℕ → Context → Context
lifted k n γ (bound i) = type_of γ (origin k n i)
lifted k n γ (held h) = γ (held h)

lifted_at : (k n i : ℕ) (γ : Context) → Seen k i → lifted k n γ (raised_var n k (nat_lt i k) i) ≡ γ (bound i)
lifted_at k n i γ (low h) = rw (ltb-true i k h, origin_low k n i h)
lifted_at k n i γ here = rw (ltb-false k k (omega arith), origin_high k n k (omega arith))
lifted_at k n i γ (high {j = j} h) = rw (ltb-false (suc j) k (omega arith), origin_high k n (suc j) (omega arith))

typed_under : (a : Ty) (γ : Context) (o : Option ℕ) → type_of (extended a γ) (one_more o) ≡ type_of γ o
typed_under a γ None = refl
typed_under a γ (Some i) = refl

lifted_under : (k n : ℕ) (a : Ty) (γ : Context) (x : Var) → lifted (suc k) n (extended a γ) x ≡ extended a (lifted k n γ) x
lifted_under k n a γ (bound zero) = refl
lifted_under k n a γ (bound (suc i)) = typed_under a γ (origin k n i)
lifted_under k n a γ (held h) = refl

lifted_shared : {γ γ₁ γ₂ : Context} → Split γ γ₁ γ₂ → (o : Option ℕ) → Shared (type_of γ o) (type_of γ₁ o) (type_of γ₂ o)
lifted_shared s None = to_left
lifted_shared s (Some i) = s (bound i)

lifted_split : (k n : ℕ) {γ γ₁ γ₂ : Context} → Split γ γ₁ γ₂ → Split (lifted k n γ) (lifted k n γ₁) (lifted k n γ₂)
lifted_split k n s (bound i) = lifted_shared s (origin k n i)
lifted_split k n s (held h) = s (held h)

type_kept : (γ : Context) (o : Option ℕ) → type_of (kept γ) o ≡ keep (type_of γ o)
type_kept γ None = refl
type_kept γ (Some i) = refl

lifted_kept : (k n : ℕ) (γ : Context) (x : Var) → lifted k n (kept γ) x ≡ kept (lifted k n γ) x
lifted_kept k n γ (bound i) = type_kept γ (origin k n i)
lifted_kept k n γ (held h) = refl

in_context : {γ δ : Context} {m : Running} {t : Ty} → ((x : Var) → γ x ≡ δ x) → Derives Unclaimed γ m t → Derives Unclaimed δ m t
in_context {m = m} {t = t} e r = subst (λ (g : Context). Derives Unclaimed g m t) (fun_ext e) r

under_one : (k n : ℕ) (a : Ty) (γ : Context) {m : Running} {t : Ty} → Derives Unclaimed (lifted (suc k) n (extended a γ)) m t → Derives Unclaimed (extended a (lifted k n γ)) m t
under_one k n a γ r = in_context (lifted_under k n a γ) r

raise : (m : Running) {γ : Context} {t : Ty} → Derives Unclaimed γ m t → (k n : ℕ) → Derives Unclaimed (lifted k n γ) (raised n k m) t
raise (var c (bound i)) {γ} (rule_variable _ e s) k n = rule_variable tt (lifted_at k n i γ (seen k i) ∙ e) s
raise (var c (held h)) (rule_variable _ e s) k n = rule_variable tt e s
raise (const c q) (rule_constant _ s) k n = rule_constant tt s
raise (star c) (rule_unit l _ e) k n = rule_unit l tt e
raise (lam c m) {γ} (rule_function {a = a} _ e r) k n = rule_function tt e (under_one k n a γ (raise m r (suc k) n))
raise (lam c m) {γ} (rule_duplicable_function {a = a} {b = b} l _ e g r) k n =
    let r' = carry r (sub_refl _) (narrower_under (λ x. Free x m) (sub_refl _) (λ x o. keep_duplicable (γ x) (g x (free_lam o)))) in
    let q = under_one k n a (kept γ) (raise m r' (suc k) n) in
    lam_kept l (lifted k n γ) e (in_context (λ x. ap (λ (d : Context). extended a d x) (fun_ext (lifted_kept k n γ))) q)
raise (app c m p) (rule_application _ s r₁ r₂) k n = rule_application tt (lifted_split k n s) (raise m r₁ k n) (raise p r₂ k n)
raise (pair c m p) (rule_pair l a b _ s e r₁ r₂) k n = rule_pair l a b tt (lifted_split k n s) e (raise m r₁ k n) (raise p r₂ k n)
raise (if_then_else c p m q) (rule_condition _ s r₁ r₂ r₃) k n = rule_condition tt (lifted_split k n s) (raise p r₁ k n) (raise m r₂ k n) (raise q r₃ k n)
raise (let_pair c m p) (rule_let {γ₂ = γ₂} l a b _ s r₁ r₂) k n =
    let q = under_one (suc k) n (bangs l b) (extended (bangs l a) γ₂) (raise p r₂ (suc (suc k)) n) in
    rule_let l a b tt (lifted_split k n s) (raise m r₁ k n)
    (in_context (λ x. ap (λ (d : Context). extended (bangs l b) d x) (fun_ext (lifted_under k n (bangs l a) γ₂))) q)

inside_lifted : (n : ℕ) (γ : Context) (x : Var) → lifted 0 n γ x ≡ inside n γ x
inside_lifted zero γ (bound i) = refl
inside_lifted zero γ (held h) = refl
inside_lifted (suc n) γ (bound zero) = refl
inside_lifted (suc n) γ (bound (suc i)) = inside_lifted n γ (bound i)
inside_lifted (suc n) γ (held h) = inside_lifted n γ (held h)

-- A derivation seen from inside n binders.
pub risen : (n : ℕ) {γ : Context} {m : Running} {t : Ty} → Derives Unclaimed γ m t → Derives Unclaimed (inside n γ) (raised n 0 m) t
risen n {γ} {m} r = in_context (inside_lifted n γ) (raise m r 0 n)

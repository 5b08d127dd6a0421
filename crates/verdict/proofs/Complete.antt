-- A term that has a derivation with its claims, and at most 32 nested binders, is accepted.
use Rattle.std.proofs.Common.{◌≡◌, ℕ, zero, suc, ◌+◌, ◌≤◌, Bool, ◌&&◌, ◌||◌, T, List, ◌∷◌, length, Some, None, Option, sym, refl, ap, ◌∙◌, subst, arith, le→leb}
use Rattle.std.specs.List.{slice_get}
use Rattle.calculus.specs.Types.{Ty, unit, arrow, tensor, bangs, Sub}
use Rattle.calculus.specs.Terms.{claim_of, type_of, Var, bound, held, under, Term, var, const, star, lam, app, pair, if_then_else, let_pair}
use Rattle.calculus.specs.Contexts.{Context, extended, Shared, to_left, to_right, to_both, Split, DuplicableAt}
use Rattle.calculus.specs.Typing.{Derives, Claimed, rule_variable, rule_constant, rule_unit, rule_function, rule_duplicable_function, rule_application, rule_pair, rule_condition, rule_let}
use Rattle.calculus.specs.Stripping.{marks, core, first, second, positive, duplicable}
use Rattle.verdict.specs.Claims.{context_of, function_fits, application_fits, pair_fits, condition_fits, let_fits}
use Rattle.verdict.specs.Faults.{accepted, fault}
use Rattle.verdict.specs.Judging.{verdict_from}
use Rattle.verdict.specs.Sharing.{all_duplicable}
use Rattle.verdict.specs.Uses.{uses, nested}
use Rattle.verdict.specs.declared.faults.CheckReason.TheVariants.{UsedTwice, Captures}
use Rattle.verdict.proofs.Accepting.{then_accepted, must_accepted, entered}
use Rattle.calculus.proofs.Stripping.{T_and}
use Rattle.calculus.proofs.Subtyping.{core_bangs, first_bangs, second_bangs, marks_of}
use Rattle.verdict.proofs.Uses.{from_either, used_free}
use Rattle.verdict.proofs.Parting.{Has, has_twice, has_outside, in_domain, Copyable, all_copyable, implies}
use Rattle.verdict.proofs.Sound.{claims}

pub not_some : (a : Ty) → None ≡ Some a → ⊥
not_some a e = subst Has (sym e) tt

some_left : {o l r : Option Ty} (a : Ty) → Shared o l r → l ≡ Some a → o ≡ Some a
some_left a to_left e = e
some_left a to_right e = absurd (not_some a e)
some_left a to_both e = e

some_right : {o l r : Option Ty} (a : Ty) → Shared o l r → r ≡ Some a → o ≡ Some a
some_right a to_left e = absurd (not_some a e)
some_right a to_right e = e
some_right a to_both e = e

-- The binders in scope have what the context γ has.
abbrev Within : Context → List Ty → Type 0
Within γ bs = (x : Var) (a : Ty) → γ x ≡ Some a → context_of bs x ≡ Some a

within_inside : (γ : Context) (bs : List Ty) (a : Ty) → Within γ bs → Within (extended a γ) (a ∷ bs)
within_inside γ bs a g (bound zero) b e = e
within_inside γ bs a g (bound (suc i)) b e = g (bound i) b e
within_inside γ bs a g (held h) b e = g (held h) b e

copyable_within : (o p : Option Ty) → ((a : Ty) → o ≡ Some a → p ≡ Some a) → DuplicableAt o → Copyable p
copyable_within None p f d = absurd d
copyable_within (Some a) p f d = rw (f a refl) d

claimed : {γ : Context} {m : Term Ty} {t : Ty} → Derives Claimed γ m t → claim_of m ≡ t
claimed (rule_variable p e s) = p
claimed (rule_constant p s) = p
claimed (rule_unit n p e) = p
claimed (rule_function p e d) = p
claimed (rule_duplicable_function n p e u d) = p
claimed (rule_application p s d e) = p
claimed (rule_pair k a b p s q d e) = p
claimed (rule_condition p s d e g) = p
claimed (rule_let k a b p s d e) = p

-- What two parts of a term pair use is copyable.
module _ (bs : List Ty) {γ γ₁ γ₂ : Context} (s : Split γ γ₁ γ₂) (g : Within γ bs) where
  within_left : Within γ₁ bs
  within_left x a e = g x a (some_left a (s x) e)

  within_right : Within γ₂ bs
  within_right x a e = g x a (some_right a (s x) e)

  both_copyable : (f h : Var → Bool) → ((x : Var) → T (f x) → Has (γ₁ x)) → ((x : Var) → T (h x) → Has (γ₂ x)) → T (all_duplicable bs (λ x. f x && h x))
  both_copyable f h p q = all_copyable bs (λ x. f x && h x) (λ i u.
      let v = (T_and (f (bound i)) (h (bound i))).0 u in
      copyable_within (γ (bound i)) (slice_get bs i) (g (bound i)) (has_twice (s (bound i)) (p (bound i) v.0) (q (bound i) v.1)))

used_has : {γ : Context} {m : Term Ty} {t : Ty} → Derives Claimed γ m t → (x : Var) → T (uses m x) → Has (γ x)
used_has {m = m} d x u = in_domain Claimed x d (used_free x m u)

module _ (c : Ty) (n : ℕ) (t : Ty) (q : c ≡ bangs n t) where
  pub core_is : core c ≡ core t
  core_is = ap core q ∙ core_bangs n t

  pub first_is : first c ≡ first t
  first_is = ap first q ∙ first_bangs n t

  pub second_is : second c ≡ second t
  second_is = ap second q ∙ second_bangs n t

  pub marks_is : marks t ≡ 0 → marks c ≡ n
  marks_is e = marks_of c n t e q

infixr 3 ◌&◌
◌&◌ : {A B : Type 0} → A → B → A × B
a & b = (a, b)

function_accepted : (k : ℕ) (bs : List Ty) (c : Ty) (m : Term Ty) (n : ℕ) (a b : Ty) → c ≡ bangs n (arrow a b) → claim_of m ≡ b → length bs + 1 ≤ 32
    → verdict_from (k + 1) (a ∷ bs) m ≡ accepted → (T (positive n) → T (all_duplicable bs (λ x. uses m (under x)))) → verdict_from k bs (lam c m) ≡ accepted
function_accepted k bs c m n a b q r l v u =
    let e₀ = core_is c n (arrow a b) q in
    let e₁ = first_is c n (arrow a b) q in
    let e₂ = marks_is c n (arrow a b) q refl in
    let f : T (function_fits c (claim_of m)) = simp claims (cc) in
    simp then_accepted ((entered k bs (lam c m)).1 (record { stored = tt; room = le→leb _ 32 l; has_binder = tt; fits = f })
    & rw e₁ v
    & (must_accepted _ (fault Captures k) accepted).1 (implies (duplicable c) _ (λ h. u (subst (λ i. T (positive i)) e₂ h)), refl))

pub complete : {γ : Context} {m : Term Ty} {t : Ty} → Derives Claimed γ m t → (k : ℕ) (bs : List Ty) → length bs + nested m ≤ 32 → Within γ bs → verdict_from k bs m ≡ accepted
complete (rule_variable {c = c} {x = bound i} {a = a} p e s) k bs l g =
    let f = g (bound i) a e in
    (entered k bs (var c (bound i))).1 (record { stored = tt; room = le→leb _ 32 l; has_binder = rw f tt; fits = rw f (simp claims (subst (Sub a) (sym p) s)) })
complete (rule_variable {x = held j} {a = a} p e s) k bs l g = absurd (not_some a (g (held j) a e))
complete (rule_constant {c = c} {k = q} p s) k bs l g =
    (entered k bs (const c q)).1 (record { stored = tt; room = le→leb _ 32 l; has_binder = tt; fits = simp claims (subst (Sub (type_of q)) (sym p) s) })
complete (rule_unit {c = c} n p e) k bs l g =
    (entered k bs (star c)).1 (record { stored = tt; room = le→leb _ 32 l; has_binder = tt; fits = simp claims (core_is c n unit (p ∙ e)) })
complete (rule_function {γ = γ} {c = c} {m = m} {a = a} {b = b} p e d) k bs l g =
    function_accepted k bs c m 0 a b (p ∙ e) (claimed d) (omega arith) (complete d (k + 1) (a ∷ bs) (omega arith) (within_inside γ bs a g)) (λ h. absurd h)
complete (rule_duplicable_function {γ = γ} {c = c} {m = m} {a = a} {b = b} n p e u d) k bs l g =
    function_accepted k bs c m (suc n) a b (p ∙ e) (claimed d) (omega arith) (complete d (k + 1) (a ∷ bs) (omega arith) (within_inside γ bs a g))
    (λ h. all_copyable bs (λ x. uses m (under x)) (λ i v. copyable_within (γ (bound i)) (slice_get bs i) (g (bound i)) (u (bound i) (used_free (bound i) (lam c m) v))))
complete (rule_application {c = c} {m = m} {n = n} p s d e) k bs l g =
    let f : T (application_fits c (claim_of m) (claim_of n)) = simp claims (cc (claimed d, claimed e)) in
    simp then_accepted ((entered k bs (app c m n)).1 (record { stored = tt; room = le→leb _ 32 (omega arith); has_binder = tt; fits = f })
    & complete d (k + 1) bs (omega arith) (within_left bs s g)
    & complete e _ bs (omega arith) (within_right bs s g)
    & (must_accepted _ (fault UsedTwice k) accepted).1 (both_copyable bs s g (uses m) (uses n) (used_has d) (used_has e), refl))
complete (rule_pair {c = c} {m = m} {n = n} j a b p s q d e) k bs l g =
    let e₀ = core_is c j (tensor a b) (p ∙ q) in
    let e₁ = first_is c j (tensor a b) (p ∙ q) in
    let e₂ = second_is c j (tensor a b) (p ∙ q) in
    let e₃ = marks_is c j (tensor a b) (p ∙ q) refl in
    let f : T (pair_fits c (claim_of m) (claim_of n)) = simp claims ((cc) & cc (claimed d) & cc (claimed e)) in
    simp then_accepted ((entered k bs (pair c m n)).1 (record { stored = tt; room = le→leb _ 32 (omega arith); has_binder = tt; fits = f })
    & complete d (k + 1) bs (omega arith) (within_left bs s g)
    & complete e _ bs (omega arith) (within_right bs s g)
    & (must_accepted _ (fault UsedTwice k) accepted).1 (both_copyable bs s g (uses m) (uses n) (used_has d) (used_has e), refl))
complete (rule_condition {c = c} {p = r} {m = m} {n = n} p s d e f) k bs l g =
    let o : T (condition_fits c (claim_of r) (claim_of m) (claim_of n)) = simp claims (claimed d & cc (claimed e) & cc (claimed f)) in
    simp then_accepted ((entered k bs (if_then_else c r m n)).1 (record { stored = tt; room = le→leb _ 32 (omega arith); has_binder = tt; fits = o })
    & complete d (k + 1) bs (omega arith) (within_left bs s g)
    & complete e _ bs (omega arith) (within_right bs s g)
    & complete f _ bs (omega arith) (within_right bs s g)
    & (must_accepted _ (fault UsedTwice k) accepted).1 (both_copyable bs s g (uses r) (λ x. uses m x || uses n x) (used_has d) (λ x. from_either (uses m x) (uses n x) (used_has e x) (used_has f x)), refl))
complete (rule_let {γ₂ = γ₂} {c = c} {m = m} {n = n} j a b p s d e) k bs l g =
    let e₀ = core_is (claim_of m) j (tensor a b) (claimed d) in
    let e₁ = first_is (claim_of m) j (tensor a b) (claimed d) in
    let e₂ = second_is (claim_of m) j (tensor a b) (claimed d) in
    let e₃ = marks_is (claim_of m) j (tensor a b) (claimed d) refl in
    let w = within_inside (extended (bangs j a) γ₂) (bangs j a ∷ bs) (bangs j b) (within_inside γ₂ bs (bangs j a) (within_right bs s g)) in
    let o = λ (x : Var) (u : T (uses n (under (under x)))). has_outside (bangs j a) γ₂ x (has_outside (bangs j b) (extended (bangs j a) γ₂) (under x) (used_has e (under (under x)) u)) in
    let f : T (let_fits c (claim_of m) (claim_of n)) = simp claims ((cc) & cc (claimed e)) in
    simp then_accepted ((entered k bs (let_pair c m n)).1 (record { stored = tt; room = le→leb _ 32 (omega arith); has_binder = tt; fits = f })
    & complete d (k + 1) bs (omega arith) (within_left bs s g)
    & rw (e₁, e₂, e₃) (complete e _ (bangs j b ∷ bangs j a ∷ bs) (omega arith) w)
    & (must_accepted _ (fault UsedTwice k) accepted).1 (both_copyable bs s g (uses m) (λ x. uses n (under (under x))) (used_has d) o, refl))

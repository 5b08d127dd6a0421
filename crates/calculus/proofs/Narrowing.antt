-- A derivation carries over to any context that has, at the term's free variables, as much or more, and to any type above.
use Rattle.std.proofs.Common.{◌≡◌, ℕ, zero, suc, ◌⊎◌, Some, None, Option, refl, inl, inr, ⊎_elim}
use Rattle.calculus.specs.Types.{Ty, bang, arrow, tensor, bangs, Sub, sub_bit, sub_arrow, Duplicable}
use Rattle.calculus.specs.Terms.{Var, bound, held, under, lam, Running, Free, free_var, free_lam, free_fun, free_arg, free_left, free_right, free_test, free_then, free_else, free_pair, free_body}
use Rattle.calculus.specs.Contexts.{Context, extended, Shared, to_left, to_right, to_both, Split, DuplicableAt}
use Rattle.calculus.specs.Stripping.{marks}
use Rattle.calculus.specs.Typing.{Derives, Unclaimed, rule_variable, rule_constant, rule_unit, rule_function, rule_duplicable_function, rule_application, rule_pair, rule_condition, rule_let}
use Rattle.calculus.proofs.Subtyping.{Marking, a_bang, no_bang, marking, sub_refl, sub_trans, sub_marks, sub_duplicable, marks_of, pair_above, arrow_above, above_arrow, unit_above}

-- The first has what the second has, at a subtype.
pub data AtLeast : Option Ty → Option Ty → Type 0 where
  no_less : {o : Option Ty} → AtLeast o None
  at_sub : {a b : Ty} → Sub b a → AtLeast (Some b) (Some a)

pub at_least_refl : (o : Option Ty) → AtLeast o o
at_least_refl None = no_less
at_least_refl (Some a) = at_sub (sub_refl a)

pub at_least_some : {o : Option Ty} {a : Ty} → AtLeast o (Some a) → (b : Ty) × (o ≡ Some b) × Sub b a
at_least_some (at_sub {b = b} p) = (b, refl, p)

pub at_least_duplicable : {o u : Option Ty} → AtLeast o u → DuplicableAt u → DuplicableAt o
at_least_duplicable no_less d = elim d [ ]
at_least_duplicable (at_sub p) d = sub_duplicable p d

not_at_least : {a b : Ty} → (Duplicable b → ⊥) → AtLeast (Some b) (Some (bang a)) → AtLeast None (Some (bang a))
not_at_least n (at_sub p) = absurd (n (sub_duplicable p tt))

-- A context's owners follow those of a wider one.
abbrev pub Parts : Type 0 → Type 0 → Option Ty → Option Ty → Option Ty → Type 0
Parts F G d g₁ g₂ = (d₁ : Option Ty) × (d₂ : Option Ty) × Shared d d₁ d₂ × (F → AtLeast d₁ g₁) × (G → AtLeast d₂ g₂)

module _ {F G : Type 0} where
  part_both : (t a : Ty) → Marking t → (F → AtLeast (Some t) (Some (bang a))) → (G → AtLeast (Some t) (Some (bang a))) → Parts F G (Some t) (Some (bang a)) (Some (bang a))
  part_both t a a_bang f g = (_, _, to_both, f, g)
  part_both t a (no_bang n) f g = (_, None, to_left, f, λ y. not_at_least n (g y))

  pub part_at : (d : Option Ty) {g g₁ g₂ : Option Ty} → Shared g g₁ g₂ → (F → AtLeast d g) → (G → AtLeast d g) → Parts F G d g₁ g₂
  part_at d to_left f g = (d, None, to_left, f, λ _. no_less)
  part_at d to_right f g = (None, d, to_right, (λ _. no_less), g)
  part_at None to_both f g = (None, None, to_left, f, g)
  part_at (Some t) (to_both {a = a}) f g = part_both t a (marking t) f g

abbrev pub Narrower : (Var → Type 0) → Context → Context → Type 0
Narrower F δ γ = (x : Var) → F x → AtLeast (δ x) (γ x)

pub parted : (F G : Var → Type 0) (δ : Context) {γ γ₁ γ₂ : Context} → Split γ γ₁ γ₂ → Narrower F δ γ → Narrower G δ γ
    → (δ₁ : Context) × (δ₂ : Context) × Split δ δ₁ δ₂ × Narrower F δ₁ γ₁ × Narrower G δ₂ γ₂
parted F G δ {γ} {γ₁} {γ₂} s f g = ((λ x. (at x).0), (λ x. (at x).1), (λ x. (at x).2), (λ x. (at x).3), (λ x. (at x).4))
  where
    at : (x : Var) → Parts (F x) (G x) (δ x) (γ₁ x) (γ₂ x)
    at x = part_at (δ x) (s x) (f x) (g x)

pub narrower_under : (F : Var → Type 0) {δ γ : Context} {a b : Ty} → Sub a b → ((x : Var) → F (under x) → AtLeast (δ x) (γ x)) → Narrower F (extended a δ) (extended b γ)
narrower_under F p n (bound zero) f = at_sub p
narrower_under F p n (bound (suc i)) f = n (bound i) f
narrower_under F p n (held h) f = n (held h) f

pub lam_at : {δ : Context} {c : Unit {0}} {m : Running} {x y t : Ty} (k : ℕ) → t ≡ bangs k (arrow x y)
    → ((z : Var) → Free z (lam c m) → DuplicableAt (δ z)) → Derives Unclaimed (extended x δ) m y → Derives Unclaimed δ (lam c m) t
lam_at zero e f d = rule_function tt e d
lam_at (suc k) e f d = rule_duplicable_function k tt e f d

pub carry : {γ δ : Context} {m : Running} {a b : Ty} → Derives Unclaimed γ m a → Sub a b → Narrower (λ x. Free x m) δ γ → Derives Unclaimed δ m b
carry {δ = δ} (rule_variable {x = x} c e s) p n =
    let q = at_least_some (rw e at (n x free_var)) in rule_variable tt q.1 (sub_trans q.2 (sub_trans s p))
carry (rule_constant c s) p n = rule_constant tt (sub_trans s p)
carry (rule_unit k c e) p n = rule_unit _ tt (unit_above k e p)
carry (rule_function c e d) p n =
    let q = above_arrow (rw e at p) in rule_function tt q.2 (carry d q.4 (narrower_under _ q.3 (λ x f. n x (free_lam f))))
carry {γ = γ} {δ = δ} {b = b} (rule_duplicable_function k c e f d) p n =
    let q = arrow_above (suc k) e p in
    lam_at (marks b) q.2 (λ x o. at_least_duplicable (n x o) (f x o)) (carry d q.4 (narrower_under _ q.3 (λ x o. n x (free_lam o))))
carry {δ = δ} (rule_application c s d₁ d₂) p n =
    let q = parted _ _ δ s (λ x f. n x (free_fun f)) (λ x f. n x (free_arg f)) in
    rule_application tt q.2 (carry d₁ (sub_arrow (sub_refl _) p) q.3) (carry d₂ (sub_refl _) q.4)
carry {δ = δ} {a = t} {b = u} (rule_pair k a b c s e d₁ d₂) p n =
    let q = parted _ _ δ s (λ x f. n x (free_left f)) (λ x f. n x (free_right f)) in
    let r = pair_above k e p in
    let h = marks_of t k (tensor a b) refl e in
    rule_pair (marks u) r.0 r.1 tt q.2 r.2 (carry d₁ (rw h at (sub_marks p r.3)) q.3) (carry d₂ (rw h at (sub_marks p r.4)) q.4)
carry {δ = δ} (rule_condition {m = m} {n = n'} c s d₁ d₂ d₃) p n =
    let q = parted _ (λ x. Free x m ⊎ Free x n') δ s (λ x f. n x (free_test f)) (λ x. ⊎_elim (λ f. n x (free_then f)) (λ f. n x (free_else f))) in
    rule_condition tt q.2 (carry d₁ sub_bit q.3) (carry d₂ p (λ x f. q.4 x (inl f))) (carry d₃ p (λ x f. q.4 x (inr f)))
carry {δ = δ} (rule_let {n = n'} k a b c s d₁ d₂) p n =
    let q = parted _ _ δ s (λ x f. n x (free_pair f)) (λ x f. n x (free_body f)) in
    rule_let k a b tt q.2 (carry d₁ (sub_refl _) q.3)
    (carry d₂ p (narrower_under (λ x. Free x n') (sub_refl _) (narrower_under (λ x. Free (under x) n') (sub_refl _) q.4)))

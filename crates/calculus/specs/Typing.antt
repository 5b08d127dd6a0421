-- The nine typing rules, in the article's order (ax1), (ax2), (⊤), (λ1), (λ2), (app), (⊗.I), (if),
-- (⊗.E). Each also asks that the node's claim fits the type that it gives. Where a type has marks,
-- the rule has a type t with an equation.
use Rattle.std.specs.Prelude.{◌≡◌, ℕ, suc, Some}
use Rattle.calculus.specs.Types.{Ty, bit, unit, arrow, tensor, bangs, Sub}
use Rattle.calculus.specs.Terms.{Var, Const, type_of, Term, var, const, star, lam, app, pair}
use Rattle.calculus.specs.Terms.{if_then_else, let_pair, Free}
use Rattle.calculus.specs.Contexts.{Context, extended, Split, DuplicableAt}

module _ {C : Type 0} (Claims : C → Ty → Type 0) where
  pub data Derives : Context → Term C → Ty → Type 0 where
    rule_variable : {γ : Context} {c : C} {x : Var} {a t : Ty}
        → Claims c t → γ x ≡ Some a → Sub a t
        → Derives γ (var c x) t
    rule_constant : {γ : Context} {c : C} {k : Const} {t : Ty}
        → Claims c t → Sub (type_of k) t
        → Derives γ (const c k) t
    rule_unit : {γ : Context} {c : C} {t : Ty} (n : ℕ)
        → Claims c t → t ≡ bangs n unit
        → Derives γ (star c) t
    rule_function : {γ : Context} {c : C} {m : Term C} {a b t : Ty}
        → Claims c t → t ≡ arrow a b → Derives (extended a γ) m b
        → Derives γ (lam c m) t
    rule_duplicable_function : {γ : Context} {c : C} {m : Term C} {a b t : Ty} (n : ℕ)
        → Claims c t → t ≡ bangs (suc n) (arrow a b)
        → ((x : Var) → Free x (lam c m) → DuplicableAt (γ x)) → Derives (extended a γ) m b
        → Derives γ (lam c m) t
    rule_application : {γ γ₁ γ₂ : Context} {c : C} {m n : Term C} {a t : Ty}
        → Claims c t → Split γ γ₁ γ₂
        → Derives γ₁ m (arrow a t) → Derives γ₂ n a
        → Derives γ (app c m n) t
    rule_pair : {γ γ₁ γ₂ : Context} {c : C} {m n : Term C} {t : Ty} (k : ℕ) (a b : Ty)
        → Claims c t → Split γ γ₁ γ₂ → t ≡ bangs k (tensor a b)
        → Derives γ₁ m (bangs k a) → Derives γ₂ n (bangs k b)
        → Derives γ (pair c m n) t
    rule_condition : {γ γ₁ γ₂ : Context} {c : C} {p m n : Term C} {t : Ty}
        → Claims c t → Split γ γ₁ γ₂
        → Derives γ₁ p bit → Derives γ₂ m t → Derives γ₂ n t
        → Derives γ (if_then_else c p m n) t
    rule_let : {γ γ₁ γ₂ : Context} {c : C} {m n : Term C} {t : Ty} (k : ℕ) (a b : Ty)
        → Claims c t → Split γ γ₁ γ₂
        → Derives γ₁ m (bangs k (tensor a b))
        → Derives (extended (bangs k b) (extended (bangs k a) γ₂)) n t
        → Derives γ (let_pair c m n) t

-- A stored program has a derivation with its claims: the type that a rule gives is the claim.
abbrev pub Claimed : Ty → Ty → Type 0
Claimed c t = c ≡ t

-- A running term's derivation chooses its types freely.
abbrev pub Unclaimed : Unit {0} → Ty → Type 0
Unclaimed c t = Unit {0}

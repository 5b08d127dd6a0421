-- What a set of used binders shows of a term, and the tests of such sets as the tests of terms.
use Rattle.std.proofs.Common.{◌≡◌, ℕ, suc, ◌+◌, ◌-◌, ◌<◌, Bool, true, false, ◌&&◌, ◌||◌, ◌==◌, not, length, map, sym, refl, ap, ◌∙◌, ap₂, inl, inr, arith}
use Rattle.std.proofs.lemmas.Bool.{cases_eq, eq-eqb, ne_eqb}
use Rattle.std.proofs.lemmas.List.{length-map, length-reverse}
use Rattle.calculus.specs.Stripping.{positive}
use Rattle.calculus.specs.Terms.{Var, bound, under}
use Rattle.checker.specs.Scoping.{in_scope, depth, has, used_below}
use Rattle.checker.specs.declared.scope.Scope.{Scope}
use Rattle.checker.specs.declared.used.Used.{Used}
use Rattle.checker.proofs.Clearing.{alike}
use Rattle.subtyping.specs.Meaning.{meant}
use Rattle.verdict.specs.Faults.{accepted, must, fault}
use Rattle.verdict.specs.Sharing.{apart, uncaptured}
use Rattle.verdict.specs.declared.faults.CheckReason.TheVariants.{UsedTwice, Captures}

-- The set has the variables below d binders that pass the test.
abbrev pub Shows : Used → ℕ → (Var → Bool) → Type 0
Shows u d f = (i : ℕ) → i < d → has u (d - 1 - i) ≡ f (bound i)

pub shows_none : (u : Used) (d : ℕ) (f : Var → Bool) → ((k : ℕ) → has u k ≡ false) → ((i : ℕ) → f (bound i) ≡ false) → Shows u d f
shows_none u d f e n i k = e (d - 1 - i) ∙ sym (n i)

pub shows_only : (u : Used) (d j : ℕ) (f : Var → Bool) → j < d → ((k : ℕ) → has u k ≡ (k == (d - 1 - j))) → (f (bound j) ≡ true) → ((i : ℕ) → (i ≡ j → ⊥) → f (bound i) ≡ false) → Shows u d f
shows_only u d j f l e t n i k =
    e (d - 1 - i)
    ∙ elim (cases_eq i j) [
      | inl z ↦ (ap (λ i. (d - 1 - i) == (d - 1 - j)) z ∙ eq-eqb (d - 1 - j) (d - 1 - j) refl ∙ sym (ap (λ i. f (bound i)) z ∙ t))
      | inr m ↦ (ne_eqb (d - 1 - i) (d - 1 - j) (λ z. m (omega arith)) ∙ sym (n i m))
    ]

pub shows_either : (u l r : Used) (d : ℕ) (f g h : Var → Bool) → ((x : Var) → h x ≡ (f x || g x)) → Shows l d f → Shows r d g → ((k : ℕ) → has u k ≡ (has l k || has r k)) → Shows u d h
shows_either u l r d f g h e a b c i k = c (d - 1 - i) ∙ ap₂ ◌||◌ (a i k) (b i k) ∙ sym (e (bound i))

-- seen from outside a binder
pub shows_outside : (u : Used) (d : ℕ) (f : Var → Bool) → Shows u (d + 1) f → Shows u d (λ x. f (under x))
shows_outside u d f h i k = let q : d - 1 - i ≡ d + 1 - 1 - suc i = omega arith in ap (has u) q ∙ h (suc i) (omega arith)

pub shows_outside_two : (u : Used) (d : ℕ) (f : Var → Bool) → Shows u (d + 2) f → Shows u d (λ x. f (under (under x)))
shows_outside_two u d f h i k = let q : d - 1 - i ≡ d + 2 - 1 - suc (suc i) = omega arith in ap (has u) q ∙ h (suc (suc i)) (omega arith)

-- a scope's depth is the number of the types of its binders
pub depth_is : (s : Scope) → length (in_scope s) ≡ depth s
depth_is s = length-reverse (map meant s.binders.items) ∙ length-map s.binders.items meant

-- The tests made on leaving a node.
module _ (s : Scope) where
  inner : (i : ℕ) → i < length (in_scope s) → i < depth s
  inner i l = omega (arith, depth_is s)

  pub apart_shows : (at : ℕ) (l r : Used) (f g : Var → Bool) → Shows l (depth s) f → Shows r (depth s) g → apart at (in_scope s) (used_below l (depth s)) (used_below r (depth s)) ≡ apart at (in_scope s) f g
  apart_shows at l r f g a b =
      ap (λ b. must b (fault UsedTwice at) accepted) (alike (in_scope s) (λ x. used_below l (depth s) x && used_below r (depth s) x) (λ x. f x && g x) (λ i w. ap₂ ◌&&◌ (a i (inner i w)) (b i (inner i w))))

  pub uncaptured_shows : (at n m : ℕ) (u : Used) (f : Var → Bool) → n ≡ m → Shows u (depth s) f → uncaptured at (in_scope s) n (used_below u (depth s)) ≡ uncaptured at (in_scope s) m f
  uncaptured_shows at n m u f q a =
      ap (λ n. uncaptured at (in_scope s) n (used_below u (depth s))) q
      ∙ ap (λ b. must (not (positive m) || b) (fault Captures at) accepted) (alike (in_scope s) (used_below u (depth s)) f (λ i w. a i (inner i w)))

-- The test of use decides whether a variable occurs free.
use Rattle.std.proofs.Common.{◌≡◌, Bool, true, false, ◌||◌, T, ◌⊎◌, ◌↔◌, ap, inl, inr, eqb→eq}
use lib.Dec.{eqb_refl}
use Rattle.calculus.specs.Terms.{Var, bound, held, under, Term, var, const, star, lam, app, pair, if_then_else, let_pair, Free, free_var, free_lam, free_fun, free_arg, free_left, free_right, free_test, free_then, free_else, free_pair, free_body}
use Rattle.verdict.specs.Uses.{same_variable, uses, UsesAreFree}

pub TOr : (a b : Bool) → T (a || b) ↔ (T a ⊎ T b)
TOr true b = (λ h. inl tt, λ h. tt)
TOr false b = (inr, elim [ inl h ↦ absurd h | inr h ↦ h ])

same_variable_sound : (x y : Var) → T (same_variable x y) → x ≡ y
same_variable_sound (bound i) (bound j) h = ap bound (eqb→eq i j h)
same_variable_sound (bound i) (held k) h = elim h [ ]
same_variable_sound (held i) (bound k) h = elim h [ ]
same_variable_sound (held i) (held j) h = ap held (eqb→eq i j h)

same_variable_refl : (x : Var) → T (same_variable x x)
same_variable_refl (bound i) = eqb_refl i
same_variable_refl (held h) = eqb_refl h

pub from_either : (a b : Bool) {P : Type 0} → (T a → P) → (T b → P) → T (a || b) → P
from_either true b f g h = f tt
from_either false b f g h = g h

pub in_left : (a b : Bool) → T a → T (a || b)
in_left a b h = (TOr a b).1 (inl h)

pub in_right : (a b : Bool) → T b → T (a || b)
in_right a b h = (TOr a b).1 (inr h)

module _ {C : Type 0} where
  pub used_free : (x : Var) (m : Term C) → T (uses m x) → Free x m
  used_free x (var c y) h = rw (same_variable_sound x y h) free_var
  used_free x (const c k) h = elim h [ ]
  used_free x (star c) h = elim h [ ]
  used_free x (lam c m) h = free_lam (used_free (under x) m h)
  used_free x (app c m n) h = from_either (uses m x) (uses n x) (λ u. free_fun (used_free x m u)) (λ u. free_arg (used_free x n u)) h
  used_free x (pair c m n) h = from_either (uses m x) (uses n x) (λ u. free_left (used_free x m u)) (λ u. free_right (used_free x n u)) h
  used_free x (if_then_else c p m n) h =
      from_either (uses p x) (uses m x || uses n x) (λ u. free_test (used_free x p u))
      (from_either (uses m x) (uses n x) (λ u. free_then (used_free x m u)) (λ u. free_else (used_free x n u))) h
  used_free x (let_pair c m n) h =
      from_either (uses m x) (uses n (under (under x))) (λ u. free_pair (used_free x m u)) (λ u. free_body (used_free (under (under x)) n u)) h

  pub free_used : {x : Var} {m : Term C} → Free x m → T (uses m x)
  free_used (free_var {x = x}) = same_variable_refl x
  free_used (free_lam h) = free_used h
  free_used (free_fun h) = in_left _ _ (free_used h)
  free_used (free_arg h) = in_right _ _ (free_used h)
  free_used (free_left h) = in_left _ _ (free_used h)
  free_used (free_right h) = in_right _ _ (free_used h)
  free_used (free_test h) = in_left _ _ (free_used h)
  free_used (free_then {x = x} {p = p} {m = m} {n = n} h) = in_right (uses p x) _ (in_left (uses m x) (uses n x) (free_used h))
  free_used (free_else {x = x} {p = p} {m = m} {n = n} h) = in_right (uses p x) _ (in_right (uses m x) (uses n x) (free_used h))
  free_used (free_pair h) = in_left _ _ (free_used h)
  free_used (free_body h) = in_right _ _ (free_used h)

pub uses_are_free : UsesAreFree
uses_are_free x m = (used_free x m, free_used)

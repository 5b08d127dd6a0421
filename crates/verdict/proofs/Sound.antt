-- What the checker accepts has a derivation with its claims, and at most 32 nested binders.
use Rattle.std.proofs.Common.{◌≡◌, ℕ, zero, suc, ◌+◌, ◌≤◌, not, ◌||◌, T, List, ◌∷◌, length, Some, None, Option, refl, ◌∙◌, arith, leb→le}
use lib.Dec.{eqb_refl}
use Rattle.std.specs.List.{slice_get}
use Rattle.calculus.specs.Types.{Ty, unit, arrow, tensor, bangs}
use Rattle.calculus.specs.Terms.{claim_of, type_of, Var, bound, held, under, Term, var, const, star, lam, app, pair, if_then_else, let_pair, Free, free_lam}
use Rattle.calculus.specs.Contexts.{Context, extended, DuplicableAt}
use Rattle.calculus.specs.Typing.{Derives, Claimed, rule_variable, rule_constant, rule_unit, rule_function, rule_duplicable_function, rule_application, rule_pair, rule_condition, rule_let}
use Rattle.calculus.specs.Stripping.{marks, core, first, second, left_of, right_of, positive, subtype}
use Rattle.verdict.specs.Claims.{variable_fits}
use Rattle.verdict.specs.Faults.{accepted, fault}
use Rattle.verdict.specs.Judging.{verdict_from}
use Rattle.verdict.specs.Sharing.{all_duplicable}
use Rattle.verdict.specs.Uses.{uses, nested}
use Rattle.verdict.specs.declared.faults.CheckReason.TheVariants.{UsedTwice, Captures}
use Rattle.verdict.proofs.Accepting.{then_accepted, must_accepted, entered}
use Rattle.calculus.proofs.Stripping.{T_and, same_exact, subtype_exact}
use Rattle.calculus.proofs.Subtyping.{under_marks_is}
use Rattle.verdict.proofs.Uses.{in_left, in_right, free_used}
use Rattle.verdict.proofs.Parting.{in_domain, copyable, copyable_duplicable, Agrees, agrees_inside, parted, left_agrees, right_agrees}

pub variable_fitted : (c : Ty) (o : Option Ty) → T (variable_fits o c) → (a : Ty) × (o ≡ Some a) × T (subtype a c)
variable_fitted c None h = elim h [ ]
variable_fitted c (Some a) h = (a, refl, h)

-- the claims of a node that is entered, as equations
pub ruleset claims = (same_exact, subtype_exact, T_and)

module _ (γ : Context) (bs : List Ty) (c : Ty) (m : Term Ty) (a b : Ty) (d : Derives Claimed (extended a γ) m b) (g : Agrees γ bs (λ x. uses m (under x))) where
  outer_duplicable : T (all_duplicable bs (λ x. uses m (under x))) → (x : Var) → Free x (lam c m) → DuplicableAt (γ x)
  outer_duplicable u x (free_lam f) =
      copyable_duplicable (γ x) (in_domain Claimed {γ = γ} x (rule_function {c = arrow a b} refl refl d) (free_lam f))
      (rw (g x (free_used f)) (copyable bs (λ y. uses m (under y)) u x (free_used f)))

  function_by_marks : (n : ℕ) → c ≡ bangs n (arrow a b) → T (not (positive n) || all_duplicable bs (λ x. uses m (under x))) → Derives Claimed γ (lam c m) c
  function_by_marks zero e u = rule_function refl e d
  function_by_marks (suc n) e u = rule_duplicable_function n refl e (outer_duplicable u) d

pub sound : (k : ℕ) (bs : List Ty) (m : Term Ty) (γ : Context) → verdict_from k bs m ≡ accepted → Agrees γ bs (uses m) → Derives Claimed γ m (claim_of m)
sound k bs (var c (bound i)) γ h g =
    let v = variable_fitted c (slice_get bs i) ((entered k bs (var c (bound i))).0 h).fits in rule_variable refl (g (bound i) (eqb_refl i) ∙ v.1) ((subtype_exact v.0 c).0 v.2)
sound k bs (var c (held j)) γ h g = absurd ((entered k bs (var c (held j))).0 h).stored
sound k bs (const c q) γ h g = rule_constant refl ((subtype_exact (type_of q) c).0 ((entered k bs (const c q)).0 h).fits)
sound k bs (star c) γ h g = rule_unit (marks c) refl (under_marks_is c unit ((same_exact (core c) unit).0 ((entered k bs (star c)).0 h).fits))
sound k bs (lam c m) γ h g =
    let v = simp then_accepted at h in
    let e = (same_exact (core c) (arrow (first c) (claim_of m))).0 ((entered k bs (lam c m)).0 v.0).fits in
    function_by_marks γ bs c m (first c) (claim_of m) (sound (k + 1) (first c ∷ bs) m (extended (first c) γ) v.1.0 (agrees_inside γ bs (first c) (uses m) g)) g
    (marks c) (under_marks_is c (arrow (first c) (claim_of m)) e) ((must_accepted _ (fault Captures k) accepted).0 v.1.1).0
sound k bs (app c m n) γ h g =
    let v = simp then_accepted at h in
    let e = (same_exact (claim_of m) (arrow (claim_of n) c)).0 ((entered k bs (app c m n)).0 v.0).fits in
    rule_application refl (parted γ bs (uses m) (uses n) g ((must_accepted _ (fault UsedTwice k) accepted).0 v.1.1.1).0)
    (rw e at (sound (k + 1) bs m _ v.1.0 (left_agrees γ bs (uses m) (uses n) g)))
    (sound _ bs n _ v.1.1.0 (right_agrees γ bs (uses m) (uses n) g))
sound k bs (pair c m n) γ h g =
    let v = simp then_accepted at h in
    let e = simp claims at ((entered k bs (pair c m n)).0 v.0).fits in
    rule_pair (marks c) (first c) (second c) refl (parted γ bs (uses m) (uses n) g ((must_accepted _ (fault UsedTwice k) accepted).0 v.1.1.1).0) (under_marks_is c (tensor (first c) (second c)) e.0)
    (rw e.1.0 at (sound (k + 1) bs m _ v.1.0 (left_agrees γ bs (uses m) (uses n) g)))
    (rw e.1.1 at (sound _ bs n _ v.1.1.0 (right_agrees γ bs (uses m) (uses n) g)))
sound k bs (if_then_else c p m n) γ h g =
    let v = simp then_accepted at h in
    let e = simp claims at ((entered k bs (if_then_else c p m n)).0 v.0).fits in
    let r = right_agrees γ bs (uses p) (λ x. uses m x || uses n x) g in
    rule_condition refl (parted γ bs (uses p) (λ x. uses m x || uses n x) g ((must_accepted _ (fault UsedTwice k) accepted).0 v.1.1.1.1).0)
    (rw e.0 at (sound (k + 1) bs p _ v.1.0 (left_agrees γ bs (uses p) (λ x. uses m x || uses n x) g)))
    (rw e.1.0 at (sound _ bs m _ v.1.1.0 (λ x u. r x (in_left _ _ u))))
    (rw e.1.1 at (sound _ bs n _ v.1.1.1.0 (λ x u. r x (in_right _ _ u))))
sound k bs (let_pair c m n) γ h g =
    let v = simp then_accepted at h in
    let e = simp claims at ((entered k bs (let_pair c m n)).0 v.0).fits in
    let d = claim_of m in
    let r = right_agrees γ bs (uses m) (λ x. uses n (under (under x))) g in
    rule_let (marks d) (first d) (second d) refl (parted γ bs (uses m) (λ x. uses n (under (under x))) g ((must_accepted _ (fault UsedTwice k) accepted).0 v.1.1.1).0)
    (rw (under_marks_is d (tensor (first d) (second d)) e.0) at (sound (k + 1) bs m _ v.1.0 (left_agrees γ bs (uses m) (λ x. uses n (under (under x))) g)))
    (rw e.1 at (sound _ _ n _ v.1.1.0 (agrees_inside _ (left_of d ∷ bs) (right_of d) (uses n) (agrees_inside _ bs (left_of d) (λ x. uses n (under x)) r))))

pub sound_nested : (k : ℕ) (bs : List Ty) (m : Term Ty) → verdict_from k bs m ≡ accepted → length bs ≤ 32 → length bs + nested m ≤ 32
sound_nested k bs (var c x) h l = omega arith
sound_nested k bs (const c q) h l = omega arith
sound_nested k bs (star c) h l = omega arith
sound_nested k bs (lam c m) h l =
    let v = simp then_accepted at h in
    let r = leb→le (length bs + 1) 32 ((entered k bs (lam c m)).0 v.0).room in
    let i = sound_nested (k + 1) (first c ∷ bs) m v.1.0 (omega arith) in
    omega arith
sound_nested k bs (app c m n) h l =
    let v = simp then_accepted at h in
    let i = sound_nested _ bs m v.1.0 l in
    let j = sound_nested _ bs n v.1.1.0 l in
    omega arith
sound_nested k bs (pair c m n) h l =
    let v = simp then_accepted at h in
    let i = sound_nested _ bs m v.1.0 l in
    let j = sound_nested _ bs n v.1.1.0 l in
    omega arith
sound_nested k bs (if_then_else c p m n) h l =
    let v = simp then_accepted at h in
    let i = sound_nested _ bs p v.1.0 l in
    let j = sound_nested _ bs m v.1.1.0 l in
    let q = sound_nested _ bs n v.1.1.1.0 l in
    omega arith
sound_nested k bs (let_pair c m n) h l =
    let v = simp then_accepted at h in
    let r = leb→le (length bs + 2) 32 ((entered k bs (let_pair c m n)).0 v.0).room in
    let i = sound_nested _ bs m v.1.0 l in
    let j = sound_nested _ (right_of (claim_of m) ∷ left_of (claim_of m) ∷ bs) n v.1.1.0 (omega arith) in
    omega arith

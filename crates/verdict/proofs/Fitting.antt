-- What the tests of a node decide, in the words of the sheet.
use Rattle.std.proofs.Common.{◌≡◌, ℕ, zero, suc, ◌<◌, ◌≤◌, Bool, true, false, not, ◌||◌, T, ◌↔◌, List, [], ◌∷◌, length, Some, None, inl, inr, sym, refl, arith}
use Rattle.std.specs.List.{slice_get}
use Rattle.std.proofs.lemmas.Bool.{and_cases, or_parts, not-false, false≢true}
use Rattle.calculus.specs.Types.{Ty, unit, arrow, tensor, Duplicable}
use Rattle.calculus.specs.Terms.{type_of, Var, bound, held, under, Term, var, const, star, lam, app, pair, if_then_else, let_pair, claim_of}
use Rattle.calculus.specs.Stripping.{marks, core, first, second, duplicable}
use Rattle.calculus.proofs.Stripping.{same_exact, subtype_exact}
use Rattle.calculus.proofs.Subtyping.{under_marks_is}
use Rattle.verdict.specs.Claims.{claims_fit, function_fits, pair_fits}
use Rattle.verdict.specs.Sharing.{all_duplicable}
use Rattle.verdict.specs.Sheet.{Fits, fits_variable, fits_constant, fits_unit, fits_function, fits_application, fits_pair, fits_condition, fits_let, Single}
use Rattle.verdict.proofs.Complete.{core_is, first_is, second_is, marks_is}
use Rattle.verdict.proofs.Parting.{copyable, duplicable_exact}
use Rattle.verdict.proofs.Sound.{variable_fitted, claims}

pub T_false : (b : Bool) → (T b → ⊥) → b ≡ false
T_false true h = absurd (h tt)
T_false false h = refl

pub not_T : (b : Bool) → b ≡ false → T b → ⊥
not_T true e h = false≢true (sym e)
not_T false e h = h

pub T_from : (b : Bool) → b ≡ true → T b
T_from true e = tt
T_from false e = absurd (false≢true e)

-- The test of the claims decides whether they fit.
pub fits_exact : (bs : List Ty) (m : Term Ty) → T (claims_fit bs m) ↔ Fits bs m
fits_exact bs (var c (bound i)) = (
  λ h. let v = variable_fitted c (slice_get bs i) h in fits_variable v.0 v.1 ((subtype_exact v.0 c).0 v.2),
  elim [ fits_variable a e s ↦ rw e ((subtype_exact a c).1 s) ],
)
fits_exact bs (var c (held h)) = (λ h. elim h [ ], elim [ ])
fits_exact bs (const c k) = (λ h. fits_constant ((subtype_exact (type_of k) c).0 h), elim [ fits_constant s ↦ (subtype_exact (type_of k) c).1 s ])
fits_exact bs (star c) = (
  λ h. fits_unit (marks c) (under_marks_is c unit ((same_exact (core c) unit).0 h)),
  elim [ fits_unit i e ↦ (same_exact (core c) unit).1 (core_is c i unit e) ],
)
fits_exact bs (lam c m) = (
  λ h. fits_function (marks c) (first c) (under_marks_is c (arrow (first c) (claim_of m)) ((same_exact (core c) (arrow (first c) (claim_of m))).0 h)),
  elim [
    | fits_function i a e ↦
        let e₀ = core_is c i (arrow a (claim_of m)) e in
        let e₁ = first_is c i (arrow a (claim_of m)) e in
        let f : T (function_fits c (claim_of m)) = simp claims (cc) in
        f
  ],
)
fits_exact bs (app c m n) = (
  λ h. fits_application ((same_exact (claim_of m) (arrow (claim_of n) c)).0 h),
  elim [ fits_application e ↦ (same_exact (claim_of m) (arrow (claim_of n) c)).1 e ],
)
fits_exact bs (pair c m n) = (
  λ h. let e = simp claims at h in fits_pair (marks c) (first c) (second c) (under_marks_is c (tensor (first c) (second c)) e.0) e.1.0 e.1.1,
  elim [
    | fits_pair i a b e f g ↦
        let e₀ = core_is c i (tensor a b) e in
        let e₁ = first_is c i (tensor a b) e in
        let e₂ = second_is c i (tensor a b) e in
        let e₃ = marks_is c i (tensor a b) e refl in
        let h : T (pair_fits c (claim_of m) (claim_of n)) = simp claims ((cc), ((cc), (cc))) in
        h
  ],
)
fits_exact bs (if_then_else c q m n) = (
  λ h. let e = simp claims at h in fits_condition e.0 e.1.0 e.1.1,
  elim [ fits_condition e f g ↦ simp claims (e, (f, g)) ],
)
fits_exact bs (let_pair c m n) = (
  λ h. let d = claim_of m in let e = simp claims at h in fits_let (marks d) (first d) (second d) (under_marks_is d (tensor (first d) (second d)) e.0) e.1,
  elim [
    | fits_let i a b e f ↦
        let d = claim_of m in
        let e₀ = core_is d i (tensor a b) e in
        let e₁ = first_is d i (tensor a b) e in
        let e₂ = second_is d i (tensor a b) e in
        let h : T (claims_fit bs (let_pair c m n)) = simp claims ((cc), f) in
        h
  ],
)

-- a variable counts within the binders, or past them
pub some_binder : (bs : List Ty) (i : ℕ) → i < length bs → (a : Ty) × (slice_get bs i ≡ Some a)
some_binder [] i l = absurd (omega arith)
some_binder (b ∷ bs) zero l = (b, refl)
some_binder (b ∷ bs) (suc i) l = some_binder bs i (omega arith)

pub no_binder : (bs : List Ty) (i : ℕ) → length bs ≤ i → slice_get bs i ≡ None
no_binder [] i l = refl
no_binder (b ∷ bs) zero l = absurd (omega arith)
no_binder (b ∷ bs) (suc i) l = no_binder bs i (omega arith)

-- Where not each variable that is used is duplicable, one is used that is not.
pub one_single : (bs : List Ty) (f : Var → Bool) → all_duplicable bs f ≡ false → (i : ℕ) × (a : Ty) × T (f (bound i)) × (slice_get bs i ≡ Some a) × (Duplicable a → ⊥)
one_single [] f e = absurd (false≢true (sym e))
one_single (b ∷ bs) f e = elim (and_cases (not (f (bound 0)) || duplicable b) (all_duplicable bs (λ x. f (under x))) e) [
  | inl h ↦ (
      let p = or_parts (not (f (bound 0))) (duplicable b) h in
      (0, b, T_from (f (bound 0)) (not-false (f (bound 0)) p.0), refl, λ d. not_T (duplicable b) p.1 ((duplicable_exact b).1 d))
      )
  | inr h ↦ (let r = one_single bs (λ x. f (under x)) h in (suc r.0, r.1, r.2, r.3, r.4))
]

pub a_single : (bs : List Ty) (f : Var → Bool) → all_duplicable bs f ≡ false → (x : Var) × T (f x) × Single bs x
a_single bs f e = let r = one_single bs f e in (bound r.0, r.2, (r.1, r.3, r.4))

pub no_single : (bs : List Ty) (f : Var → Bool) (x : Var) → T (all_duplicable bs f) → T (f x) → Single bs x → ⊥
no_single bs f x h u s = s.2 (rw s.1 at (copyable bs f h x u))

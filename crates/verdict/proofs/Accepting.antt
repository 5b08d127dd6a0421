-- When a verdict made of tests in a row accepts.
use Rattle.std.proofs.Common.{◌≡◌, ℕ, ◌+◌, Bool, true, false, T, leb, ◌↔◌, List, length, Ok, Err, sym, refl, subst}
use Rattle.calculus.specs.Types.{Ty}
use Rattle.calculus.specs.Terms.{Term}
use Rattle.verdict.specs.Claims.{claims_fit}
use Rattle.verdict.specs.Faults.{Verdict, accepted, must, ◌then◌, fault}
use Rattle.verdict.specs.Judging.{binders_of, is_stored, is_bound, entering}
use Rattle.verdict.specs.declared.faults.CheckFault.{CheckFault}
use Rattle.verdict.specs.declared.faults.CheckReason.TheVariants.{BadCell, TooDeep, NoBinder, WrongClaim}

abbrev IsAccepted : Verdict → Type 0
IsAccepted (Ok x) = Unit {0}
IsAccepted (Err f) = ⊥

pub not_refused : (f : CheckFault) → Err f ≡ accepted → ⊥
not_refused f e = subst IsAccepted (sym e) tt

pub then_accepted : (v w : Verdict) → (v then w ≡ accepted) ↔ ((v ≡ accepted) × (w ≡ accepted))
then_accepted (Ok x) w = (λ h. (refl, h), λ h. h.1)
then_accepted (Err f) w = (λ h. absurd (not_refused f h), λ h. absurd (not_refused f h.0))

pub must_accepted : (b : Bool) (f : CheckFault) (v : Verdict) → (must b f v ≡ accepted) ↔ (T b × (v ≡ accepted))
must_accepted true f v = (λ h. (tt, h), λ h. h.1)
must_accepted false f v = (λ h. absurd (not_refused f h), λ h. absurd h.0)

-- what a node that is entered has passed
pub record Entered (bs : List Ty) (m : Term Ty) : Type 0 where
  pub stored : T (is_stored m)
  pub room : T (leb (length bs + binders_of m) 32)
  pub has_binder : T (is_bound bs m)
  pub fits : T (claims_fit bs m)

pub entered : (k : ℕ) (bs : List Ty) (m : Term Ty) → (entering k bs m ≡ accepted) ↔ Entered bs m
entered k bs m = (
  λ h.
      let p = (must_accepted (is_stored m) (fault BadCell k) _).0 h in
      let q = (must_accepted (leb (length bs + binders_of m) 32) (fault TooDeep k) _).0 p.1 in
      let r = (must_accepted (is_bound bs m) (fault NoBinder k) _).0 q.1 in
      record { stored = p.0; room = q.0; has_binder = r.0; fits = ((must_accepted (claims_fit bs m) (fault WrongClaim k) accepted).0 r.1).0 },
  λ e.
      (must_accepted (is_stored m) (fault BadCell k) _).1 (
        e.stored,
        (must_accepted (leb (length bs + binders_of m) 32) (fault TooDeep k) _).1 (
          e.room,
          (must_accepted (is_bound bs m) (fault NoBinder k) _).1 (
            e.has_binder,
            (must_accepted (claims_fit bs m) (fault WrongClaim k) accepted).1 (e.fits, refl),
          ),
        ),
      ),
)

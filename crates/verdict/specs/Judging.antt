-- The verdict on a term, in tree order: a node's tests, then its parts, then what the parts share.
use Rattle.std.specs.Prelude.{◌≡◌, ℕ, ◌+◌, ◌≤◌, ◌↔◌, nat_le}
use Rattle.std.specs.Prelude.{Bool, true, false, ◌||◌, List, [], ◌∷◌, length, is_some}
use Rattle.calculus.specs.Types.{Ty}
use Rattle.calculus.specs.Terms.{bound, held, under, claim_of, size}
use Rattle.calculus.specs.Terms.{Term, var, const, star, lam, app, pair, if_then_else, let_pair}
use Rattle.calculus.specs.Contexts.{empty}
use Rattle.calculus.specs.Typing.{Derives, Claimed}
use Rattle.calculus.specs.Stripping.{marks, first, left_of, right_of}
use Rattle.verdict.specs.Claims.{context_of, claims_fit}
use Rattle.verdict.specs.Faults.{Verdict, accepted, must, ◌then◌, fault}
use Rattle.verdict.specs.Sharing.{apart, uncaptured}
use Rattle.verdict.specs.Uses.{uses, nested}
use Rattle.verdict.specs.declared.faults.CheckReason.TheVariants.{BadCell, TooDeep}
use Rattle.verdict.specs.declared.faults.CheckReason.TheVariants.{NoBinder, WrongClaim}

-- how many binders a node puts in scope
abbrev pub binders_of : Term Ty → ℕ
binders_of (var c x) = 0
binders_of (const c k) = 0
binders_of (star c) = 0
binders_of (lam c m) = 1
binders_of (app c m n) = 0
binders_of (pair c m n) = 0
binders_of (if_then_else c p m n) = 0
binders_of (let_pair c m n) = 2

-- no stored program holds the name of a qubit
abbrev pub is_stored : Term Ty → Bool
is_stored (var c (bound i)) = true
is_stored (var c (held h)) = false
is_stored (const c k) = true
is_stored (star c) = true
is_stored (lam c m) = true
is_stored (app c m n) = true
is_stored (pair c m n) = true
is_stored (if_then_else c p m n) = true
is_stored (let_pair c m n) = true

-- a variable has a binder
abbrev pub is_bound : List Ty → Term Ty → Bool
is_bound bs (var c x) = is_some (context_of bs x)
is_bound bs (const c k) = true
is_bound bs (star c) = true
is_bound bs (lam c m) = true
is_bound bs (app c m n) = true
is_bound bs (pair c m n) = true
is_bound bs (if_then_else c p m n) = true
is_bound bs (let_pair c m n) = true

-- the tests of the node at cell k before its parts, below binders with these types
abbrev pub entering : ℕ → List Ty → Term Ty → Verdict
entering k bs m =
    must (is_stored m) (fault BadCell k)
    (must (nat_le (length bs + binders_of m) 32) (fault TooDeep k)
    (must (is_bound bs m) (fault NoBinder k)
    (must (claims_fit bs m) (fault WrongClaim k) accepted)))

-- The verdict on the term whose first cell is k, below binders with these types, the nearest first.
abbrev pub verdict_from : ℕ → List Ty → Term Ty → Verdict
verdict_from k bs (var c x) = entering k bs (var c x)
verdict_from k bs (const c q) = entering k bs (const c q)
verdict_from k bs (star c) = entering k bs (star c)
verdict_from k bs (lam c m) =
    entering k bs (lam c m)
    then verdict_from (k + 1) (first c ∷ bs) m
    then uncaptured k bs (marks c) (λ x. uses m (under x))
verdict_from k bs (app c m n) =
    entering k bs (app c m n)
    then verdict_from (k + 1) bs m
    then verdict_from (k + 1 + size m) bs n
    then apart k bs (uses m) (uses n)
verdict_from k bs (pair c m n) =
    entering k bs (pair c m n)
    then verdict_from (k + 1) bs m
    then verdict_from (k + 1 + size m) bs n
    then apart k bs (uses m) (uses n)
verdict_from k bs (if_then_else c p m n) =
    entering k bs (if_then_else c p m n)
    then verdict_from (k + 1) bs p
    then verdict_from (k + 1 + size p) bs m
    then verdict_from (k + 1 + size p + size m) bs n
    then apart k bs (uses p) (λ x. uses m x || uses n x)
verdict_from k bs (let_pair c m n) =
    entering k bs (let_pair c m n)
    then verdict_from (k + 1) bs m
    then verdict_from (k + 1 + size m) (right_of (claim_of m) ∷ left_of (claim_of m) ∷ bs) n
    then apart k bs (uses m) (λ x. uses n (under (under x)))

-- the verdict on a program's term
abbrev pub verdict : Term Ty → Verdict
verdict m = verdict_from 0 [] m

-- Accepted are just the terms that have a derivation with their claims and nest up to 32 binders.
abbrev pub AcceptanceIsDerivability : Type 0
AcceptanceIsDerivability = (m : Term Ty)
    → (verdict m ≡ accepted) ↔ ((nested m ≤ 32) × Derives Claimed empty m (claim_of m))

-- The same below binders.
abbrev pub AcceptanceIsDerivabilityBelow : Type 0
AcceptanceIsDerivabilityBelow = (k : ℕ) (bs : List Ty) (m : Term Ty) → length bs ≤ 32
    → (verdict_from k bs m ≡ accepted)
    ↔ ((length bs + nested m ≤ 32) × Derives Claimed (context_of bs) m (claim_of m))

-- The sheet of refusals of a term: the rows, one constructor to a row, and the order in which they
-- are tried.
use Rattle.std.specs.Prelude.{◌≡◌, ℕ, ◌+◌, ◌<◌, ◌≤◌, ◌⊎◌, ◌↔◌, List, [], ◌∷◌, length, Some, Ok, Err}
use Rattle.std.specs.List.{slice_get}
use Rattle.calculus.specs.Types.{Ty, bit, unit, bangs, arrow, tensor, Sub, Duplicable}
use Rattle.calculus.specs.Terms.{Const, type_of, Var, bound, held, under, Free, claim_of, size}
use Rattle.calculus.specs.Terms.{Term, var, const, star, lam, app, pair, if_then_else, let_pair}
use Rattle.verdict.specs.Claims.{context_of}
use Rattle.verdict.specs.Faults.{Verdict, number_of, fault}
use Rattle.verdict.specs.Judging.{binders_of, verdict}
use Rattle.verdict.specs.declared.faults.CheckReason.{CheckReason}
use Rattle.verdict.specs.declared.faults.CheckReason.TheVariants.{BadCell, TooDeep, NoBinder}
use Rattle.verdict.specs.declared.faults.CheckReason.TheVariants.{WrongClaim, UsedTwice, Captures}
use Rattle.verdict.specs.declared.faults.CheckFault.{CheckFault}

-- The term p stands at the cell j, below binders of the types ds, the nearest first, inside a term
-- with a first cell and binders of its own.
module _ (j : ℕ) (ds : List Ty) (p : Term Ty) where
  pub data Inside : ℕ → List Ty → Term Ty → Type 0 where
    itself : Inside j ds p
    of_body : {k : ℕ} {bs : List Ty} {c : Ty} {m : Term Ty} (i : ℕ) (a b : Ty)
        → c ≡ bangs i (arrow a b) → Inside (k + 1) (a ∷ bs) m → Inside k bs (lam c m)
    of_function : {k : ℕ} {bs : List Ty} {c : Ty} {m n : Term Ty} → Inside (k + 1) bs m
        → Inside k bs (app c m n)
    of_argument : {k : ℕ} {bs : List Ty} {c : Ty} {m n : Term Ty} → Inside (k + 1 + size m) bs n
        → Inside k bs (app c m n)
    of_left : {k : ℕ} {bs : List Ty} {c : Ty} {m n : Term Ty} → Inside (k + 1) bs m
        → Inside k bs (pair c m n)
    of_right : {k : ℕ} {bs : List Ty} {c : Ty} {m n : Term Ty} → Inside (k + 1 + size m) bs n
        → Inside k bs (pair c m n)
    of_condition : {k : ℕ} {bs : List Ty} {c : Ty} {q m n : Term Ty} → Inside (k + 1) bs q
        → Inside k bs (if_then_else c q m n)
    of_one : {k : ℕ} {bs : List Ty} {c : Ty} {q m n : Term Ty} → Inside (k + 1 + size q) bs m
        → Inside k bs (if_then_else c q m n)
    of_zero : {k : ℕ} {bs : List Ty} {c : Ty} {q m n : Term Ty}
        → Inside (k + 1 + size q + size m) bs n → Inside k bs (if_then_else c q m n)
    of_given : {k : ℕ} {bs : List Ty} {c : Ty} {m n : Term Ty} → Inside (k + 1) bs m
        → Inside k bs (let_pair c m n)
    of_use : {k : ℕ} {bs : List Ty} {c : Ty} {m n : Term Ty} (i : ℕ) (a b : Ty)
        → claim_of m ≡ bangs i (tensor a b)
        → Inside (k + 1 + size m) (bangs i b ∷ bangs i a ∷ bs) n → Inside k bs (let_pair c m n)

-- The claims of a term and of its parts are as its typing rule asks, below binders of the types bs.
pub data Fits (bs : List Ty) : Term Ty → Type 0 where
  fits_variable : {i : ℕ} {c : Ty} (a : Ty) → slice_get bs i ≡ Some a → Sub a c
      → Fits bs (var c (bound i))
  fits_constant : {c : Ty} {k : Const} → Sub (type_of k) c → Fits bs (const c k)
  fits_unit : {c : Ty} (i : ℕ) → c ≡ bangs i unit → Fits bs (star c)
  fits_function : {c : Ty} {m : Term Ty} (i : ℕ) (a : Ty) → c ≡ bangs i (arrow a (claim_of m))
      → Fits bs (lam c m)
  fits_application : {c : Ty} {m n : Term Ty} → claim_of m ≡ arrow (claim_of n) c
      → Fits bs (app c m n)
  fits_pair : {c : Ty} {m n : Term Ty} (i : ℕ) (a b : Ty) → c ≡ bangs i (tensor a b)
      → claim_of m ≡ bangs i a → claim_of n ≡ bangs i b → Fits bs (pair c m n)
  fits_condition : {c : Ty} {q m n : Term Ty} → claim_of q ≡ bit → claim_of m ≡ c → claim_of n ≡ c
      → Fits bs (if_then_else c q m n)
  fits_let : {c : Ty} {m n : Term Ty} (i : ℕ) (a b : Ty) → claim_of m ≡ bangs i (tensor a b)
      → claim_of n ≡ c → Fits bs (let_pair c m n)

-- The variable is free in two parts of the term. The branches of a condition count as one.
pub data InTwo (x : Var) : Term Ty → Type 0 where
  function_and_argument : {c : Ty} {m n : Term Ty} → Free x m → Free x n → InTwo x (app c m n)
  left_and_right : {c : Ty} {m n : Term Ty} → Free x m → Free x n → InTwo x (pair c m n)
  condition_and_branch : {c : Ty} {q m n : Term Ty} → Free x q → Free x m ⊎ Free x n
      → InTwo x (if_then_else c q m n)
  given_and_use : {c : Ty} {m n : Term Ty} → Free x m → Free (under (under x)) n
      → InTwo x (let_pair c m n)

-- the variable has a binder, and its type is not duplicable
abbrev pub Single : List Ty → Var → Type 0
Single bs x = (a : Ty) × (context_of bs x ≡ Some a) × (Duplicable a → ⊥)

-- The row of this reason holds for a term below binders of the types bs.
pub data Row (bs : List Ty) : CheckReason → Term Ty → Type 0 where
  a_qubit : {c : Ty} {h : ℕ} → Row bs BadCell (var c (held h))
  a_binder_too_many : {m : Term Ty} → 32 < length bs + binders_of m → Row bs TooDeep m
  no_such_binder : {c : Ty} {i : ℕ} → length bs ≤ i → Row bs NoBinder (var c (bound i))
  against_its_rule : {m : Term Ty} → (Fits bs m → ⊥) → Row bs WrongClaim m
  in_two_parts : {m : Term Ty} (x : Var) → InTwo x m → Single bs x → Row bs UsedTwice m
  captured : {c : Ty} {m : Term Ty} (x : Var) → Duplicable c → Free x (lam c m) → Single bs x
      → Row bs Captures (lam c m)

-- Where a row holds: the first cell of its term, and one past the last.
pub record Spot : Type 0 where
  pub reason : CheckReason
  pub cell : ℕ
  pub past : ℕ

-- a row holds at the spot, of the term m at the cell k below binders of the types bs
abbrev pub HoldsFrom : ℕ → List Ty → Term Ty → Spot → Type 0
HoldsFrom k bs m s = (ds : List Ty) × (p : Term Ty) × Inside s.cell ds p k bs m × Row ds s.reason p
    × (s.past ≡ s.cell + size p)

-- Which of two rows is first: terms go in the order of their cells, one inside another goes after
-- the rows up to 26 of that one and before its 27 and 28, and the rows of one term go by number.
pub data Before : Spot → Spot → Type 0 where
  lower_number : {s t : Spot} → s.cell ≡ t.cell → number_of s.reason < number_of t.reason
      → Before s t
  earlier_cells : {s t : Spot} → s.past ≤ t.cell → Before s t
  before_its_parts : {s t : Spot} → number_of s.reason ≤ 26 → s.cell < t.cell → t.cell < s.past
      → Before s t
  after_its_parts : {s t : Spot} → 27 ≤ number_of t.reason → t.cell < s.cell → s.cell < t.past
      → Before s t

abbrev pub fault_at : Spot → CheckFault
fault_at s = fault s.reason s.cell

-- The answer that a sheet gives: acceptance where no row holds, and else the fault of one that
-- holds, before which none does.
module _ {S : Type 0} (Holds : S → Type 0) (Earlier : S → S → Type 0) (fault_of : S → CheckFault)
  where
    abbrev pub Answers : Verdict → Type 0
    Answers (Ok x) = (s : S) → Holds s → ⊥
    Answers (Err f) = (s : S) × Holds s × (f ≡ fault_of s) × ((t : S) → Holds t → Earlier t s → ⊥)

-- the answer of the sheet on the term m at the cell k
abbrev pub AnswersFrom : ℕ → List Ty → Term Ty → Verdict → Type 0
AnswersFrom k bs m v = Answers (HoldsFrom k bs m) Before fault_at v

-- The verdict is the first row that holds, and no other answer is.
abbrev pub FirstRowAnswers : Type 0
FirstRowAnswers = (m : Term Ty) (v : Verdict) → AnswersFrom 0 [] m v ↔ (verdict m ≡ v)

-- The sheet allows one answer only.
use Rattle.std.proofs.Common.{◌≡◌, ℕ, ◌<◌, ◌⊎◌, cond, eqb, [], Ok, Err, inl, inr, sym, refl, ap, ap₂, ◌∙◌, subst, arith}
use Rattle.std.proofs.lemmas.Bool.{cases_lt}
use Rattle.verdict.specs.Faults.{Verdict, number_of, fault}
use Rattle.verdict.specs.Judging.{verdict}
use Rattle.verdict.specs.Sheet.{Spot, Before, lower_number, earlier_cells, before_its_parts, after_its_parts, fault_at, Answers, AnswersFrom, FirstRowAnswers}
use Rattle.verdict.specs.declared.faults.CheckReason.{CheckReason}
use Rattle.verdict.specs.declared.faults.CheckReason.TheVariants.{TooManyCells, BadCell, NotWhole, ClaimOutside, TooDeep, NoBinder, WrongClaim, UsedTwice, Captures}
use Rattle.verdict.specs.declared.faults.CheckFault.{CheckFault}
use Rattle.verdict.proofs.Sheet.{first_row_from}

abbrev by_its_number : ℕ → CheckReason
by_its_number n =
    cond (eqb n 20) TooManyCells
    (cond (eqb n 21) BadCell
    (cond (eqb n 22) NotWhole
    (cond (eqb n 23) ClaimOutside
    (cond (eqb n 24) TooDeep
    (cond (eqb n 25) NoBinder
    (cond (eqb n 26) WrongClaim
    (cond (eqb n 27) UsedTwice Captures)))))))

found_by_number : (r : CheckReason) → by_its_number (number_of r) ≡ r
found_by_number TooManyCells = refl
found_by_number BadCell = refl
found_by_number NotWhole = refl
found_by_number ClaimOutside = refl
found_by_number TooDeep = refl
found_by_number NoBinder = refl
found_by_number WrongClaim = refl
found_by_number UsedTwice = refl
found_by_number Captures = refl

pub same_reason : (r q : CheckReason) → number_of r ≡ number_of q → r ≡ q
same_reason r q e = sym (found_by_number r) ∙ ap by_its_number e ∙ found_by_number q

-- Two answers are one, where of two faults one is before the other, or they are the same.
module _ {S : Type 0} (Holds : S → Type 0) (Earlier : S → S → Type 0) (fault_of : S → CheckFault)
    (ordered : (s t : S) → Holds s → Holds t → Earlier s t ⊎ (Earlier t s ⊎ (fault_of s ≡ fault_of t))) where
  pub one_answer : (v w : Verdict) → Answers Holds Earlier fault_of v → Answers Holds Earlier fault_of w → v ≡ w
  one_answer (Ok x) (Ok y) a b = refl
  one_answer (Ok x) (Err g) a b = absurd (a b.0 b.1)
  one_answer (Err f) (Ok y) a b = absurd (b a.0 a.1)
  one_answer (Err f) (Err g) a b = elim (ordered a.0 b.0 a.1 b.1) [
    | inl l ↦ absurd (b.3 a.0 a.1 l)
    | inr h ↦ elim h [ inl l ↦ absurd (a.3 b.0 b.1 l) | inr e ↦ ap Err (a.2 ∙ e ∙ sym b.2) ]
  ]

-- a row at earlier cells is before, or after as one of the term around the other
by_cells : (s t : Spot) → s.cell < t.cell → Before s t ⊎ Before t s
by_cells s t l = elim (cases_lt t.cell s.past) [
  | inl inside ↦ elim (cases_lt (number_of s.reason) 27) [ inl n ↦ inl (before_its_parts (omega arith) l inside) | inr n ↦ inr (after_its_parts n l inside) ]
  | inr outside ↦ inl (earlier_cells outside)
]

by_numbers : (s t : Spot) → s.cell ≡ t.cell → Before s t ⊎ (Before t s ⊎ (fault_at s ≡ fault_at t))
by_numbers s t e = elim (cases_lt (number_of s.reason) (number_of t.reason)) [
  | inl l ↦ inl (lower_number e l)
  | inr l ↦ elim (cases_lt (number_of t.reason) (number_of s.reason)) [
    | inl g ↦ inr (inl (lower_number (sym e) g))
    | inr g ↦ inr (inr (ap₂ fault (same_reason s.reason t.reason (omega arith)) e))
  ]
]

-- of two rows one is before the other, or they are the same fault
pub ordered : (s t : Spot) → Before s t ⊎ (Before t s ⊎ (fault_at s ≡ fault_at t))
ordered s t = elim (cases_lt s.cell t.cell) [
  | inl l ↦ elim (by_cells s t l) [ inl b ↦ inl b | inr b ↦ inr (inl b) ]
  | inr l ↦ elim (cases_lt t.cell s.cell) [
    | inl g ↦ elim (by_cells t s g) [ inl b ↦ inr (inl b) | inr b ↦ inl b ]
    | inr g ↦ by_numbers s t (omega arith)
  ]
]

pub first_row_answers : FirstRowAnswers
first_row_answers m v = (
  λ a. one_answer _ Before fault_at (λ s t _ _. ordered s t) (verdict m) v (first_row_from 0 [] m) a,
  λ e. subst (λ w. AnswersFrom 0 [] m w) e (first_row_from 0 [] m),
)

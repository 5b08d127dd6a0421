-- Verdicts in a row, and which spots of the sheet are before which.
use Rattle.std.proofs.Common.{◌≡◌, ℕ, ◌+◌, ◌<◌, ◌≤◌, ◌⊎◌, Ok, Err, inl, inr, refl, arith}
use Rattle.verdict.specs.Faults.{Verdict, accepted, number_of, ◌then◌}
use Rattle.verdict.specs.Sheet.{Spot, Before, lower_number, earlier_cells, before_its_parts, after_its_parts, Answers}
use Rattle.verdict.specs.declared.faults.CheckFault.{CheckFault}

-- Two verdicts in a row answer for the rows of both, where none of the second is before one of the first.
module _ {S : Type 0} (Earlier : S → S → Type 0) (fault_of : S → CheckFault) where
  pub in_row : (P Q R : S → Type 0) (v w : Verdict) → ((s : S) → R s → P s ⊎ Q s) → ((s : S) → P s → R s) → (v ≡ accepted → (s : S) → Q s → R s)
      → ((p q : S) → P p → Q q → Earlier q p → ⊥) → Answers P Earlier fault_of v → (v ≡ accepted → Answers Q Earlier fault_of w) → Answers R Earlier fault_of (v then w)
  in_row P Q R (Ok x) (Ok y) split first more apart a b = λ s r. elim (split s r) [ inl p ↦ a s p | inr q ↦ b refl s q ]
  in_row P Q R (Ok x) (Err f) split first more apart a b =
      let z = b refl in
      (z.0, more refl z.0 z.1, z.2, λ t r h. elim (split t r) [ inl p ↦ a t p | inr q ↦ z.3 t q h ])
  in_row P Q R (Err f) w split first more apart a b = (a.0, first a.0 a.1, a.2, λ t r h. elim (split t r) [ inl p ↦ a.3 t p h | inr q ↦ apart a.0 t a.1 q h ])

-- among the rows of one term the lower number is before
pub by_number : (s t : Spot) → t.cell ≡ s.cell → t.cell < t.past → Before t s → number_of t.reason < number_of s.reason
by_number s t e l (lower_number f n) = n
by_number s t e l (earlier_cells n) = absurd (omega arith)
by_number s t e l (before_its_parts n f g) = absurd (omega arith)
by_number s t e l (after_its_parts n f g) = absurd (omega arith)

-- What may come after the rows up to 26 of the term at the cell k, and after the parts of it that end at the cell a.
pub record After (k a : ℕ) (s : Spot) : Type 0 where
  pub ends : s.cell < s.past
  pub place : (a ≤ s.cell) ⊎ ((27 ≤ number_of s.reason) × (s.cell ≡ k) × (a ≤ s.past))

pub sooner : (k a b : ℕ) (s : Spot) → a ≤ b → After k b s → After k a s
sooner k a b s l h = record { ends = h.ends; place = elim h.place [ inl p ↦ inl (omega arith) | inr p ↦ inr (p.0, p.1, omega arith) ] }

-- The spot is of a term that stands between the two cells.
pub record Between (a b : ℕ) (s : Spot) : Type 0 where
  pub from : a ≤ s.cell
  pub ends : s.cell < s.past
  pub to : s.past ≤ b

pub coming_first : (k : ℕ) (p q : Spot) → p.cell ≡ k → number_of p.reason ≤ 26 → After k (k + 1) q → Before q p → ⊥
coming_first k p q e n h (lower_number f l) = elim h.place [ inl a ↦ omega arith | inr a ↦ (let b = a.0 in omega arith) ]
coming_first k p q e n h (earlier_cells l) = elim h.place [ inl a ↦ (let b = h.ends in omega arith) | inr a ↦ (let b = a.1 in let d = a.2 in omega arith) ]
coming_first k p q e n h (before_its_parts m l r) = elim h.place [ inl a ↦ omega arith | inr a ↦ (let b = a.0 in omega arith) ]
coming_first k p q e n h (after_its_parts m l r) = omega arith

pub part_first : (k a b : ℕ) (p q : Spot) → k < a → Between a b p → After k b q → Before q p → ⊥
part_first k a b p q g d h (lower_number f l) =
    let x = d.from in let y = d.ends in let z = d.to in elim h.place [ inl s ↦ omega arith | inr s ↦ (let t = s.1 in omega arith) ]
part_first k a b p q g d h (earlier_cells l) =
    let x = d.from in let y = d.ends in let z = d.to in let w = h.ends in elim h.place [ inl s ↦ omega arith | inr s ↦ (let t = s.2 in omega arith) ]
part_first k a b p q g d h (before_its_parts m l r) =
    let x = d.from in let y = d.ends in let z = d.to in elim h.place [ inl s ↦ omega arith | inr s ↦ (let t = s.0 in omega arith) ]
part_first k a b p q g d h (after_its_parts m l r) =
    let x = d.from in let y = d.ends in let z = d.to in elim h.place [ inl s ↦ omega arith | inr s ↦ (let t = s.1 in omega arith) ]

-- The bits of a set as the levels that it has.
use Rattle.std.proofs.Common.{◌≡◌, ℕ, zero, suc, ◌*◌, ◌%◌, ◌<◌, ◌≤◌, ◌^◌, ◌&&◌, ◌||◌, ◌==◌, false, bit_and, bit_or, refl, sym, ap, ◌∙◌, inl, inr, min, max, w32, arith}
use Rattle.std.proofs.lemmas.Bool.{cases_eq, eq-eqb, ne_eqb}
use Rattle.std.proofs.lemmas.Nat.Bits.{bit_at_and, bit_at_or, bit_at-lt, bit_at-zero, bit_at_set_same, bit_at_set_other, bit_at_above}
use Rattle.std.specs.Int.{bit_at}

of_larger : (a b : ℕ) → a < 2 → b < 2 → (max a b == 1) ≡ (a == 1 || b == 1)
of_larger zero zero p q = refl
of_larger zero (suc zero) p q = refl
of_larger (suc zero) zero p q = refl
of_larger (suc zero) (suc zero) p q = refl
of_larger a b p q = absurd (omega arith)

of_smaller : (a b : ℕ) → a < 2 → b < 2 → (min a b == 1) ≡ (a == 1 && b == 1)
of_smaller zero zero p q = refl
of_smaller zero (suc zero) p q = refl
of_smaller (suc zero) zero p q = refl
of_smaller (suc zero) (suc zero) p q = refl
of_smaller a b p q = absurd (omega arith)

pub in_either : (a b k : ℕ) → (bit_at (bit_or a b) k == 1) ≡ (bit_at a k == 1 || bit_at b k == 1)
in_either a b k = ap (λ n. n == 1) (bit_at_or a b k) ∙ of_larger (bit_at a k) (bit_at b k) (bit_at-lt a k) (bit_at-lt b k)

pub in_both : (a b k : ℕ) → (bit_at (bit_and a b) k == 1) ≡ (bit_at a k == 1 && bit_at b k == 1)
in_both a b k = ap (λ n. n == 1) (bit_at_and a b k) ∙ of_smaller (bit_at a k) (bit_at b k) (bit_at-lt a k) (bit_at-lt b k)

pub in_one : (l k : ℕ) → l < 32 → (bit_at (1 * 2 ^ l % 2 ^ 32) k == 1) ≡ (k == l)
in_one l k w = elim (cases_eq k l) [
  | inl e ↦ (ap (λ k. bit_at (1 * 2 ^ l % 2 ^ 32) k == 1) e ∙ ap (λ n. n == 1) (bit_at_set_same w32 0 l w) ∙ sym (eq-eqb k l e))
  | inr n ↦ (ap (λ n. n == 1) (bit_at_set_other w32 0 l w k n ∙ bit_at-zero k) ∙ sym (ne_eqb k l n))
]

pub in_none : (n k : ℕ) → n < 2 ^ 32 → 32 ≤ k → (bit_at n k == 1) ≡ false
in_none n k w l = ap (λ b. b == 1) (bit_at_above n 32 k w l)

-- Pieces of a text, byte by byte.
use Rattle.std.proofs.Common.{◌≡◌, ℕ, ◌+◌, ◌-◌, Bool, true, false, cond, eqb, nat_lt, List, [], ◌∷◌, length, take, drop, Some, None, ◌==◌, sym, refl, ap, ◌∙◌, inl, inr, arith}
use Rattle.std.specs.List.{onto_first, position, position_or_len}
use Rattle.std.proofs.lemmas.List.{take_rest}
use Rattle.std.proofs.lemmas.List.Splits.{slice_split_first, slice_split_none}
use Rattle.std.proofs.lemmas.List.Sums.{fails_before_first}
use Rattle.std.proofs.lemmas.Bool.{cases_lt, cond-true, cond-false, eq-eqb, ne_eqb, lt-ltb, le-ltb}
use Rattle.reader.specs.Pieces.{pieces}

-- a first piece, and what the others are
pub then_cut : {ps qs rs : List (List ℕ)} {p : List ℕ} → ps ≡ p ∷ qs → qs ≡ rs → ps ≡ p ∷ rs
then_cut {p} e f = e ∙ ap (λ qs. p ∷ qs) f

some_none : {i : ℕ} → Some i ≡ None → ⊥
some_none e = cc e

module _ (mark : ℕ) where
  pub at_mark : (b : ℕ) (bs : List ℕ) → b ≡ mark → pieces mark (b ∷ bs) ≡ [] ∷ pieces mark bs
  at_mark b bs e = cond-true _ _ _ (eq-eqb b mark e)

  pub at_other : (b : ℕ) (bs : List ℕ) → (b ≡ mark → ⊥) → pieces mark (b ∷ bs) ≡ onto_first b (pieces mark bs)
  at_other b bs e = cond-false _ _ _ (ne_eqb b mark e)

  -- the first mark ends the first piece
  pub first_piece : (xs : List ℕ) (i : ℕ) → position (λ b. b == mark) xs ≡ Some i → pieces mark xs ≡ take i xs ∷ pieces mark (take (length xs - (i + 1)) (drop (i + 1) xs))
  first_piece xs i e =
      let p : ℕ → Bool = λ b. b == mark in
      let n = position_or_len p xs in
      elim (cases_lt n (length xs)) [
        | inl h ↦ (
            let is : n ≡ i = cc (sym (cond-true (nat_lt n (length xs)) (Some n) None (lt-ltb n (length xs) h)) ∙ e) in
            slice_split_first p xs 0 h
            ∙ ap (λ j. take j xs ∷ pieces mark (drop (j + 1) xs)) is
            ∙ ap (λ ys. take i xs ∷ pieces mark ys) (sym (take_rest xs (i + 1)))
            )
        | inr h ↦ absurd (some_none (sym e ∙ cond-false (nat_lt n (length xs)) (Some n) None (le-ltb n (length xs) h)))
      ]

  -- without a mark there is one piece
  pub no_mark : (xs : List ℕ) → position (λ b. b == mark) xs ≡ None → pieces mark xs ≡ xs ∷ []
  no_mark xs e =
      let p : ℕ → Bool = λ b. b == mark in
      let n = position_or_len p xs in
      elim (cases_lt n (length xs)) [
        | inl h ↦ absurd (some_none (sym (cond-true (nat_lt n (length xs)) (Some n) None (lt-ltb n (length xs) h)) ∙ e))
        | inr h ↦ slice_split_none p xs (λ k d l. fails_before_first p xs k d (omega arith))
      ]

  -- there is always a first piece
  pub some_piece : (xs : List ℕ) → (p : List ℕ) × (ps : List (List ℕ)) × (pieces mark xs ≡ p ∷ ps)
  some_piece [] = ([], [], refl)
  some_piece (x ∷ xs) = either (eqb x mark) x (pieces mark xs)
    where
      either : (t : Bool) (x : ℕ) (ps : List (List ℕ)) → (q : List ℕ) × (qs : List (List ℕ)) × (cond t ([] ∷ ps) (onto_first x ps) ≡ q ∷ qs)
      either true x ps = ([], ps, refl)
      either false x [] = (x ∷ [], [], refl)
      either false x (p ∷ ps) = (x ∷ p, ps, refl)

-- Counted elements, one more, and entries up to the first that is empty.
use Rattle.std.proofs.Common.{Bool, true, false, refl, ◌≡◌, ℕ, ◌+◌, ◌<◌, List, [], ◌∷◌, ◌++◌, length, take, get_or, ap, ◌∙◌, arith}
use Rattle.std.proofs.lemmas.Grind.{common_steps}
use Rattle.std.proofs.lemmas.List.{take_more, length-take-le}
use Rattle.std.proofs.lemmas.List.Sums.{prefix_len-le-length}
use Rattle.std.specs.List.{enumerate_from, prefix_len}
use Rattle.registers.specs.declared.journal.Entry.{Entry}
use Rattle.registers.specs.declared.journal.Entry.TheVariants.{Empty, Prepare, Gate, Read}
use Rattle.listing.specs.Listing.{before_empty}

module _ {X : Type 0} where
  counted_append : (n : ℕ) (xs : List X) (y : X) → enumerate_from n (xs ++ y ∷ []) ≡ enumerate_from n xs ++ (n + length xs, y) ∷ []
  counted_append n [] y = grind (arith, common_steps)
  counted_append n (x ∷ xs) y = let h = counted_append (n + 1) xs y in grind (arith, common_steps, h)

  pub counted_more : (xs : List X) (k : ℕ) (d : X) → k < length xs → enumerate_from 0 (take (k + 1) xs) ≡ enumerate_from 0 (take k xs) ++ (k, get_or xs k d) ∷ []
  counted_more xs k d within =
      let t = take_more xs k d within in
      let c = counted_append 0 (take k xs) (get_or xs k d) in
      grind (arith, common_steps, t, c)

-- a pulse filled the entry
abbrev pub made : Entry → Bool
made Empty = false
made (Prepare handle bit) = true
made (Gate gate on) = true
made (Read handle outcome) = true

pub before_empty_is : (es : List Entry) → take (prefix_len made es) es ≡ before_empty es
before_empty_is [] = refl
before_empty_is (Empty ∷ es) = refl
before_empty_is (Prepare handle bit ∷ es) = grind (arith, common_steps, before_empty_is es)
before_empty_is (Gate gate on ∷ es) = grind (arith, common_steps, before_empty_is es)
before_empty_is (Read handle outcome ∷ es) = grind (arith, common_steps, before_empty_is es)

-- as many elements as the front has are the front
pub take_before : (es : List Entry) → take (length (take (prefix_len made es) es)) es ≡ before_empty es
take_before es =
    let n = prefix_len made es in
    ap (λ k. take k es) (length-take-le n es (prefix_len-le-length made es)) ∙ before_empty_is es

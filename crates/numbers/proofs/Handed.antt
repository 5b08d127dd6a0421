-- A table that is written front to back.
use Rattle.std.proofs.Common.{◌≡◌, ℕ, zero, suc, ◌+◌, ◌<◌, List, [], ◌∷◌, length, get_or, set, refl, ap, ◌∙◌, arith}
use Rattle.numbers.specs.Cells.{fronted_by}

module _ {X Y : Type 0} (f : X → Y) where
  one_more : (d : X) (xs : List X) (ys : List Y) (i : ℕ) → i < length xs → i < length ys → set (fronted_by i f xs ys) i (f (get_or xs i d)) ≡ fronted_by (i + 1) f xs ys
  one_more d [] ys i p q = absurd (omega arith)
  one_more d (x ∷ xs) [] i p q = absurd (omega arith)
  one_more d (x ∷ xs) (y ∷ ys) zero p q = refl
  one_more d (x ∷ xs) (y ∷ ys) (suc i) p q =
      ap (λ zs. f x ∷ zs) (one_more d xs ys i (omega arith) (omega arith))
      ∙ ap (λ j. fronted_by j f (x ∷ xs) (y ∷ ys)) next
    where
      next : suc (i + 1) ≡ suc i + 1
      next = omega arith

  -- one cell more is written
  pub put_more : (d : X) (xs : List X) (ys zs : List Y) (i : ℕ) (y : Y) → zs ≡ fronted_by i f xs ys → y ≡ f (get_or xs i d) → i < length xs → i < length ys → set zs i y ≡ fronted_by (i + 1) f xs ys
  put_more d xs ys zs i y e v p q = ap (λ ts. set ts i y) e ∙ ap (λ t. set (fronted_by i f xs ys) i t) v ∙ one_more d xs ys i p q

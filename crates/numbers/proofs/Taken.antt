-- Cells that are taken from the front of a list.
use Rattle.std.proofs.Common.{◌≡◌, ℕ, zero, suc, ◌+◌, ◌<◌, List, [], ◌∷◌, ◌++◌, map, take, length, append_assoc, sym, ap, ap₂, ◌∙◌, arith, rules}

module _ {X Y : Type 0} (f : X → Y) where
  -- one cell more is taken
  pub one_taken : (x : X) (xs cs : List X) (ys zs all : List Y) (y : Y) (n m : ℕ) → all ≡ ys ++ map f (take m cs) → cs ≡ x ∷ xs → n + 1 ≡ m → y ≡ f x → zs ≡ ys ++ (y ∷ []) → all ≡ zs ++ map f (take n xs)
  one_taken x xs cs ys zs all y n m e p q v z =
      let next : m ≡ suc n = omega (arith, q) in
      let here : map f (take m cs) ≡ (y ∷ []) ++ map f (take n xs) = ap₂ (λ k ts. map f (take k ts)) next p ∙ ap (λ t. t ∷ map f (take n xs)) (sym v) in
      e ∙ ap (λ ts. ys ++ ts) here ∙ sym (append_assoc ys (y ∷ []) (map f (take n xs))) ∙ ap (λ ts. ts ++ map f (take n xs)) (sym z)

  -- none is left
  pub none_left : (n : ℕ) (cs : List X) (ys all : List Y) → all ≡ ys ++ map f (take n cs) → (0 < n → length cs ≡ 0) → all ≡ ys
  none_left zero cs ys all e p = search rules
  none_left (suc n) [] ys all e p = search rules
  none_left (suc n) (c ∷ cs) ys all e p = absurd (omega (arith, p (omega arith)))

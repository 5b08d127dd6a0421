-- What stands beside a type, mark by mark and part by part.
use Rattle.std.proofs.Common.{◌≡◌, ℕ, zero, suc, ◌<◌, Result, Ok, Err, IfOk, sym, subst, subst₂, ap, arith}
use Rattle.std.specs.declared.alloc.AllocError.{AllocError}
use Rattle.calculus.specs.Types.{Ty, arrow, tensor, bangs, Sub, sub_arrow, sub_tensor}
use Rattle.calculus.proofs.Subtyping.{sub_refl, sub_drop, sub_bangs}
use Rattle.kinds.specs.declared.Kind.{Kind}
use Rattle.kinds.specs.declared.Head.{Head}
use Rattle.kinds.specs.Kinds.{head_type, kind_type}
use Rattle.samples.specs.declared.sides.Side.{Side}
use Rattle.samples.specs.declared.sides.Side.TheVariants.{Below, Above}
use Rattle.samples.specs.Sides.{turned_side, IsBeside, MarksBeside}

over : {a b : Ty} (n m : ℕ) → (0 < m → 0 < n) → Sub a b → Sub (bangs n a) (bangs m b)
over n zero f s = sub_drop n s
over zero (suc m) f s = let z = f (omega arith) in absurd (omega arith)
over (suc n) (suc m) f s = sub_bangs n (suc m) s

marked : (side : Side) (a b : Ty) (n m : ℕ) → MarksBeside side n m → IsBeside side a b → IsBeside side (bangs n a) (bangs m b)
marked Below a b n m f s = over n m f s
marked Above a b n m f s = over m n f s

itself : (side : Side) (a : Ty) → IsBeside side a a
itself Below a = sub_refl a
itself Above a = sub_refl a

of_arrows : (side : Side) (a b c d : Ty) → IsBeside (turned_side side) a c → IsBeside side b d → IsBeside side (arrow a b) (arrow c d)
of_arrows Below a b c d s r = sub_arrow s r
of_arrows Above a b c d s r = sub_arrow s r

of_pairs : (side : Side) (a b c d : Ty) → IsBeside side a c → IsBeside side b d → IsBeside side (tensor a b) (tensor c d)
of_pairs Below a b c d s r = sub_tensor s r
of_pairs Above a b c d s r = sub_tensor s r

module _ (side : Side) (k : Kind) (n : ℕ) (fit : MarksBeside side n k.marks) where
  under_marks : {t : Ty} (h : Ty) → t ≡ bangs n h → IsBeside side h (head_type k.head) → IsBeside side t (kind_type k)
  under_marks h e s = subst (λ (t : Ty). IsBeside side t (kind_type k)) (sym e) (marked side h (head_type k.head) n k.marks fit s)

  pub leaf_beside : {r : Kind} (h : Head) → r ≡ record { marks = n; head = h } → k.head ≡ h → IsBeside side (kind_type r) (kind_type k)
  leaf_beside h e f = under_marks (head_type h) (ap kind_type e) (subst (λ (x : Head). IsBeside side (head_type h) (head_type x)) (sym f) (itself side (head_type h)))

  pub arrow_beside : (r : Result Kind AllocError) (t : Side) (a b : Ty) {c d x y : Kind} → IfOk r (λ q. kind_type q ≡ bangs n (arrow a b)) → t ≡ turned_side side
      → IsBeside t a (kind_type x) → x ≡ c → IsBeside side b (kind_type y) → y ≡ d → head_type k.head ≡ arrow (kind_type c) (kind_type d)
      → IfOk r (λ q. IsBeside side (kind_type q) (kind_type k))
  arrow_beside (Ok q) t a b {c = c} {d = d} e w s u z v f =
      under_marks (arrow a b) e (subst (λ (h : Ty). IsBeside side (arrow a b) h) (sym f)
      (of_arrows side a b (kind_type c) (kind_type d) (subst₂ (λ (t : Side) (x : Kind). IsBeside t a (kind_type x)) w u s) (subst (λ (y : Kind). IsBeside side b (kind_type y)) v z)))
  arrow_beside (Err z) t a b e w s u q v f = e

  pub pair_beside : (r : Result Kind AllocError) (a b : Ty) {c d x y : Kind} → IfOk r (λ q. kind_type q ≡ bangs n (tensor a b))
      → IsBeside side a (kind_type x) → x ≡ c → IsBeside side b (kind_type y) → y ≡ d → head_type k.head ≡ tensor (kind_type c) (kind_type d)
      → IfOk r (λ q. IsBeside side (kind_type q) (kind_type k))
  pair_beside (Ok q) a b {c = c} {d = d} e s u z v f =
      under_marks (tensor a b) e (subst (λ (h : Ty). IsBeside side (tensor a b) h) (sym f)
      (of_pairs side a b (kind_type c) (kind_type d) (subst (λ (x : Kind). IsBeside side a (kind_type x)) u s) (subst (λ (y : Kind). IsBeside side b (kind_type y)) v z)))
  pair_beside (Err z) a b e s u q v f = e

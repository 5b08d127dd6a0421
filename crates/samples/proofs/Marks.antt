-- How many marks lead a type that is drawn.
use Rattle.std.proofs.Common.{◌≡◌, ℕ, ◌<◌, Result, Ok, Err, IfOk, ap, arith}
use Rattle.std.specs.declared.alloc.AllocError.{AllocError}
use Rattle.calculus.specs.Types.{Ty, bangs}
use Rattle.calculus.specs.Stripping.{marks}
use Rattle.calculus.proofs.Subtyping.{marks_bangs}
use Rattle.kinds.specs.declared.Kind.{Kind}
use Rattle.kinds.specs.declared.Head.{Head}
use Rattle.kinds.specs.Kinds.{head_type, kind_type}

few : (n : ℕ) (a t : Ty) → t ≡ bangs n a → marks a ≡ 0 → n < 3 → marks t < 3
few n a t e z l = let f = ap marks e in let g = marks_bangs n a in omega arith

pub few_of : (r : Result Kind AllocError) (n : ℕ) (a : Ty) → IfOk r (λ k. kind_type k ≡ bangs n a) → marks a ≡ 0 → n < 3 → IfOk r (λ k. marks (kind_type k) < 3)
few_of (Ok k) n a e z l = few n a (kind_type k) e z l
few_of (Err x) n a e z l = e

pub few_of_leaf : (k : Kind) (n : ℕ) (h : Head) → k ≡ record { marks = n; head = h } → marks (head_type h) ≡ 0 → n < 3 → marks (kind_type k) < 3
few_of_leaf k n h e z l = few n (head_type h) (kind_type k) (ap kind_type e) z l

-- The place of a type by the first number of a range at which its cells stand.
use Rattle.std.proofs.Common.{◌≡◌, ℕ, ◌<◌, ◌≤◌, min, true, false, List, ◌++◌, length, Option, Some, None, Result, Ok, Err, IfOk, OnOk, MatchOption, refl, ap, ◌∙◌, subst, arith}
use Rattle.std.specs.declared.alloc.AllocError.{AllocError}
use Rattle.calculus.specs.declared.cells.TypeCell.{TypeCell}
use Rattle.drafts.specs.Cells.{stands, Placed, found, added}

module _ (code types buffer : List TypeCell) (s n : ℕ) (whole : buffer ≡ code) (from : s ≡ 0) where
  abbrev pub Searched : Option ℕ → Type 0
  Searched r = MatchOption r ((k : ℕ) → s ≤ k → k < n → stands buffer types k ≡ false)
      (λ i. (s ≤ i) × (i < n) × (stands buffer types i ≡ true) × ((k : ℕ) → s ≤ k → k < i → stands buffer types k ≡ false))

  pub found_place : (r : Option ℕ) (p place : ℕ) → Searched r → r ≡ Some p → place ≡ min p 65535 → Placed code types types place
  found_place r p place f e g =
      let i = subst Searched e f in
      found p (subst (λ (cs : List TypeCell). stands cs types p ≡ true) whole i.2) (λ k l. subst (λ (cs : List TypeCell). stands cs types k ≡ false) whole (i.3 k (omega arith) l)) refl g

  pub added_place : (r : Option ℕ) (q : Result ℕ AllocError) (after : List TypeCell) (len : ℕ) → Searched r → r ≡ None → n ≡ len → len ≡ length types
      → IfOk q (λ place. place ≡ min len 65535) → OnOk q (after ≡ types ++ code) → IfOk q (λ place. Placed code types after place)
  added_place r (Ok place) after len f e m l p t =
      let i = subst Searched e f in
      added (λ k b. subst (λ (cs : List TypeCell). stands cs types k ≡ false) whole (i k (omega arith) (omega arith))) t (p ∙ ap (λ k. min k 65535) l)
  added_place r (Err x) after len f e m l p t = p

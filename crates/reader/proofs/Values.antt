-- Digits, one by one.
use Rattle.std.proofs.Common.{◌≡◌, ℕ, ◌+◌, ◌-◌, ◌*◌, ◌<◌, ◌≤◌, Bool, true, false, cond, ◌&&◌, leb, List, [], ◌∷◌, Some, None, Option, MatchOption, sym, refl, ap, ◌∙◌, subst, arith}
use Rattle.std.specs.Char.{is_ascii_digit}
use Rattle.std.specs.ControlFlow.{continue_value}
use Rattle.std.specs.Fn.{Called}
use Rattle.std.specs.Iterator.{AlwaysYields, Yields, TryFoldTurn, TryFoldsItems}
use Rattle.std.specs.List.{FoldsTo}
use Rattle.std.specs.Str.{all_ascii_digits}
use Rattle.std.specs.declared.ops.ControlFlow.{ControlFlow}
use Rattle.std.proofs.lemmas.Bool.{and_right, cond-true, cond-false, le-leb, lt-leb, leb-true, leb-false}
use Rattle.std.proofs.lemmas.Iterator.{YieldsList}
use denote.Param.Members.{Mut}
use Rattle.reader.specs.Numbers.{value_from, value_within}

value_grows : (acc : ℕ) (ds : List ℕ) → acc ≤ value_from acc ds
value_grows acc [] = omega arith
value_grows acc (d ∷ ds) = let h = value_grows (acc * 10 + (d - 48)) ds in omega arith

too_large : (acc : ℕ) (ds : List ℕ) → 65535 < acc → value_within acc ds ≡ None
too_large acc ds l =
    let h = value_grows acc ds in
    cond-false _ _ _ (and_right (all_ascii_digits ds) (leb (value_from acc ds) 65535) (lt-leb (value_from acc ds) 65535 (omega arith)))

-- a digit, and the digits after it
module _ (acc d : ℕ) (ds : List ℕ) where
  abbrev next : ℕ
  next = acc * 10 + (d - 48)

  abbrev With : Bool → List ℕ → Option ℕ
  With b es = cond ((b && all_ascii_digits es) && leb (value_from next es) 65535) (Some (value_from next es)) None

  taken : (b c : Bool) (n : ℕ) → leb next 65535 ≡ c → cond ((b && true) && c) (Some next) None ≡ Some n → (n ≤ 65535) × (With b ds ≡ value_within n ds)
  taken false c n e h = absurd (cc h)
  taken true false n e h = absurd (cc h)
  taken true true n e h = let is : next ≡ n = cc h in (subst (λ m. m ≤ 65535) is (leb-true next 65535 e), ap (λ m. value_within m ds) is)

  pub digit_more : (n : ℕ) → value_within acc (d ∷ []) ≡ Some n → (n ≤ 65535) × (value_within acc (d ∷ ds) ≡ value_within n ds)
  digit_more n h = taken (is_ascii_digit d) (leb next 65535) n refl h

  refused : (b c : Bool) → leb next 65535 ≡ c → cond ((b && true) && c) (Some next) None ≡ None → With b ds ≡ None
  refused false c e h = refl
  refused true true e h = absurd (cc h)
  refused true false e h = too_large next ds (leb-false next 65535 e)

  pub digit_none : value_within acc (d ∷ []) ≡ None → value_within acc (d ∷ ds) ≡ None
  digit_none h = refused (is_ascii_digit d) (leb next 65535) refl h

-- a `try_fold` over digits, each call of which takes one in
module _ {S A F : Type 0} (E : Type 0) (steps : S → Option A → S → Type 0) (v : A → ℕ) (g : Mut F (ℕ × (A × Unit {0})) (Option ℕ))
    (takes : (f f' : F) (a : ℕ) (x : A) (w : Option ℕ) → Called g f (a, (x, tt)) w f' → w ≡ value_within a (v x ∷ [])) where
  abbrev Branches : Option ℕ → ControlFlow E ℕ → Type 0
  Branches r b = r ≡ continue_value b

  folded : (ys : List ℕ) (s t : S) (xs : List A) (p q : F × ℕ) → AlwaysYields steps v s ys → Yields steps s xs t → FoldsTo (TryFoldTurn g Branches) p xs q → p.1 ≤ 65535
      → (zs : List ℕ) × AlwaysYields steps v t zs × (value_within p.1 ys ≡ value_within q.1 zs) × (q.1 ≤ 65535)
  folded ys s t [] p q h y e b =
      (ys, subst (λ u. AlwaysYields steps v u ys) y h, ap (λ (r : F × ℕ). value_within r.1 ys) e, subst (λ (r : F × ℕ). r.1 ≤ 65535) e b)
  folded [] s t (x ∷ xs) p q h y e b = absurd (h x y.0 y.1)
  folded (d ∷ ds) s t (x ∷ xs) p q h y e b =
      let (j, at, later) = y in
      let (m, (w, called, on), rest) = e in
      let (is, left) = h.1 x j at in
      let (low, more) = digit_more p.1 d ds m.1 (ap (λ k. value_within p.1 (k ∷ [])) (sym is) ∙ sym (takes p.0 m.0 p.1 x w called) ∙ on) in
      let (zs, still, same, below) = folded ds j t xs m q left later rest low in
      (zs, still, more ∙ same, below)

  ended : (ys : List ℕ) (s t : S) (f : F) (a : ℕ) (o : Option A) (r : Option ℕ) → AlwaysYields steps v s ys → steps s o t → a ≤ 65535
      → MatchOption o (r ≡ Some a) (λ x. (w : Option ℕ) × (h : F) × (e : E) × Called g f (a, (x, tt)) w h × (w ≡ None) × (r ≡ None))
      → r ≡ value_within a ys
  ended [] s t f a None r h y b m = m ∙ sym (cond-true _ _ _ (le-leb a 65535 b))
  ended (d ∷ ds) s t f a None r h y b m = absurd (h.0 t y)
  ended [] s t f a (Some x) r h y b m = absurd (h x t y)
  ended (d ∷ ds) s t f a (Some x) r h y b m =
      let (w, f', e, called, off, handed) = m in
      let (is, left) = h.1 x t y in
      handed ∙ sym (digit_none a d ds (ap (λ k. value_within a (k ∷ [])) (sym is) ∙ sym (takes f f' a x w called) ∙ off))

  pub value_from_try_fold : (ys : List ℕ) (s u : S) (f : F) (r : Option ℕ) → YieldsList steps v s ys → TryFoldsItems steps g Branches (λ e r. r ≡ None) s f 0 r u → r ≡ value_within 0 ys
  value_from_try_fold ys s u f r h d =
      let (xs, o, f', a, (t, before, last), turns, m) = d in
      let (zs, left, same, low) = folded ys s t xs (f, 0) (f', a) h.runs before turns (omega arith) in
      ended zs t u f' a o r left last low m ∙ sym same

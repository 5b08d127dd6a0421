-- The relation of two types at places, by what stands after their marks.
use Rattle.std.proofs.Common.{◌≡◌, ℕ, ◌+◌, ◌<◌, Bool, true, false, cond, ◌&&◌, List, length, Some, None, Option, sym, refl, ap, ◌∙◌, ap₂}
use Rattle.std.proofs.Math.Bool.{and-false}
use Rattle.std.proofs.lemmas.Bool.{both_ways}
use Rattle.calculus.specs.declared.cells.TypeCell.{TypeCell}
use Rattle.calculus.specs.Cells.{type_cells}
use Rattle.calculus.specs.Reading.{type_at}
use Rattle.calculus.specs.Stripping.{marks}
use Rattle.calculus.specs.Types.{Ty, arrow, tensor}
use Rattle.subtyping.specs.declared.placed.TypeAt.{TypeAt}
use Rattle.subtyping.specs.Letters.{kind_of}
use Rattle.subtyping.specs.Meaning.{meant, past, Bare, Stripped}
use Rattle.subtyping.specs.Placing.{type_end}
use Rattle.subtyping.specs.Relating.{Asked, related, marks_agree, related_at}
use Rattle.subtyping.proofs.Places.{Joins, arrow_here, pair_here, stands, Strips, strips}
use Rattle.subtyping.proofs.Related.{related_marked, core_bare, related_arrows, related_pairs, unlike, unmarked, alike_leaves}

cond_and : {A : Type 0} (v w : Bool) (s n : A) → cond (v && w) s n ≡ cond v (cond w s n) n
cond_and true w s n = refl
cond_and false w s n = refl

-- one past the types at two places, where they have the relation
abbrev at_places : Asked → List TypeCell → ℕ → List TypeCell → ℕ → Option (ℕ × ℕ)
at_places r cs p ds q = cond (related r (type_at cs p) (type_at ds q)) (Some (type_end cs p, type_end ds q)) None

chosen : {A : Type 0} (v : Bool) (z w : A) → Some w ≡ cond v (Some z) None → (v ≡ true) × (w ≡ z)
chosen true z w e = (refl, cc)
chosen false z w e = cc

refused : {A : Type 0} (v : Bool) (z : A) → None ≡ cond v (Some z) None → v ≡ false
refused true z e = cc
refused false z e = refl

-- what the answer for two parts tells
module _ (r : Asked) (cs ds : List TypeCell) (i j : ℕ) (a b : TypeAt) (h : Bare cs i a) (k : Bare ds j b) where
  at_bare : related_at r a b ≡ at_places r cs i ds j
  at_bare =
      let s = stands cs i a h in
      let t = stands ds j b k in
      simp (s.is, t.is, s.ends, t.ends)

  pub related_some : (p q : ℕ) → Some (p, q) ≡ related_at r a b → (related r (type_at cs i) (type_at ds j) ≡ true) × (p ≡ type_end cs i) × (q ≡ type_end ds j)
  related_some p q e =
      let g = chosen (related r (type_at cs i) (type_at ds j)) (type_end cs i, type_end ds j) (p, q) (e ∙ at_bare) in
      (g.0, ap (λ (z : ℕ × ℕ). z.0) g.1, ap (λ (z : ℕ × ℕ). z.1) g.1)

  pub related_none : None ≡ related_at r a b → related r (type_at cs i) (type_at ds j) ≡ false
  related_none e = refused _ (type_end cs i, type_end ds j) (e ∙ at_bare)

-- The first parts of two types at their letters end at these places, where the second ones stand, and the answer is that of the second ones.
pub record Ends (r : Asked) (a b u v : TypeAt) (p q : ℕ) : Type 0 where
  pub are : (p ≡ type_end u.types.now (u.place + 1)) × (q ≡ type_end v.types.now (v.place + 1))
  pub inside : (p < length u.types.now) × (q < length v.types.now)
  pub answer : (x y : TypeAt) → Bare u.types.now p x → Bare v.types.now q y → related_at r x y ≡ related_at r a b

stop : {A : Type 0} (v : Bool) (w z : Option A) → z ≡ cond v w None → v ≡ false → None ≡ z
stop true w z e f = absurd (both_ways true f refl)
stop false w z e f = sym e

go : {A : Type 0} (v : Bool) (w z : Option A) → z ≡ cond v w None → v ≡ true → w ≡ z
go true w z e f = sym e
go false w z e f = absurd (both_ways false refl f)

module _ (r : Asked) (a b : TypeAt) (u v : ℕ × TypeAt) (ha : Stripped a u) (hb : Stripped b v) where
  sa : Strips a u.0 u.1
  sa = strips a u ha

  sb : Strips b v.0 v.1
  sb = strips b v hb

  by_cores : related r (meant a) (meant b) ≡ marks_agree r u.0 v.0 && related r (meant u.1) (meant v.1)
  by_cores = related_marked r (meant a) (meant b) ∙ simp (sa.count, sb.count, sa.left_over, sb.left_over)

  not_related : related r (meant a) (meant b) ≡ false → related_at r a b ≡ None
  not_related e = simp e

  pub marks_differ : marks_agree r u.0 v.0 ≡ false → related_at r a b ≡ None
  marks_differ e = not_related (by_cores ∙ simp e)

  no_marks : marks (meant u.1) ≡ 0
  no_marks = ap marks sa.left_over ∙ core_bare (meant a)

  module _ (k l : ℕ) (ka : k ≡ kind_of (meant u.1)) (kb : l ≡ kind_of (meant v.1)) where
    pub kinds_differ : (k ≡ l → ⊥) → related_at r a b ≡ None
    kinds_differ n =
        not_related (by_cores ∙ ap (λ z. marks_agree r u.0 v.0 && z) (unlike r (meant u.1) (meant v.1) no_marks (λ e. n (ka ∙ e ∙ sym kb))) ∙ and-false _)

    module _ (m : true ≡ marks_agree r u.0 v.0) (alike : k ≡ l) where
      with_marks : related r (meant a) (meant b) ≡ related r (meant u.1) (meant v.1)
      with_marks = by_cores ∙ simp (sym m)

      pub leaves : (k ≡ 62 → ⊥) → (k ≡ 42 → ⊥) → Some (u.1.place + 1, v.1.place + 1) ≡ related_at r a b
      leaves n2 n3 =
          let l = alike_leaves r (meant u.1) (meant v.1) (sym ka ∙ alike ∙ kb) (unmarked (meant u.1) no_marks, λ e. n2 (ka ∙ e), λ e. n3 (ka ∙ e)) in
          let e : past a ≡ u.1.place + 1 = sym sa.ends ∙ ap (λ t. u.1.place + length (type_cells t)) sa.bare ∙ ap (λ n. u.1.place + n) l.1 in
          let f : past b ≡ v.1.place + 1 = sym sb.ends ∙ ap (λ t. v.1.place + length (type_cells t)) sb.bare ∙ ap (λ n. v.1.place + n) l.2 in
          sym (simp (with_marks ∙ l.0, e, f))

      -- The first parts of both types stand in their tables, and the answer is no unless they are as asked, which the test says.
      pub record Halves (test : Bool) : Type 0 where
        pub left_first : u.1.place + 1 < length u.1.types.now
        pub right_first : v.1.place + 1 < length v.1.types.now
        pub none : test ≡ false → None ≡ related_at r a b
        pub ends : (p q : ℕ) → p ≡ type_end u.1.types.now (u.1.place + 1) → q ≡ type_end v.1.types.now (v.1.place + 1) → test ≡ true → Ends r a b u.1 v.1 p q

      halves : (join : Ty → Ty → Ty) (test : Bool) → Joins u.1.types.now u.1.place join → Joins v.1.types.now v.1.place join
          → ((t w : Ty) → related r (join (type_at u.1.types.now (u.1.place + 1)) t) (join (type_at v.1.types.now (v.1.place + 1)) w) ≡ test && related r t w) → Halves test
      halves join test p q f =
          let i = type_end u.1.types.now (u.1.place + 1) in
          let j = type_end v.1.types.now (v.1.place + 1) in
          let e : past a ≡ type_end u.1.types.now i = sym sa.ends ∙ p.same_end in
          let g : past b ≡ type_end v.1.types.now j = sym sb.ends ∙ q.same_end in
          let h = with_marks ∙ ap₂ (related r) (sym sa.bare ∙ p.is) (sym sb.bare ∙ q.is) ∙ f (type_at u.1.types.now i) (type_at v.1.types.now j) in
          let answer : related_at r a b ≡ cond test (at_places r u.1.types.now i v.1.types.now j) None = simp (h, e, g) (cond_and test (related r (type_at u.1.types.now i) (type_at v.1.types.now j)) _ _) in
          record {
            left_first = p.inside_first;
            right_first = q.inside_first;
            none = stop test _ _ answer;
            ends = λ n o en eo t. record {
              are = (en, eo);
              inside = (rw en p.inside_second, rw eo q.inside_second);
              answer = λ x y bx by. at_bare r _ _ n o x y bx by ∙ ap₂ (λ i j. at_places r u.1.types.now i v.1.types.now j) en eo ∙ go test _ _ answer t;
            };
          }

      -- both types are arrows or both are pairs, since both begin with the letter
      pub arrow_halves : k ≡ 62 → Halves (related r (type_at v.1.types.now (v.1.place + 1)) (type_at u.1.types.now (u.1.place + 1)))
      arrow_halves is =
          halves arrow _ (arrow_here _ u.1.place u.1.placed.stands u.1.placed.within (ap kind_of sa.bare ∙ sym ka ∙ is)) (arrow_here _ v.1.place v.1.placed.stands v.1.placed.within (ap kind_of sb.bare ∙ sym kb ∙ sym alike ∙ is))
          (λ t w. related_arrows r _ t _ w)

      pub pair_halves : k ≡ 42 → Halves (related r (type_at u.1.types.now (u.1.place + 1)) (type_at v.1.types.now (v.1.place + 1)))
      pair_halves is =
          halves tensor _ (pair_here _ u.1.place u.1.placed.stands u.1.placed.within (ap kind_of sa.bare ∙ sym ka ∙ is)) (pair_here _ v.1.place v.1.placed.stands v.1.placed.within (ap kind_of sb.bare ∙ sym kb ∙ sym alike ∙ is))
          (λ t w. related_pairs r _ t _ w)

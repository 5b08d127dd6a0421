-- What stands at the places of a whole table: the parts of a type, its letter, its marks and its end.
use Rattle.std.proofs.Common.{◌≡◌, ℕ, zero, suc, ◌+◌, ◌-◌, ◌<◌, ◌≤◌, ◌⊎◌, Bool, eqb, List, [], ◌∷◌, ◌++◌, length, get_or, drop, sym, refl, ap, ◌∙◌, subst, ap₂, inl, inr, add-zero, arith}
use Rattle.std.specs.List.{prefix_len}
use Rattle.std.proofs.lemmas.List.{append_assoc, length-append, length-drop, drop_more}
use Rattle.calculus.specs.declared.cells.TypeCell.{TypeCell}
use Rattle.calculus.specs.Cells.{type_cells}
use Rattle.calculus.specs.Reading.{top, type_at, TypesStand}
use Rattle.calculus.specs.Stripping.{marks, core, first, second}
use Rattle.calculus.specs.Types.{Ty, bit, qbit, unit, bang, arrow, tensor, bangs}
use Rattle.calculus.proofs.Reading.{after}
use Rattle.calculus.proofs.ReadTypes.{At, at_place, at_is}
use Rattle.calculus.proofs.Subtyping.{core_bangs, marks_bangs}
use Rattle.subtyping.specs.declared.placed.TypeAt.{TypeAt}
use Rattle.subtyping.specs.Letters.{kind_of}
use Rattle.subtyping.specs.Meaning.{standing, meant, past, Bare, Stripped}
use Rattle.subtyping.specs.Placing.{type_end}
use Rattle.subtyping.proofs.Related.{arrow_by_kind, pair_by_kind}

pub some_cells : (a : Ty) → 0 < length (type_cells a)
some_cells bit = omega arith
some_cells qbit = omega arith
some_cells unit = omega arith
some_cells (bang a) = omega arith
some_cells (arrow a b) = omega arith
some_cells (tensor a b) = omega arith

pub at_room : (cs : List TypeCell) (p : ℕ) (a : Ty) → At cs p a → p + length (type_cells a) ≤ length cs
at_room cs p a (ds, e) = omega (arith, length-drop p cs, ap length e, length-append (type_cells a) ds, some_cells a)

first_kind : (a : Ty) (ds : List TypeCell) (c : TypeCell) (cs : List TypeCell) → c ∷ cs ≡ type_cells a ++ ds → c.kind ≡ kind_of a
first_kind bit ds c cs e = ap (λ xs. (top c xs).kind) e
first_kind qbit ds c cs e = ap (λ xs. (top c xs).kind) e
first_kind unit ds c cs e = ap (λ xs. (top c xs).kind) e
first_kind (bang a) ds c cs e = ap (λ xs. (top c xs).kind) e
first_kind (arrow a b) ds c cs e = ap (λ xs. (top c xs).kind) e
first_kind (tensor a b) ds c cs e = ap (λ xs. (top c xs).kind) e

at_kind : (cs : List TypeCell) (p : ℕ) (a : Ty) (d : TypeCell) → At cs p a → (get_or cs p d).kind ≡ kind_of a
at_kind cs p a d (ds, e) =
    let r = at_room cs p a (ds, e) in
    first_kind a ds (get_or cs p d) (drop (p + 1) cs) (sym (drop_more cs p d (omega (arith, some_cells a))) ∙ e)

-- the letter of the cell at a place is that of the type there
pub kind_here : (cs : List TypeCell) (p : ℕ) (d : TypeCell) → TypesStand cs → p < length cs → (get_or cs p d).kind ≡ kind_of (type_at cs p)
kind_here cs p d h l = at_kind cs p (type_at cs p) d (at_place cs p h l)

at_marked : (cs : List TypeCell) (p : ℕ) (a : Ty) → At cs p (bang a) → At cs (p + 1) a
at_marked cs p a (ds, e) = (ds, after cs (record { kind = 33 } ∷ []) (type_cells a ++ ds) p 1 e refl)

at_two : (k : ℕ) (cs : List TypeCell) (p : ℕ) (a b : Ty) (ds : List TypeCell) → drop p cs ≡ (record { kind = k } ∷ (type_cells a ++ type_cells b)) ++ ds
    → At cs (p + 1) a × At cs (p + 1 + length (type_cells a)) b
at_two k cs p a b ds e =
    let f = after cs (record { kind = k } ∷ []) (type_cells a ++ (type_cells b ++ ds)) p 1 (e ∙ ap (λ (xs : List TypeCell). record { kind = k } ∷ xs) (append_assoc (type_cells a) (type_cells b) ds)) refl in
    ((type_cells b ++ ds, f), (ds, after cs (type_cells a) (type_cells b ++ ds) (p + 1) (length (type_cells a)) f refl))

-- The two parts of a type stand one after the other, from the place after it.
pub record Joins (cs : List TypeCell) (p : ℕ) (join : Ty → Ty → Ty) : Type 0 where
  pub is : type_at cs p ≡ join (type_at cs (p + 1)) (type_at cs (type_end cs (p + 1)))
  pub inside_first : p + 1 < length cs
  pub inside_second : type_end cs (p + 1) < length cs
  pub same_end : type_end cs p ≡ type_end cs (type_end cs (p + 1))

joined : (cs : List TypeCell) (p : ℕ) (join : Ty → Ty → Ty) (a b : Ty) → type_at cs p ≡ join a b → length (type_cells (join a b)) ≡ 1 + length (type_cells a) + length (type_cells b)
    → At cs (p + 1) a × At cs (p + 1 + length (type_cells a)) b → Joins cs p join
joined cs p join a b e n (x, y) =
    let f = at_is cs (p + 1) a x in
    let q : type_end cs (p + 1) ≡ p + 1 + length (type_cells a) = ap (λ t. p + 1 + length (type_cells t)) f in
    let g : type_at cs (type_end cs (p + 1)) ≡ b = ap (type_at cs) q ∙ at_is cs (p + 1 + length (type_cells a)) b y in
    let sa = some_cells a in
    let sb = some_cells b in
    let ra = at_room cs (p + 1) a x in
    let rb = at_room cs (p + 1 + length (type_cells a)) b y in
    let z : type_end cs (type_end cs (p + 1)) ≡ type_end cs (p + 1) + length (type_cells b) = ap (λ t. type_end cs (p + 1) + length (type_cells t)) g in
    let w : type_end cs p ≡ p + length (type_cells (join a b)) = ap (λ t. p + length (type_cells t)) e in
    record {
      is = e ∙ ap (λ t. join t b) (sym f) ∙ ap (join (type_at cs (p + 1))) (sym g);
      inside_first = omega arith;
      inside_second = omega (arith, q);
      same_end = w ∙ (omega (arith, n, q)) ∙ sym z;
    }

length_two : (k : ℕ) (a b : Ty) → ◌≡◌ (length (record { kind = k } ∷ (type_cells a ++ type_cells b))) (1 + length (type_cells a) + length (type_cells b))
length_two k a b = omega (arith, length-append (type_cells a) (type_cells b))

pub arrow_here : (cs : List TypeCell) (p : ℕ) → TypesStand cs → p < length cs → kind_of (type_at cs p) ≡ 62 → Joins cs p arrow
arrow_here cs p h l k =
    let t = type_at cs p in
    let e = arrow_by_kind t k in
    let at = subst (At cs p) e (at_place cs p h l) in
    joined cs p arrow (first t) (second t) e (length_two 62 (first t) (second t)) (at_two 62 cs p (first t) (second t) at.0 at.1)

pub pair_here : (cs : List TypeCell) (p : ℕ) → TypesStand cs → p < length cs → kind_of (type_at cs p) ≡ 42 → Joins cs p tensor
pair_here cs p h l k =
    let t = type_at cs p in
    let e = pair_by_kind t k in
    let at = subst (At cs p) e (at_place cs p h l) in
    joined cs p tensor (first t) (second t) e (length_two 42 (first t) (second t)) (at_two 42 cs p (first t) (second t) at.0 at.1)

same_place : (cs : List TypeCell) (p : ℕ) (a : Ty) → At cs p a → At cs (p + 0) a
same_place cs p a h = let n : p ≡ p + 0 = omega arith in subst (λ q. At cs q a) n h

at_core : (cs : List TypeCell) (p : ℕ) (a : Ty) → At cs p a → At cs (p + marks a) (core a)
at_core cs p bit h = same_place cs p bit h
at_core cs p qbit h = same_place cs p qbit h
at_core cs p unit h = same_place cs p unit h
at_core cs p (bang a) h =
    let n : p + 1 + marks a ≡ p + suc (marks a) = omega arith in
    subst (λ q. At cs q (core a)) n (at_core cs (p + 1) a (at_marked cs p a h))
at_core cs p (arrow a b) h = same_place cs p (arrow a b) h
at_core cs p (tensor a b) h = same_place cs p (tensor a b) h

core_length : (a : Ty) → length (type_cells a) ≡ marks a + length (type_cells (core a))
core_length bit = refl
core_length qbit = refl
core_length unit = refl
core_length (bang a) = omega (arith, core_length a)
core_length (arrow a b) = omega arith
core_length (tensor a b) = omega arith

-- the cell of a mark
abbrev pub is_mark : TypeCell → Bool
is_mark c = eqb c.kind 33

leading_marks : (a : Ty) (ds : List TypeCell) → prefix_len is_mark (type_cells a ++ ds) ≡ marks a
leading_marks bit ds = refl
leading_marks qbit ds = refl
leading_marks unit ds = refl
leading_marks (bang a) ds = omega (arith, leading_marks a ds)
leading_marks (arrow a b) ds = refl
leading_marks (tensor a b) ds = refl

-- the marks of the type at a place are the leading cells from there, and what they stand before is of the table too
pub marks_here : (cs : List TypeCell) (p : ℕ) → TypesStand cs → p < length cs → prefix_len is_mark (drop p cs) ≡ marks (type_at cs p)
marks_here cs p h l = let at = at_place cs p h l in ap (prefix_len is_mark) at.1 ∙ leading_marks (type_at cs p) at.0

pub core_within : (cs : List TypeCell) (p : ℕ) → TypesStand cs → p < length cs → p + marks (type_at cs p) < length cs
core_within cs p h l =
    let t = type_at cs p in
    omega (arith, at_room cs (p + marks t) (core t) (at_core cs p t (at_place cs p h l)), some_cells (core t))

pub bangs_more : (n m : ℕ) (a : Ty) → bangs (n + m) a ≡ bangs m (bangs n a)
bangs_more n zero a = ap (λ k. bangs k a) (add-zero n)
bangs_more n (suc m) a = let e : n + suc m ≡ suc (n + m) = omega arith in ap (λ k. bangs k a) e ∙ ap bang (bangs_more n m a)

pub marked_kind : (n : ℕ) (a : Ty) → 0 < n → 33 ≡ kind_of (bangs n a)
marked_kind zero a h = absurd (omega arith)
marked_kind (suc n) a h = refl

-- the cells of the table from the type on
abbrev pub room : TypeAt → ℕ
room a = length a.types.now - a.place

-- A type of a table as it stands at a place.
pub record Stands (cs : List TypeCell) (p : ℕ) (a : TypeAt) : Type 0 where
  pub is : meant a ≡ type_at cs p
  pub ends : past a ≡ type_end cs p
  pub cells : room a ≡ length cs - p

pub stands : (cs : List TypeCell) (p : ℕ) (a : TypeAt) → Bare cs p a → Stands cs p a
stands cs p a h = record {
  is = ap (λ n. bangs n (standing a)) h.no_marks ∙ ap₂ type_at h.same_table h.same_place;
  ends = ap₂ type_end h.same_table h.same_place;
  cells = omega (arith, ap length h.same_table, h.same_place);
}

-- A type without its marks, where they are all counted.
pub record Strips (a : TypeAt) (n : ℕ) (r : TypeAt) : Type 0 where
  pub count : n ≡ marks (meant a)
  pub left_over : meant r ≡ core (meant a)
  pub bare : standing r ≡ meant r
  pub ends : past r ≡ past a
  pub on : room r ≤ room a

pub strips : (a : TypeAt) (x : ℕ × TypeAt) → Stripped a x → Strips a x.0 x.1
strips a x h =
    let cs = a.types.now in
    let t = standing a in
    let k = at_is cs (a.place + marks t) (core t) (at_core cs a.place t (at_place cs a.place a.placed.stands a.placed.within)) in
    let s = stands cs (a.place + marks t) x.1 h.left_over in
    record {
      count = h.count ∙ sym (marks_bangs a.marks t);
      left_over = s.is ∙ k ∙ sym (core_bangs a.marks t);
      bare = sym (ap (λ n. bangs n (standing x.1)) h.left_over.no_marks);
      ends = s.ends ∙ ap (λ u. a.place + marks t + length (type_cells u)) k ∙ (omega (arith, core_length t));
      on = omega (arith, s.cells);
    }

-- where the parts of an arrow or a pair stand
module _ (a : TypeAt) (k : (kind_of (standing a) ≡ 62) ⊎ (kind_of (standing a) ≡ 42)) where
  pub first_within : a.place + 1 < length a.types.now
  first_within = elim k [
    | inl e ↦ (arrow_here _ a.place a.placed.stands a.placed.within e).inside_first
    | inr e ↦ (pair_here _ a.place a.placed.stands a.placed.within e).inside_first
  ]

  pub second_within : type_end a.types.now (a.place + 1) < length a.types.now
  second_within = elim k [
    | inl e ↦ (arrow_here _ a.place a.placed.stands a.placed.within e).inside_second
    | inr e ↦ (pair_here _ a.place a.placed.stands a.placed.within e).inside_second
  ]

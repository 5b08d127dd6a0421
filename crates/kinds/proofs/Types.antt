-- Boxed types as types: the tests on marks, heads and parts are those of equality and of subtyping.
use Rattle.std.proofs.Common.{◌≡◌, ℕ, zero, suc, ◌+◌, Bool, true, false, T, ◌↔◌, sym, refl, ap, ap₂, ◌∙◌, subst, subst₂, ◌&&◌, ◌<◌, ◌≤◌, Box, Global, min, arith}
use Rattle.calculus.specs.Types.{Ty, bit, qbit, unit, arrow, tensor, bangs, Sub, sub_arrow, sub_tensor}
use Rattle.calculus.specs.Stripping.{same, marks, core, marks_fit, subtype}
use Rattle.calculus.proofs.Stripping.{T_and, same_exact, subtype_exact}
use Rattle.calculus.proofs.Subtyping.{sub_refl, sub_drop, sub_bangs, sub_core, core_bangs, marks_bangs, plain_arrow, bangs_pair}
use Rattle.kinds.specs.declared.Kind.{Kind}
use Rattle.kinds.specs.declared.Head.{Head}
use Rattle.kinds.specs.declared.Head.TheVariants.{Bit, Qubit, Unit, Arrow, Pair, Arrow', Pair'}
use Rattle.kinds.specs.Kinds.{head_type, kind_type, qubits_type}

is_true : (x : Bool) → T x → true ≡ x
is_true true h = refl
is_true false h = absurd h

is_false : (x : Bool) → (T x → ⊥) → false ≡ x
is_false true h = absurd (h tt)
is_false false h = refl

alike : (x y : Bool) → (T x → T y) → (T y → T x) → x ≡ y
alike true y f g = is_true y (f tt)
alike false y f g = is_false y g

-- A head's type has no mark.
no_marks : (h : Head) → marks (head_type h) ≡ 0
no_marks Bit = refl
no_marks Qubit = refl
no_marks Unit = refl
no_marks (Arrow' p n a q m b) = refl
no_marks (Pair' p n a q m b) = refl

its_core : (h : Head) → core (head_type h) ≡ head_type h
its_core Bit = refl
its_core Qubit = refl
its_core Unit = refl
its_core (Arrow' p n a q m b) = refl
its_core (Pair' p n a q m b) = refl

kind_marks : (k : Kind) → marks (kind_type k) ≡ k.marks
kind_marks k = let e = marks_bangs k.marks (head_type k.head) in let z = no_marks k.head in omega arith

kind_core : (k : Kind) → core (kind_type k) ≡ head_type k.head
kind_core k = core_bangs k.marks (head_type k.head) ∙ its_core k.head

over_marks : {a b : Ty} (n m : ℕ) → T (marks_fit n m) → Sub a b → Sub (bangs n a) (bangs m b)
over_marks n zero f s = sub_drop n s
over_marks zero (suc m) f s = absurd f
over_marks (suc n) (suc m) f s = sub_bangs n (suc m) s

-- the marks of the second type are as few as those of the first allow
abbrev pub Fits : Kind → Kind → Type 0
Fits a b = T (marks_fit a.marks b.marks)

pub few_marks : (a b : Kind) → b.marks ≤ 0 → Fits a b
few_marks a b l = go a.marks b.marks l
  where
    go : (n m : ℕ) → m ≤ 0 → T (marks_fit n m)
    go n zero l = tt
    go n (suc m) l = absurd (omega arith)

pub some_marks : (a b : Kind) → (a.marks ≡ 0 → ⊥) → Fits a b
some_marks a b n = go a.marks b.marks n
  where
    go : (n m : ℕ) → (n ≡ 0 → ⊥) → T (marks_fit n m)
    go n zero f = tt
    go zero (suc m) f = absurd (f refl)
    go (suc n) (suc m) f = tt

module _ (a b : Kind) where
  heads_below : Sub (kind_type a) (kind_type b) → Sub (head_type a.head) (head_type b.head)
  heads_below s = rw (kind_core a, kind_core b) at (sub_core s)

  kinds_below : Fits a b → Sub (head_type a.head) (head_type b.head) → Sub (kind_type a) (kind_type b)
  kinds_below f s = over_marks a.marks b.marks f s

  marks_below : Sub (kind_type a) (kind_type b) → Fits a b
  marks_below s = rw (kind_marks a, kind_marks b) at ((simp T_and at ((subtype_exact _ _).1 s)).0)

  -- what each case of the test of subtyping answers
  pub more_marks : 0 < b.marks → a.marks ≡ 0 → false ≡ subtype (kind_type a) (kind_type b)
  more_marks l e = is_false _ (λ t. go a.marks b.marks l e (marks_below ((subtype_exact _ _).0 t)))
    where
      go : (n m : ℕ) → 0 < m → n ≡ 0 → T (marks_fit n m) → ⊥
      go zero zero l e f = omega arith
      go zero (suc m) l e f = f
      go (suc n) m l e f = omega arith

  pub one_leaf : Fits a b → a.head ≡ b.head → true ≡ subtype (kind_type a) (kind_type b)
  one_leaf f e = is_true _ ((subtype_exact _ _).1 (kinds_below f (subst (λ (h : Head). Sub (head_type a.head) (head_type h)) e (sub_refl _))))

  pub other_heads : (Sub (head_type a.head) (head_type b.head) → ⊥) → false ≡ subtype (kind_type a) (kind_type b)
  other_heads n = is_false _ (λ t. n (heads_below ((subtype_exact _ _).0 t)))

  module _ (c d e f : Kind) where
    pub arrows : Fits a b → head_type a.head ≡ arrow (kind_type c) (kind_type d) → head_type b.head ≡ arrow (kind_type e) (kind_type f)
        → (subtype (kind_type e) (kind_type c) && subtype (kind_type d) (kind_type f)) ≡ subtype (kind_type a) (kind_type b)
    arrows g p q = alike _ _
        (λ t. let s = (T_and _ _).0 t in (subtype_exact _ _).1 (kinds_below g (subst₂ Sub (sym p) (sym q) (sub_arrow ((subtype_exact _ _).0 s.0) ((subtype_exact _ _).0 s.1)))))
        (λ t. let s = parts (subst₂ Sub p q (heads_below ((subtype_exact _ _).0 t))) in (T_and _ _).1 ((subtype_exact _ _).1 s.0, (subtype_exact _ _).1 s.1))
      where
        parts : {a b c d : Ty} → Sub (arrow a b) (arrow c d) → Sub c a × Sub b d
        parts (sub_arrow s r) = (s, r)

    pub pairs : Fits a b → head_type a.head ≡ tensor (kind_type c) (kind_type d) → head_type b.head ≡ tensor (kind_type e) (kind_type f)
        → (subtype (kind_type c) (kind_type e) && subtype (kind_type d) (kind_type f)) ≡ subtype (kind_type a) (kind_type b)
    pairs g p q = alike _ _
        (λ t. let s = (T_and _ _).0 t in (subtype_exact _ _).1 (kinds_below g (subst₂ Sub (sym p) (sym q) (sub_tensor ((subtype_exact _ _).0 s.0) ((subtype_exact _ _).0 s.1)))))
        (λ t. let s = parts (subst₂ Sub p q (heads_below ((subtype_exact _ _).0 t))) in (T_and _ _).1 ((subtype_exact _ _).1 s.0, (subtype_exact _ _).1 s.1))
      where
        parts : {a b c d : Ty} → Sub (tensor a b) (tensor c d) → Sub a c × Sub b d
        parts (sub_tensor s r) = (s, r)

  -- and of the test of equality
  pub other_marks : (a.marks ≡ b.marks → ⊥) → false ≡ same (kind_type a) (kind_type b)
  other_marks n = is_false _ (λ t. let e = ap marks ((same_exact _ _).0 t) in n (sym (kind_marks a) ∙ e ∙ kind_marks b))

  pub other_cores : (Sub (head_type a.head) (head_type b.head) → ⊥) → false ≡ same (kind_type a) (kind_type b)
  other_cores n = is_false _ (λ t. n (heads_below (subst (Sub (kind_type a)) ((same_exact _ _).0 t) (sub_refl _))))

  same_heads : a.marks ≡ b.marks → (head_type a.head ≡ head_type b.head) ↔ T (same (kind_type a) (kind_type b))
  same_heads e = ((λ h. (same_exact _ _).1 (ap (bangs a.marks) h ∙ ap (λ n. bangs n (head_type b.head)) e)), λ t. let e : kind_type a ≡ kind_type b = (same_exact _ _).0 t in sym (kind_core a) ∙ ap core e ∙ kind_core b)

  module _ (c d e f : Kind) where
    pub same_arrows : a.marks ≡ b.marks → head_type a.head ≡ arrow (kind_type c) (kind_type d) → head_type b.head ≡ arrow (kind_type e) (kind_type f)
        → (same (kind_type c) (kind_type e) && same (kind_type d) (kind_type f)) ≡ same (kind_type a) (kind_type b)
    same_arrows m p q = alike _ _
        (λ t. let s = (T_and _ _).0 t in (same_heads m).0 (p ∙ ap₂ arrow ((same_exact _ _).0 s.0) ((same_exact _ _).0 s.1) ∙ sym q))
        (λ t. let s = plain_arrow (sym p ∙ (same_heads m).1 t ∙ q) in (T_and _ _).1 ((same_exact _ _).1 s.0, (same_exact _ _).1 s.1))

    pub same_pairs : a.marks ≡ b.marks → head_type a.head ≡ tensor (kind_type c) (kind_type d) → head_type b.head ≡ tensor (kind_type e) (kind_type f)
        → (same (kind_type c) (kind_type e) && same (kind_type d) (kind_type f)) ≡ same (kind_type a) (kind_type b)
    same_pairs m p q = alike _ _
        (λ t. let s = (T_and _ _).0 t in (same_heads m).0 (p ∙ ap₂ tensor ((same_exact _ _).0 s.0) ((same_exact _ _).0 s.1) ∙ sym q))
        (λ t. let s = bangs_pair 0 0 _ _ _ _ (sym p ∙ (same_heads m).1 t ∙ q) in (T_and _ _).1 ((same_exact _ _).1 s.1, (same_exact _ _).1 s.2))

-- Heads that differ are not below each other.
pub not_bit : (h k : Head) → h ≡ Bit → (k ≡ Bit → ⊥) → Sub (head_type h) (head_type k) → ⊥
not_bit h k e n s = go k n (subst (λ (x : Head). Sub (head_type x) (head_type k)) e s)
  where
    go : (k : Head) → (k ≡ Bit → ⊥) → Sub bit (head_type k) → ⊥
    go Bit n s = n refl
    go Qubit n s = elim s [ ]
    go Unit n s = elim s [ ]
    go (Arrow' p i a q j b) n s = elim s [ ]
    go (Pair' p i a q j b) n s = elim s [ ]

pub not_qubit : (h k : Head) → h ≡ Qubit → (k ≡ Qubit → ⊥) → Sub (head_type h) (head_type k) → ⊥
not_qubit h k e n s = go k n (subst (λ (x : Head). Sub (head_type x) (head_type k)) e s)
  where
    go : (k : Head) → (k ≡ Qubit → ⊥) → Sub qbit (head_type k) → ⊥
    go Bit n s = elim s [ ]
    go Qubit n s = n refl
    go Unit n s = elim s [ ]
    go (Arrow' p i a q j b) n s = elim s [ ]
    go (Pair' p i a q j b) n s = elim s [ ]

pub not_unit : (h k : Head) → h ≡ Unit → (k ≡ Unit → ⊥) → Sub (head_type h) (head_type k) → ⊥
not_unit h k e n s = go k n (subst (λ (x : Head). Sub (head_type x) (head_type k)) e s)
  where
    go : (k : Head) → (k ≡ Unit → ⊥) → Sub unit (head_type k) → ⊥
    go Bit n s = elim s [ ]
    go Qubit n s = elim s [ ]
    go Unit n s = n refl
    go (Arrow' p i a q j b) n s = elim s [ ]
    go (Pair' p i a q j b) n s = elim s [ ]

abbrev boxed : Box (Prim.Unit {0}) Global → ℕ → Head → Box Kind Global
boxed p n h = record { ptr = p.ptr; alloc = p.alloc; value = record { marks = n; head = h } }

pub not_arrow : (h k : Head) (x y : Box Kind Global) → h ≡ Arrow x y → ((x y : Box Kind Global) → k ≡ Arrow x y → ⊥) → Sub (head_type h) (head_type k) → ⊥
not_arrow h k x y e n s = go k n (subst (λ (z : Head). Sub (head_type z) (head_type k)) e s)
  where
    go : {a b : Ty} (k : Head) → ((x y : Box Kind Global) → k ≡ Arrow x y → ⊥) → Sub (arrow a b) (head_type k) → ⊥
    go Bit n s = elim s [ ]
    go Qubit n s = elim s [ ]
    go Unit n s = elim s [ ]
    go (Arrow' p i a q j b) n s = n (boxed p i a) (boxed q j b) refl
    go (Pair' p i a q j b) n s = elim s [ ]

pub not_pair : (h k : Head) (x y : Box Kind Global) → h ≡ Pair x y → ((x y : Box Kind Global) → k ≡ Pair x y → ⊥) → Sub (head_type h) (head_type k) → ⊥
not_pair h k x y e n s = go k n (subst (λ (z : Head). Sub (head_type z) (head_type k)) e s)
  where
    go : {a b : Ty} (k : Head) → ((x y : Box Kind Global) → k ≡ Pair x y → ⊥) → Sub (tensor a b) (head_type k) → ⊥
    go Bit n s = elim s [ ]
    go Qubit n s = elim s [ ]
    go Unit n s = elim s [ ]
    go (Arrow' p i a q j b) n s = elim s [ ]
    go (Pair' p i a q j b) n s = n (boxed p i a) (boxed q j b) refl

-- the second test answers where the first holds, and else the first
pub second_answers : {x y z : Bool} → true ≡ x → (x && y) ≡ z → y ≡ z
second_answers {x = true} e f = f
second_answers {x = false} {y = y} {z = z} e f = cc

pub first_answers : {x z : Bool} (y : Bool) → false ≡ x → (x && y) ≡ z → false ≡ z
first_answers {x = true} {z = z} y e f = cc
first_answers {x = false} y e f = f

-- A copy under more marks.
pub more_of : (k a : Kind) (n more : ℕ) → kind_type k ≡ kind_type a → n ≡ min (k.marks + more) 18446744073709551615
    → bangs n (head_type k.head) ≡ bangs (min (a.marks + more) 18446744073709551615) (head_type a.head)
more_of k a n more e f =
    let m : k.marks ≡ a.marks = sym (kind_marks k) ∙ ap marks e ∙ kind_marks a in
    let h : head_type k.head ≡ head_type a.head = sym (kind_core k) ∙ ap core e ∙ kind_core a in
    ap₂ bangs (f ∙ ap (λ i. min (i + more) 18446744073709551615) m) h

-- One qubit at least.
pub so_many : (count counter : ℕ) (k : Kind) → (kind_type k ≡ qubits_type counter) → (count ≤ 1 → counter ≡ 1) → (1 ≤ count → counter ≤ count) → count ≤ counter
    → kind_type k ≡ qubits_type count
so_many zero counter k i o b l = i ∙ ap qubits_type (o (omega arith))
so_many (suc n) counter k i o b l = let e : counter ≡ suc n = let c = b (omega arith) in omega arith in i ∙ ap qubits_type e

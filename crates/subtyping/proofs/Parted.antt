-- Types taken apart: what stands after the marks is what the letter tells.
use Rattle.std.proofs.Common.{◌≡◌, ℕ, sym, ap, ◌∙◌, ap₂, subst, arith}
use Rattle.std.proofs.lemmas.Bool.{ne_eqb}
use Rattle.calculus.specs.Reading.{type_at}
use Rattle.calculus.specs.Stripping.{marks}
use Rattle.calculus.specs.Types.{Ty, arrow, tensor, bangs}
use Rattle.calculus.proofs.Subtyping.{under_marks}
use Rattle.subtyping.specs.Letters.{kind_of}
use Rattle.subtyping.specs.Meaning.{meant, Stripped}
use Rattle.subtyping.specs.Parting.{core_meant, PartsAt, Apart, PartsStand}
use Rattle.subtyping.specs.declared.parting.Core.{Core}
use Rattle.subtyping.specs.declared.parting.Core.TheVariants.{Bit, Qubit, Unit as Empty, Arrow, Pair}
use Rattle.subtyping.specs.declared.placed.TypeAt.{TypeAt}
use Rattle.subtyping.proofs.Places.{Joins, arrow_here, pair_here, stands, Strips, strips}
use Rattle.subtyping.proofs.Related.{core_bare, unmarked, leaf, leaf_by_kind}

module _ (a : TypeAt) (u : ℕ × TypeAt) (h : Stripped a u) where
  s : Strips a u.0 u.1
  s = strips a u h

  apart : (c : Core) → meant u.1 ≡ core_meant c → PartsAt u.1.types.now u.1.place c → Apart a (u.0, c)
  apart c e b = record {
    is = under_marks (meant a) ∙ ap₂ bangs (sym s.count) (sym s.left_over ∙ e);
    count = h.count;
    few = h.few;
    parts = subst (λ p. PartsAt a.types.now p c) h.left_over.same_place (subst (λ ts. PartsAt ts u.1.place c) h.left_over.same_table b);
  }

  pub not_marked : kind_of (meant u.1) ≡ 33 → ⊥
  not_marked = unmarked (meant u.1) (ap marks s.left_over ∙ core_bare (meant a))

  joined : (join : Ty → Ty → Ty) (f g : TypeAt) → Joins u.1.types.now u.1.place join → PartsStand u.1.types.now u.1.place f g → meant u.1 ≡ join (meant f) (meant g)
  joined join f g j p =
      let k = stands _ _ f p.first_bare in
      sym s.bare ∙ j.is ∙ ap₂ join (sym k.is) (ap (type_at u.1.types.now) (sym k.ends) ∙ sym (stands _ _ g p.second_bare).is)

  pub an_arrow : (f g : TypeAt) → kind_of (meant u.1) ≡ 62 → PartsStand u.1.types.now u.1.place f g → Apart a (u.0, Arrow f g)
  an_arrow f g k p = apart (Arrow f g) (joined arrow f g (arrow_here _ u.1.place u.1.placed.stands u.1.placed.within (ap kind_of s.bare ∙ k)) p) p

  pub a_pair : (f g : TypeAt) → kind_of (meant u.1) ≡ 42 → PartsStand u.1.types.now u.1.place f g → Apart a (u.0, Pair f g)
  a_pair f g k p = apart (Pair f g) (joined tensor f g (pair_here _ u.1.place u.1.placed.stands u.1.placed.within (ap kind_of s.bare ∙ k)) p) p

  -- a leaf is what its letter says
  leaf_is : (kind_of (meant u.1) ≡ 62 → ⊥) → (kind_of (meant u.1) ≡ 42 → ⊥) → meant u.1 ≡ leaf (kind_of (meant u.1))
  leaf_is r t = (leaf_by_kind (meant u.1) (not_marked, r, t)).0

  pub a_bit : kind_of (meant u.1) ≡ 98 → Apart a (u.0, Bit)
  a_bit k = apart Bit (leaf_is (λ e. omega (arith, k)) (λ e. omega (arith, k)) ∙ ap leaf k) tt

  pub a_qubit : kind_of (meant u.1) ≡ 113 → Apart a (u.0, Qubit)
  a_qubit k = apart Qubit (leaf_is (λ e. omega (arith, k)) (λ e. omega (arith, k)) ∙ ap leaf k) tt

  pub a_unit : (kind_of (meant u.1) ≡ 98 → ⊥) → (kind_of (meant u.1) ≡ 113 → ⊥) → (kind_of (meant u.1) ≡ 62 → ⊥) → (kind_of (meant u.1) ≡ 42 → ⊥) → Apart a (u.0, Empty)
  a_unit b q r t = apart Empty (leaf_is r t ∙ simp (ne_eqb _ 98 b, ne_eqb _ 113 q)) tt

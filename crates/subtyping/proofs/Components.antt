-- The components of a pair, by what its type is taken apart into.
use Rattle.std.proofs.Common.{◌≡◌, ℕ, ◌+◌, true, false, sym, refl, ap, ap₂, ◌∙◌, subst, add-zero, arith}
use Rattle.calculus.specs.Stripping.{same, marks, core, first, second, is_tensor}
use Rattle.calculus.specs.Types.{Ty, tensor, bangs}
use Rattle.calculus.proofs.Reading.{T_true}
use Rattle.calculus.proofs.Stripping.{same_exact, same_refl}
use Rattle.calculus.proofs.Subtyping.{core_bangs, first_bangs, second_bangs, marks_bangs}
use Rattle.subtyping.specs.Meaning.{meant, standing}
use Rattle.subtyping.specs.Parting.{core_meant, Apart, Components, PartsAt, PartsStand}
use Rattle.subtyping.specs.Placing.{type_end}
use Rattle.subtyping.specs.declared.parting.Core.{Core}
use Rattle.subtyping.specs.declared.parting.Core.TheVariants.{Bit, Qubit, Unit as Empty, Arrow, Pair}
use Rattle.subtyping.specs.declared.placed.TypeAt.{TypeAt}
use Rattle.subtyping.proofs.Related.{is_false}

core_once : (d : Core) → core (core_meant d) ≡ core_meant d
core_once Bit = refl
core_once Qubit = refl
core_once Empty = refl
core_once (Arrow a b) = refl
core_once (Pair a b) = refl

not_pair : (d : Core) → ((a b : TypeAt) → d ≡ Pair a b → ⊥) → (u v : Ty) → core_meant d ≡ tensor u v → ⊥
not_pair Bit n u v e = cc
not_pair Qubit n u v e = cc
not_pair Empty n u v e = cc
not_pair (Arrow a b) n u v e = cc
not_pair (Pair a b) n u v e = n a b refl

-- A type with so many more marks in front of it.
pub record More (a : TypeAt) (n : ℕ) (b : TypeAt) : Type 0 where
  pub count : b.marks ≡ a.marks + n
  pub stands : (b.types.now ≡ a.types.now) × (b.place ≡ a.place)
  pub is : meant b ≡ bangs n (meant a)

module _ (a : TypeAt) (x : ℕ × Core) (h : Apart a x) where
  pub core_is : core (meant a) ≡ core_meant x.1
  core_is = ap core h.is ∙ core_bangs x.0 (core_meant x.1) ∙ core_once x.1

  pub no_tensor : ((u v : TypeAt) → x.1 ≡ Pair u v → ⊥) → is_tensor (meant a) ≡ false
  no_tensor n = is_false _ (λ t. not_pair x.1 n _ _ (sym core_is ∙ (same_exact (core (meant a)) (tensor (first (meant a)) (second (meant a)))).0 t))

  module _ (u v : TypeAt) (e : x.1 ≡ Pair u v) where
    pair_is : meant a ≡ bangs x.0 (tensor (meant u) (meant v))
    pair_is = h.is ∙ ap (λ d. bangs x.0 (core_meant d)) e

    pair_marks : marks (meant a) ≡ x.0
    pair_marks = ap marks pair_is ∙ marks_bangs x.0 _ ∙ add-zero x.0

    pub tensor_is : is_tensor (meant a) ≡ true
    tensor_is =
        let f = ap first pair_is ∙ first_bangs x.0 _ in
        let g = ap second pair_is ∙ second_bangs x.0 _ in
        ap (λ s. same s (tensor (first (meant a)) (second (meant a)))) (core_is ∙ ap core_meant e)
        ∙ ap₂ (λ s t. same (tensor (meant u) (meant v)) (tensor s t)) f g
        ∙ T_true _ (same_refl (tensor (meant u) (meant v)))

    parts : PartsStand a.types.now (a.place + marks (standing a)) u v
    parts = subst (PartsAt a.types.now (a.place + marks (standing a))) e h.parts

    pub components : (l r : TypeAt) → More u x.0 l → More v x.0 r → Components a l r
    components l r p q =
        let b = parts.first_bare in
        let c = parts.second_bare in
        record {
          left_is = p.is ∙ sym (ap₂ bangs pair_marks (ap first pair_is ∙ first_bangs x.0 _));
          right_is = q.is ∙ sym (ap₂ bangs pair_marks (ap second pair_is ∙ second_bangs x.0 _));
          left_at = record { same_table = p.stands.0 ∙ b.same_table; same_marks = omega (arith, p.count, b.no_marks, h.count); same_place = p.stands.1 ∙ b.same_place };
          right_at = record {
            same_table = q.stands.0 ∙ c.same_table;
            same_marks = omega (arith, q.count, c.no_marks, h.count);
            same_place = q.stands.1 ∙ c.same_place ∙ ap₂ type_end (sym p.stands.0) (sym p.stands.1);
          };
        }

-- What the typing rules ask of claims, by what one claim is taken apart into.
use Rattle.std.proofs.Common.{◌≡◌, ℕ, true, false, ◌&&◌, sym, refl, ap, ap₂, ◌∙◌, add-zero}
use Rattle.calculus.specs.Stripping.{same, marks, core, first}
use Rattle.calculus.specs.Types.{Ty, unit, arrow, bangs}
use Rattle.calculus.proofs.Reading.{T_true}
use Rattle.calculus.proofs.Stripping.{same_exact, same_refl}
use Rattle.subtyping.specs.Meaning.{meant}
use Rattle.subtyping.specs.Parting.{core_meant, Apart}
use Rattle.subtyping.specs.declared.parting.Core.{Core}
use Rattle.subtyping.specs.declared.parting.Core.TheVariants.{Bit, Qubit, Unit as Empty, Arrow, Pair}
use Rattle.subtyping.specs.declared.placed.TypeAt.{TypeAt}
use Rattle.subtyping.proofs.Components.{core_is}
use Rattle.calculus.proofs.Subtyping.{first_bangs, marks_bangs}
use Rattle.subtyping.proofs.Related.{is_false, same_arrows}
use Rattle.verdict.specs.Claims.{function_fits, unit_fits}

not_arrow : (d : Core) → ((a b : TypeAt) → d ≡ Arrow a b → ⊥) → (u v : Ty) → core_meant d ≡ arrow u v → ⊥
not_arrow Bit n u v e = cc
not_arrow Qubit n u v e = cc
not_arrow Empty n u v e = cc
not_arrow (Arrow a b) n u v e = n a b refl
not_arrow (Pair a b) n u v e = cc

not_unit : (d : Core) → (d ≡ Empty → ⊥) → core_meant d ≡ unit → ⊥
not_unit Bit n e = cc
not_unit Qubit n e = cc
not_unit Empty n e = n refl
not_unit (Arrow a b) n e = cc
not_unit (Pair a b) n e = cc

module _ (a : TypeAt) (x : ℕ × Core) (h : Apart a x) where
  pub unit_by : x.1 ≡ Empty → true ≡ unit_fits (meant a)
  unit_by e = sym (ap (λ t. same t unit) (core_is a x h ∙ ap core_meant e) ∙ T_true _ (same_refl unit))

  pub unit_none : (x.1 ≡ Empty → ⊥) → false ≡ unit_fits (meant a)
  unit_none n = sym (is_false _ (λ t. not_unit x.1 n (sym (core_is a x h) ∙ (same_exact (core (meant a)) unit).0 t)))

  pub function_none : ((u v : TypeAt) → x.1 ≡ Arrow u v → ⊥) → (b : Ty) → false ≡ function_fits (meant a) b
  function_none n b = sym (is_false _ (λ t. not_arrow x.1 n _ _ (sym (core_is a x h) ∙ (same_exact (core (meant a)) (arrow (first (meant a)) b)).0 t)))

  module _ (u v : TypeAt) (e : x.1 ≡ Arrow u v) where
    pub arrow_is : meant a ≡ bangs x.0 (arrow (meant u) (meant v))
    arrow_is = h.is ∙ ap (λ d. bangs x.0 (core_meant d)) e

    pub arrow_first : first (meant a) ≡ meant u
    arrow_first = ap first arrow_is ∙ first_bangs x.0 _

    pub arrow_marks : x.0 ≡ marks (meant a)
    arrow_marks = sym (ap marks arrow_is ∙ marks_bangs x.0 _ ∙ add-zero x.0)

    pub function_by : (b : Ty) → function_fits (meant a) b ≡ same (meant v) b
    function_by b =
        ap₂ (λ s t. same s (arrow t b)) (core_is a x h ∙ ap core_meant e) arrow_first
        ∙ same_arrows (meant u) (meant v) (meant u) b
        ∙ ap (λ z. z && same (meant v) b) (T_true _ (same_refl (meant u)))

-- The relations of two types by their marks, their letters and their parts.
use Rattle.std.proofs.Common.{◌≡◌, ℕ, zero, suc, Bool, true, false, cond, ◌&&◌, T, eqb, ◌↔◌, [], ◌∷◌, length, sym, refl, ap, ◌∙◌, subst, arith}
use Rattle.std.proofs.lemmas.Bool.{eqb-true, eq-eqb}
use Rattle.calculus.specs.Types.{Ty, bit, qbit, unit, bang, arrow, tensor, bangs, Sub, sub_bit, sub_qbit, sub_unit, sub_use, sub_keep, sub_tensor, sub_arrow}
use Rattle.calculus.specs.Cells.{type_cells}
use Rattle.calculus.specs.Stripping.{same, marks, core, first, second, marks_fit, agree}
use Rattle.calculus.proofs.Reading.{T_true}
use Rattle.calculus.proofs.Stripping.{same_exact, subtype_exact, agree_bang, T_and}
use Rattle.calculus.proofs.Subtyping.{under_marks}
use Rattle.subtyping.specs.Relating.{Asked, equality, subtyping, related, marks_agree}
use Rattle.subtyping.specs.Letters.{kind_of}

pub same_tests : (a b : Bool) → (T a → T b) → (T b → T a) → a ≡ b
same_tests true true f g = refl
same_tests true false f g = absurd (f tt)
same_tests false true f g = absurd (g tt)
same_tests false false f g = refl

pub is_false : (b : Bool) → (T b → ⊥) → b ≡ false
is_false true h = absurd (h tt)
is_false false h = refl

abbrev Related : Asked → Ty → Ty → Type 0
Related equality a b = a ≡ b
Related subtyping a b = Sub a b

related_exact : (r : Asked) (a b : Ty) → T (related r a b) ↔ Related r a b
related_exact equality a b = same_exact a b
related_exact subtyping a b = subtype_exact a b

pub core_bare : (a : Ty) → marks (core a) ≡ 0
core_bare bit = refl
core_bare qbit = refl
core_bare unit = refl
core_bare (bang a) = core_bare a
core_bare (arrow a b) = refl
core_bare (tensor a b) = refl

agree_left : (s : Bool) (a t : Ty) → agree s a t ≡ agree s (core a) t
agree_left s bit t = refl
agree_left s qbit t = refl
agree_left s unit t = refl
agree_left s (bang a) t = agree_left s a t
agree_left s (arrow a b) t = refl
agree_left s (tensor a b) t = refl

agree_right : (s : Bool) (a t : Ty) → agree s a t ≡ agree s a (core t)
agree_right s a bit = refl
agree_right s a qbit = refl
agree_right s a unit = refl
agree_right s a (bang t) = agree_bang s a t ∙ agree_right s a t
agree_right s a (arrow t u) = refl
agree_right s a (tensor t u) = refl

same_marked : (a b : Ty) → same a b ≡ eqb (marks a) (marks b) && same (core a) (core b)
same_marked a b =
    same_tests _ _
    (λ h. let e = (same_exact a b).0 h in (T_and _ _).1 (subst T (sym (eq-eqb (marks a) (marks b) (ap marks e))) tt, (same_exact (core a) (core b)).1 (ap core e)))
    (λ h. let p = (T_and (eqb (marks a) (marks b)) (same (core a) (core b))).0 h in
    (same_exact a b).1 (under_marks a ∙ ap (λ n. bangs n (core a)) (eqb-true (marks a) (marks b) (T_true _ p.0)) ∙ ap (bangs (marks b)) ((same_exact (core a) (core b)).0 p.1) ∙ sym (under_marks b)))

bare_fit : (n m : ℕ) (v : Bool) → m ≡ 0 → (marks_fit n m && v) ≡ v
bare_fit n zero v e = refl
bare_fit n (suc m) v e = absurd (omega arith)

-- marks are compared apart from what they stand before
pub related_marked : (r : Asked) (a b : Ty) → related r a b ≡ marks_agree r (marks a) (marks b) && related r (core a) (core b)
related_marked equality a b = same_marked a b
related_marked subtyping a b =
    ap (λ v. marks_fit (marks a) (marks b) && v) (agree_left true a b ∙ agree_right true (core a) b ∙ sym (bare_fit (marks (core a)) (marks (core b)) (agree true (core a) (core b)) (core_bare b)))

from_arrows : (r : Asked) (a b c d : Ty) → Related r (arrow a b) (arrow c d) → Related r c a × Related r b d
from_arrows equality a b c d e = (ap first (sym e), ap second e)
from_arrows subtyping a b c d (sub_arrow h k) = (h, k)

to_arrows : (r : Asked) (a b c d : Ty) → Related r c a → Related r b d → Related r (arrow a b) (arrow c d)
to_arrows equality a b c d e f = cc
to_arrows subtyping a b c d h k = sub_arrow h k

from_pairs : (r : Asked) (a b c d : Ty) → Related r (tensor a b) (tensor c d) → Related r a c × Related r b d
from_pairs equality a b c d e = (ap first e, ap second e)
from_pairs subtyping a b c d (sub_tensor h k) = (h, k)

to_pairs : (r : Asked) (a b c d : Ty) → Related r a c → Related r b d → Related r (tensor a b) (tensor c d)
to_pairs equality a b c d e f = cc
to_pairs subtyping a b c d h k = sub_tensor h k

pub related_arrows : (r : Asked) (a b c d : Ty) → related r (arrow a b) (arrow c d) ≡ related r c a && related r b d
related_arrows r a b c d =
    same_tests _ _
    (λ h. let p = from_arrows r a b c d ((related_exact r (arrow a b) (arrow c d)).0 h) in (T_and _ _).1 ((related_exact r c a).1 p.0, (related_exact r b d).1 p.1))
    (λ h. let p = (T_and (related r c a) (related r b d)).0 h in
    (related_exact r (arrow a b) (arrow c d)).1 (to_arrows r a b c d ((related_exact r c a).0 p.0) ((related_exact r b d).0 p.1)))

pub same_arrows : (a b c d : Ty) → same (arrow a b) (arrow c d) ≡ same c a && same b d
same_arrows a b c d = related_arrows equality a b c d

pub related_pairs : (r : Asked) (a b c d : Ty) → related r (tensor a b) (tensor c d) ≡ related r a c && related r b d
related_pairs r a b c d =
    same_tests _ _
    (λ h. let p = from_pairs r a b c d ((related_exact r (tensor a b) (tensor c d)).0 h) in (T_and _ _).1 ((related_exact r a c).1 p.0, (related_exact r b d).1 p.1))
    (λ h. let p = (T_and (related r a c) (related r b d)).0 h in
    (related_exact r (tensor a b) (tensor c d)).1 (to_pairs r a b c d ((related_exact r a c).0 p.0) ((related_exact r b d).0 p.1)))

sub_kind : {a b : Ty} → Sub a b → marks a ≡ 0 → kind_of a ≡ kind_of b
sub_kind sub_bit e = refl
sub_kind sub_qbit e = refl
sub_kind sub_unit e = refl
sub_kind (sub_use h) e = absurd (omega arith)
sub_kind (sub_keep h) e = absurd (omega arith)
sub_kind (sub_tensor h k) e = refl
sub_kind (sub_arrow h k) e = refl

kinds_agree : (r : Asked) (a b : Ty) → Related r a b → marks a ≡ 0 → kind_of a ≡ kind_of b
kinds_agree equality a b h e = ap kind_of h
kinds_agree subtyping a b h e = sub_kind h e

pub unlike : (r : Asked) (a b : Ty) → marks a ≡ 0 → (kind_of a ≡ kind_of b → ⊥) → related r a b ≡ false
unlike r a b e n = is_false _ (λ h. n (kinds_agree r a b ((related_exact r a b).0 h) e))

-- A type by its letter: an arrow, a pair, or one that the letter gives.
pub arrow_by_kind : (a : Ty) → kind_of a ≡ 62 → a ≡ arrow (first a) (second a)
arrow_by_kind bit e = absurd (omega arith)
arrow_by_kind qbit e = absurd (omega arith)
arrow_by_kind unit e = absurd (omega arith)
arrow_by_kind (bang a) e = absurd (omega arith)
arrow_by_kind (arrow a b) e = refl
arrow_by_kind (tensor a b) e = absurd (omega arith)

pub pair_by_kind : (a : Ty) → kind_of a ≡ 42 → a ≡ tensor (first a) (second a)
pair_by_kind bit e = absurd (omega arith)
pair_by_kind qbit e = absurd (omega arith)
pair_by_kind unit e = absurd (omega arith)
pair_by_kind (bang a) e = absurd (omega arith)
pair_by_kind (arrow a b) e = absurd (omega arith)
pair_by_kind (tensor a b) e = refl

pub unmarked : (a : Ty) → marks a ≡ 0 → kind_of a ≡ 33 → ⊥
unmarked bit m e = omega arith
unmarked qbit m e = omega arith
unmarked unit m e = omega arith
unmarked (bang a) m e = omega arith
unmarked (arrow a b) m e = omega arith
unmarked (tensor a b) m e = omega arith

abbrev pub leaf : ℕ → Ty
leaf k = cond (eqb k 98) bit (cond (eqb k 113) qbit unit)

abbrev pub Leaf : ℕ → Type 0
Leaf k = (k ≡ 33 → ⊥) × (k ≡ 62 → ⊥) × (k ≡ 42 → ⊥)

pub leaf_by_kind : (a : Ty) → Leaf (kind_of a) → (a ≡ leaf (kind_of a)) × (type_cells a ≡ record { kind = kind_of a } ∷ []) × ((r : Asked) → related r a a ≡ true)
leaf_by_kind bit n = (refl, refl, λ r. T_true _ ((related_exact r bit bit).1 (elim r as (λ r. Related r bit bit) [ equality ↦ refl | subtyping ↦ sub_bit ])))
leaf_by_kind qbit n = (refl, refl, λ r. T_true _ ((related_exact r qbit qbit).1 (elim r as (λ r. Related r qbit qbit) [ equality ↦ refl | subtyping ↦ sub_qbit ])))
leaf_by_kind unit n = (refl, refl, λ r. T_true _ ((related_exact r unit unit).1 (elim r as (λ r. Related r unit unit) [ equality ↦ refl | subtyping ↦ sub_unit ])))
leaf_by_kind (bang a) n = absurd (n.0 refl)
leaf_by_kind (arrow a b) n = absurd (n.1 refl)
leaf_by_kind (tensor a b) n = absurd (n.2 refl)

pub alike_leaves : (r : Asked) (a b : Ty) → kind_of a ≡ kind_of b → Leaf (kind_of a) → (related r a b ≡ true) × (length (type_cells a) ≡ 1) × (length (type_cells b) ≡ 1)
alike_leaves r a b e n =
    let p = leaf_by_kind a n in
    let q = leaf_by_kind b (subst Leaf e n) in
    let s : b ≡ a = q.0 ∙ ap leaf (sym e) ∙ sym p.0 in
    (ap (related r a) s ∙ p.2 r, ap length p.1, ap length q.1)

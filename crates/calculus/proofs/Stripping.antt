-- The subtype test decides subtyping.
use Rattle.std.proofs.Common.{◌≡◌, ℕ, zero, suc, Bool, true, false, not, ◌&&◌, T, ◌↔◌, sym, refl, subst₂}
use Rattle.calculus.specs.Types.{Ty, bit, qbit, unit, bang, arrow, tensor, bangs, TyDiscrete, Sub, sub_bit, sub_qbit, sub_unit, sub_use, sub_keep, sub_tensor, sub_arrow}
use Rattle.calculus.proofs.Subtyping.{sub_drop, sub_bangs, under_marks}
use Rattle.calculus.specs.Stripping.{decided, same, marks, core, first, second, marks_fit, fit, agree, SameExact, SubtypeExact}

pub T_and : (a b : Bool) → T (a && b) ↔ (T a × T b)
T_and true b = (λ h. (tt, h), λ h. h.1)
T_and false b = (λ h. absurd h, λ h. h.0)

decided_exact : {A : Type 0} (d : Dec A) → T (decided d) ↔ A
decided_exact (yes p) = (λ h. p, λ h. tt)
decided_exact (no p) = (λ h. absurd h, p)

pub same_exact : SameExact
same_exact a b = decided_exact (TyDiscrete a b)

pub same_refl : (a : Ty) → T (same a a)
same_refl a = (same_exact a a).1 refl

marked : {a b : Ty} (n m : ℕ) → T (marks_fit n m) → Sub a b → Sub (bangs n a) (bangs m b)
marked n zero f h = sub_drop n h
marked zero (suc m) f h = elim f [ ]
marked (suc n) (suc m) f h = sub_bangs n (suc m) h

abbrev Directed : Bool → Ty → Ty → Type 0
Directed true a t = Sub a t
Directed false a t = Sub t a

of_cores : (s : Bool) (a t : Ty) → T (fit s a t) → Directed s (core a) (core t) → Directed s a t
of_cores true a t f h = subst₂ Sub (sym (under_marks a)) (sym (under_marks t)) (marked (marks a) (marks t) f h)
of_cores false a t f h = subst₂ Sub (sym (under_marks t)) (sym (under_marks a)) (marked (marks t) (marks a) f h)

on_itself : (s : Bool) (a : Ty) → Sub a a → Directed s a a
on_itself true a h = h
on_itself false a h = h

on_arrows : (s : Bool) (a b c d : Ty) → Directed (not s) a c → Directed s b d → Directed s (arrow a b) (arrow c d)
on_arrows true a b c d h k = sub_arrow h k
on_arrows false a b c d h k = sub_arrow h k

on_pairs : (s : Bool) (a b c d : Ty) → Directed s a c → Directed s b d → Directed s (tensor a b) (tensor c d)
on_pairs true a b c d h k = sub_tensor h k
on_pairs false a b c d h k = sub_tensor h k

agreed : (s : Bool) (a t : Ty) → T (agree s a t) → Directed s (core a) (core t)
agreed s bit t h = rw ((same_exact (core t) bit).0 h) (on_itself s bit sub_bit)
agreed s qbit t h = rw ((same_exact (core t) qbit).0 h) (on_itself s qbit sub_qbit)
agreed s unit t h = rw ((same_exact (core t) unit).0 h) (on_itself s unit sub_unit)
agreed s (bang a) t h = agreed s a t h
agreed s (arrow a b) t h =
    let p = simp T_and at h in
    rw ((same_exact (core t) (arrow (first t) (second t))).0 p.0)
    (on_arrows s a b (first t) (second t) (of_cores (not s) a (first t) p.1.0.0 (agreed (not s) a (first t) p.1.0.1)) (of_cores s b (second t) p.1.1.0 (agreed s b (second t) p.1.1.1)))
agreed s (tensor a b) t h =
    let p = simp T_and at h in
    rw ((same_exact (core t) (tensor (first t) (second t))).0 p.0)
    (on_pairs s a b (first t) (second t) (of_cores s a (first t) p.1.0.0 (agreed s a (first t) p.1.0.1)) (of_cores s b (second t) p.1.1.0 (agreed s b (second t) p.1.1.1)))

some_fit : (n m : ℕ) → T (marks_fit (suc n) m)
some_fit n zero = tt
some_fit n (suc m) = tt

fits : {a b : Ty} → Sub a b → T (marks_fit (marks a) (marks b))
fits sub_bit = tt
fits sub_qbit = tt
fits sub_unit = tt
fits (sub_use {a = a} {b = b} h) = some_fit (marks a) (marks b)
fits (sub_keep h) = tt
fits (sub_tensor h k) = tt
fits (sub_arrow h k) = tt

pub agree_bang : (s : Bool) (a t : Ty) → agree s a (bang t) ≡ agree s a t
agree_bang s bit t = refl
agree_bang s qbit t = refl
agree_bang s unit t = refl
agree_bang s (bang a) t = agree_bang s a t
agree_bang s (arrow a b) t = refl
agree_bang s (tensor a b) t = refl

agrees : {a b : Ty} → Sub a b → T (agree true a b) × T (agree false b a)
agrees sub_bit = (tt, tt)
agrees sub_qbit = (tt, tt)
agrees sub_unit = (tt, tt)
agrees (sub_use {a = a} {b = b} h) = ((agrees h).0, rw (agree_bang false b a) (agrees h).1)
agrees (sub_keep {a = a} {b = b} h) = (rw (agree_bang true a b) (agrees h).0, (agrees h).1)
agrees (sub_tensor {a = a} {b = b} {c = c} {d = d} h k) =
    simp T_and ((same_refl (tensor c d), ((fits h, (agrees h).0), (fits k, (agrees k).0))), (same_refl (tensor a b), ((fits h, (agrees h).1), (fits k, (agrees k).1))))
agrees (sub_arrow {a = a} {b = b} {c = c} {d = d} h k) =
    simp T_and ((same_refl (arrow c d), ((fits h, (agrees h).1), (fits k, (agrees k).0))), (same_refl (arrow a b), ((fits h, (agrees h).0), (fits k, (agrees k).1))))

pub subtype_exact : SubtypeExact
subtype_exact a b = (λ h. let p = simp T_and at h in of_cores true a b p.0 (agreed true a b p.1), λ h. simp T_and (fits h, (agrees h).0))

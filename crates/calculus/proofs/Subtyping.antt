-- Subtyping is a preorder that keeps a type's head, which has the article's lemmas 4 to 7; and types under their marks.
use Rattle.std.proofs.Common.{◌≡◌, ℕ, zero, suc, ◌+◌, sym, refl, ap, ◌∙◌, subst, add-zero, arith}
use Rattle.calculus.specs.Types.{Ty, bit, qbit, unit, bang, arrow, tensor, bangs, Sub, sub_bit, sub_qbit, sub_unit, sub_use, sub_keep, sub_tensor, sub_arrow, Duplicable}
use Rattle.calculus.specs.Stripping.{marks, core, first, second}

pub sub_refl : (a : Ty) → Sub a a
sub_refl bit = sub_bit
sub_refl qbit = sub_qbit
sub_refl unit = sub_unit
sub_refl (bang a) = sub_keep (sub_use (sub_refl a))
sub_refl (arrow a b) = sub_arrow (sub_refl a) (sub_refl b)
sub_refl (tensor a b) = sub_tensor (sub_refl a) (sub_refl b)

-- Transitivity at one derivation, on both sides: an arrow's domain turns the one into the other.
abbrev After : Ty → Ty → Type 0
After a b = (c : Ty) → Sub b c → Sub a c

abbrev Before : Ty → Ty → Type 0
Before a b = (c : Ty) → Sub c a → Sub c b

after_keep : {a b c : Ty} → After (bang a) b → Sub (bang b) c → Sub (bang a) c
after_keep h (sub_use q) = h _ q
after_keep h (sub_keep q) = sub_keep (after_keep h q)

before_use : {a b c : Ty} → Before a b → Sub c (bang a) → Sub c b
before_use h (sub_use q) = sub_use (before_use h q)
before_use h (sub_keep q) = h _ q

before_keep : {a b c : Ty} → Before (bang a) b → Sub c (bang a) → Sub c (bang b)
before_keep h (sub_use q) = sub_use (before_keep h q)
before_keep h (sub_keep q) = sub_keep (h _ (sub_keep q))

after_pair : {a b x y : Ty} (c : Ty) → After a x → After b y → Sub (tensor x y) c → Sub (tensor a b) c
after_pair c h k (sub_tensor q r) = sub_tensor (h _ q) (k _ r)

before_pair : {a b x y c : Ty} → Before a x → Before b y → Sub c (tensor a b) → Sub c (tensor x y)
before_pair h k (sub_use q) = sub_use (before_pair h k q)
before_pair h k (sub_tensor q r) = sub_tensor (h _ q) (k _ r)

after_arrow : {a b x y : Ty} (c : Ty) → Before x a → After b y → Sub (arrow x y) c → Sub (arrow a b) c
after_arrow c h k (sub_arrow q r) = sub_arrow (h _ q) (k _ r)

before_arrow : {a b x y c : Ty} → After x a → Before b y → Sub c (arrow a b) → Sub c (arrow x y)
before_arrow h k (sub_use q) = sub_use (before_arrow h k q)
before_arrow h k (sub_arrow q r) = sub_arrow (h _ q) (k _ r)

both_sides : {a b : Ty} → Sub a b → After a b × Before a b
both_sides sub_bit = ((λ c q. q), (λ c q. q))
both_sides sub_qbit = ((λ c q. q), (λ c q. q))
both_sides sub_unit = ((λ c q. q), (λ c q. q))
both_sides (sub_use p) = ((λ c q. sub_use ((both_sides p).0 c q)), (λ c. before_use (both_sides p).1))
both_sides (sub_keep p) = ((λ c. after_keep (both_sides p).0), (λ c. before_keep (both_sides p).1))
both_sides (sub_tensor p q) = ((λ c. after_pair c (both_sides p).0 (both_sides q).0), (λ c. before_pair (both_sides p).1 (both_sides q).1))
both_sides (sub_arrow p q) = ((λ c. after_arrow c (both_sides p).1 (both_sides q).0), (λ c. before_arrow (both_sides p).0 (both_sides q).1))

pub sub_trans : {a b c : Ty} → Sub a b → Sub b c → Sub a c
sub_trans p q = (both_sides p).0 _ q

-- Marks may be dropped, and changed for others while one is left.
pub sub_drop : (n : ℕ) {a b : Ty} → Sub a b → Sub (bangs n a) b
sub_drop zero p = p
sub_drop (suc n) p = sub_use (sub_drop n p)

pub sub_bangs : (n m : ℕ) {a b : Ty} → Sub a b → Sub (bangs (suc n) a) (bangs m b)
sub_bangs n zero p = sub_drop (suc n) p
sub_bangs n (suc m) p = sub_keep (sub_bangs n m p)

-- What is below a duplicable type is duplicable.
pub sub_duplicable : {a b : Ty} → Sub a b → Duplicable b → Duplicable a
sub_duplicable (sub_use p) d = tt
sub_duplicable (sub_keep p) d = tt
sub_duplicable sub_bit d = d
sub_duplicable sub_qbit d = d
sub_duplicable sub_unit d = d
sub_duplicable (sub_tensor p q) d = d
sub_duplicable (sub_arrow p q) d = d

-- A type begins with a bang or is not duplicable.
pub data Marking : Ty → Type 0 where
  a_bang : {a : Ty} → Marking (bang a)
  no_bang : {a : Ty} → (Duplicable a → ⊥) → Marking a

pub marking : (a : Ty) → Marking a
marking bit = no_bang (λ d. d)
marking qbit = no_bang (λ d. d)
marking unit = no_bang (λ d. d)
marking (bang a) = a_bang
marking (arrow a b) = no_bang (λ d. d)
marking (tensor a b) = no_bang (λ d. d)

-- A type is some bangs before a core that begins with none.
pub under_marks : (a : Ty) → a ≡ bangs (marks a) (core a)
under_marks bit = refl
under_marks qbit = refl
under_marks unit = refl
under_marks (bang a) = ap bang (under_marks a)
under_marks (arrow a b) = refl
under_marks (tensor a b) = refl

pub core_bangs : (n : ℕ) (a : Ty) → core (bangs n a) ≡ core a
core_bangs zero a = refl
core_bangs (suc n) a = core_bangs n a

pub first_bangs : (n : ℕ) (a : Ty) → first (bangs n a) ≡ first a
first_bangs zero a = refl
first_bangs (suc n) a = first_bangs n a

pub second_bangs : (n : ℕ) (a : Ty) → second (bangs n a) ≡ second a
second_bangs zero a = refl
second_bangs (suc n) a = second_bangs n a

pub marks_bangs : (n : ℕ) (a : Ty) → marks (bangs n a) ≡ n + marks a
marks_bangs zero a = omega arith
marks_bangs (suc n) a = omega (arith, marks_bangs n a)

pub sub_core : {a b : Ty} → Sub a b → Sub (core a) (core b)
sub_core sub_bit = sub_bit
sub_core sub_qbit = sub_qbit
sub_core sub_unit = sub_unit
sub_core (sub_use p) = sub_core p
sub_core (sub_keep p) = sub_core p
sub_core (sub_tensor p q) = sub_tensor p q
sub_core (sub_arrow p q) = sub_arrow p q

-- What stands above a pair, an arrow, the unit.
above_pair : {a b c : Ty} → Sub (tensor a b) c → (x : Ty) × (y : Ty) × (c ≡ tensor x y) × Sub a x × Sub b y
above_pair (sub_tensor p q) = (_, _, refl, p, q)

pub above_arrow : {a b c : Ty} → Sub (arrow a b) c → (x : Ty) × (y : Ty) × (c ≡ arrow x y) × Sub x a × Sub b y
above_arrow (sub_arrow p q) = (_, _, refl, p, q)

above_unit : {c : Ty} → Sub unit c → c ≡ unit
above_unit sub_unit = refl

pub under_marks_is : (t c : Ty) → core t ≡ c → t ≡ bangs (marks t) c
under_marks_is t c e = under_marks t ∙ ap (bangs (marks t)) e

pub pair_above : {a b s t : Ty} (n : ℕ) → s ≡ bangs n (tensor a b) → Sub s t → (x : Ty) × (y : Ty) × (t ≡ bangs (marks t) (tensor x y)) × Sub a x × Sub b y
pair_above {a} {b} {s} {t} n e p =
    let q = above_pair (rw (ap core e ∙ core_bangs n (tensor a b)) at (sub_core p)) in (q.0, q.1, under_marks_is t _ q.2, q.3, q.4)

pub arrow_above : {a b s t : Ty} (n : ℕ) → s ≡ bangs n (arrow a b) → Sub s t → (x : Ty) × (y : Ty) × (t ≡ bangs (marks t) (arrow x y)) × Sub x a × Sub b y
arrow_above {a} {b} {s} {t} n e p =
    let q = above_arrow (rw (ap core e ∙ core_bangs n (arrow a b)) at (sub_core p)) in (q.0, q.1, under_marks_is t _ q.2, q.3, q.4)

pub unit_above : {s t : Ty} (n : ℕ) → s ≡ bangs n unit → Sub s t → t ≡ bangs (marks t) unit
unit_above {s} {t} n e p = under_marks_is t unit (above_unit (rw (ap core e ∙ core_bangs n unit) at (sub_core p)))

pub marks_of : (t : Ty) (n : ℕ) (c : Ty) → marks c ≡ zero → t ≡ bangs n c → marks t ≡ n
marks_of t n c z e = ap marks e ∙ marks_bangs n c ∙ ap (λ k. n + k) z ∙ add-zero n

pub sub_marks : {s t a b : Ty} → Sub s t → Sub a b → Sub (bangs (marks s) a) (bangs (marks t) b)
sub_marks (sub_use p) q = sub_use (sub_marks p q)
sub_marks (sub_keep p) q = sub_keep (sub_marks p q)
sub_marks sub_bit q = q
sub_marks sub_qbit q = q
sub_marks sub_unit q = q
sub_marks (sub_tensor p p') q = q
sub_marks (sub_arrow p p') q = q

-- Equal types have equal heads: a pair and an arrow under bangs give back their parts.
pub bangs_pair : (n m : ℕ) (a b c d : Ty) → bangs n (tensor a b) ≡ bangs m (tensor c d) → (n ≡ m) × (a ≡ c) × (b ≡ d)
bangs_pair n m a b c d e = (sym (marks_of (bangs n (tensor a b)) n (tensor a b) refl refl) ∙ marks_of (bangs n (tensor a b)) m (tensor c d) refl e, cc (cores), cc (cores))
  where
    cores : tensor a b ≡ tensor c d
    cores = sym (core_bangs n (tensor a b)) ∙ ap core e ∙ core_bangs m (tensor c d)

pub plain_arrow : {a b c d : Ty} → arrow a b ≡ arrow c d → (a ≡ c) × (b ≡ d)
plain_arrow e = (cc, cc)

pub arrow_no_bangs : {a b : Ty} (n : ℕ) (c : Ty) → arrow a b ≡ bangs (suc n) c → ⊥
arrow_no_bangs n c e = subst Duplicable (sym e) tt

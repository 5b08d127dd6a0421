-- Equality and subtyping of types as tests. Leading marks are stripped, heads compared, and parts
-- tested in turn.
use Rattle.std.specs.Prelude.{◌≡◌, ℕ, zero, suc, Bool, true, false, not, ◌&&◌, T, ◌↔◌}
use Rattle.calculus.specs.Types.{Ty, bit, qbit, unit, bang, arrow, tensor, bangs, TyDiscrete, Sub}

abbrev pub decided : {A : Type 0} → Dec A → Bool
decided (yes p) = true
decided (no p) = false

abbrev pub same : Ty → Ty → Bool
same a b = decided (TyDiscrete a b)

-- A type by its leading marks and what they stand before, and the two parts of that, if it has two.
abbrev pub marks : Ty → ℕ
marks bit = zero
marks qbit = zero
marks unit = zero
marks (bang a) = suc (marks a)
marks (arrow a b) = zero
marks (tensor a b) = zero

abbrev pub core : Ty → Ty
core bit = bit
core qbit = qbit
core unit = unit
core (bang a) = core a
core (arrow a b) = arrow a b
core (tensor a b) = tensor a b

abbrev pub first : Ty → Ty
first bit = unit
first qbit = unit
first unit = unit
first (bang a) = first a
first (arrow a b) = a
first (tensor a b) = a

abbrev pub second : Ty → Ty
second bit = unit
second qbit = unit
second unit = unit
second (bang a) = second a
second (arrow a b) = b
second (tensor a b) = b

abbrev pub is_arrow : Ty → Bool
is_arrow t = same (core t) (arrow (first t) (second t))

abbrev pub is_tensor : Ty → Bool
is_tensor t = same (core t) (tensor (first t) (second t))

-- The types of a pair's components, where the pair's type has the marks of t: each has them too.
abbrev pub left_of : Ty → Ty
left_of t = bangs (marks t) (first t)

abbrev pub right_of : Ty → Ty
right_of t = bangs (marks t) (second t)

abbrev pub positive : ℕ → Bool
positive zero = false
positive (suc n) = true

abbrev pub duplicable : Ty → Bool
duplicable a = positive (marks a)

-- n marks before a subtype, m before its supertype: m is 0 or n at least 1.
abbrev pub marks_fit : ℕ → ℕ → Bool
marks_fit n zero = true
marks_fit n (suc m) = positive n

-- The same for the types a and t, or where the flag is false for t and a.
abbrev pub fit : Bool → Ty → Ty → Bool
fit true a t = marks_fit (marks a) (marks t)
fit false a t = marks_fit (marks t) (marks a)

-- The heads are the same and the parts agree, those of an arrow's left side in places changed.
abbrev pub agree : Bool → Ty → Ty → Bool
agree s bit t = same (core t) bit
agree s qbit t = same (core t) qbit
agree s unit t = same (core t) unit
agree s (bang a) t = agree s a t
agree s (arrow a b) t =
    is_arrow t
    && ((fit (not s) a (first t) && agree (not s) a (first t))
    && (fit s b (second t) && agree s b (second t)))
agree s (tensor a b) t =
    is_tensor t
    && ((fit s a (first t) && agree s a (first t))
    && (fit s b (second t) && agree s b (second t)))

abbrev pub subtype : Ty → Ty → Bool
subtype a b = fit true a b && agree true a b

-- The tests decide equality and the relation of subtyping.
abbrev pub SameExact : Type 0
SameExact = (a b : Ty) → T (same a b) ↔ (a ≡ b)

abbrev pub SubtypeExact : Type 0
SubtypeExact = (a b : Ty) → T (subtype a b) ↔ Sub a b

-- The types of the calculus and their subtyping, as in Selinger and Valiron, "A lambda calculus for
-- quantum computation with classical control". These pages call it the article. Its ⊤, ⊸ and ⊗ are
-- unit, arrow and tensor.
use Rattle.std.specs.Prelude.{ℕ, zero, suc}

pub data Ty : Type 0 where
  bit : Ty
  qbit : Ty
  unit : Ty
  bang : Ty → Ty
  arrow : Ty → Ty → Ty
  tensor : Ty → Ty → Ty
  deriving Discrete as TyDiscrete

-- n marks of duplicability in front of a type
abbrev pub bangs : ℕ → Ty → Ty
bangs zero a = a
bangs (suc n) a = bang (bangs n a)

-- Subtyping by the article's first set of rules: (ax) twice, (⊤), (D), (!), (⊗) and (⊸).
pub data Sub : Ty → Ty → Type 0 where
  sub_bit : Sub bit bit
  sub_qbit : Sub qbit qbit
  sub_unit : Sub unit unit
  sub_use : {a b : Ty} → Sub a b → Sub (bang a) b
  sub_keep : {a b : Ty} → Sub (bang a) b → Sub (bang a) (bang b)
  sub_tensor : {a b c d : Ty} → Sub a c → Sub b d → Sub (tensor a b) (tensor c d)
  sub_arrow : {a b c d : Ty} → Sub c a → Sub b d → Sub (arrow a b) (arrow c d)

-- A type whose values may be copied begins with a bang.
abbrev pub Duplicable : Ty → Type 0
Duplicable bit = ⊥
Duplicable qbit = ⊥
Duplicable unit = ⊥
Duplicable (bang a) = Unit {0}
Duplicable (arrow a b) = ⊥
Duplicable (tensor a b) = ⊥

-- What is asked of two types that stand in tables.
use Rattle.std.specs.Prelude.{ℕ, Bool, cond, Some, None, Option, ◌==◌}
use Rattle.calculus.specs.Stripping.{same, subtype, marks_fit}
use Rattle.calculus.specs.Types.{Ty}
use Rattle.subtyping.specs.Meaning.{meant, past}
use Rattle.subtyping.specs.declared.placed.TypeAt.{TypeAt}

-- What is asked of two types: that they are equal, or that the first is a subtype of the second.
pub data Asked : Type 0 where
  equality : Asked
  subtyping : Asked

-- two types have the relation
abbrev pub related : Asked → Ty → Ty → Bool
related equality a b = same a b
related subtyping a b = subtype a b

-- so many marks before a type go with so many before the other
abbrev pub marks_agree : Asked → ℕ → ℕ → Bool
marks_agree equality n m = n == m
marks_agree subtyping n m = marks_fit n m

-- one past both types where they have the relation
abbrev pub related_at : Asked → TypeAt → TypeAt → Option (ℕ × ℕ)
related_at r a b = cond (related r (meant a) (meant b)) (Some (past a, past b)) None

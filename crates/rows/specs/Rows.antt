-- A row, with the places that it leads through.
use Rattle.std.specs.Prelude.{List, [], ◌∷◌}
use Rattle.registers.specs.Meaning.{Changes}
use Rattle.rows.specs.Members.{Member}
use Rattle.rows.specs.Places.{Place}
use Rattle.rows.specs.Doing.{Does}

module _ {C : Type 0} (changes : Changes C) where
  pub data Row : Place C → List Member → List (Place C) → Type 0 where
    row_end : {p : Place C} → Row p [] (p ∷ [])
    row_next : {p q : Place C} {x : Member} {xs : List Member} {ps : List (Place C)}
        → Does changes p x q → Row q xs ps → Row p (x ∷ xs) (p ∷ ps)

  -- the places that rows from p lead to
  pub data Reached (p : Place C) : Place C → Type 0 where
    at_start : Reached p p
    then_does : {q s : Place C} {x : Member} → Reached p q → Does changes q x s → Reached p s

-- something holds at each of the places
abbrev pub AtEach : {C : Type 0} → (Place C → Type 0) → List (Place C) → Type 0
AtEach P [] = Unit {0}
AtEach P (p ∷ ps) = P p × AtEach P ps

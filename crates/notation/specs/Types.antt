-- The notation of types.
use Rattle.std.specs.Prelude.{ℕ, cond, List, [], ◌∷◌, ◌++◌, codes, ◌==◌}
use Rattle.calculus.specs.Alphabet.{kind_bit, kind_qubit, kind_unit, kind_bang, kind_arrow}
use Rattle.calculus.specs.Alphabet.{kind_pair}
use Rattle.calculus.specs.Reading.{rest, top}
use Rattle.calculus.specs.declared.cells.TypeCell.{TypeCell}
use Rattle.notation.specs.declared.brackets.Around.{Around}
use Rattle.notation.specs.declared.brackets.Around.TheVariants.{Open, Head, Tight}
use Rattle.notation.specs.Brackets.{bracketed, tight, wide}

-- The types that cells make, where a part may be missing.
pub data TypeTree : Type 0 where
  no_type : TypeTree
  plain : ℕ → TypeTree
  marked : TypeTree → TypeTree
  arrow : TypeTree → TypeTree → TypeTree
  tensor : TypeTree → TypeTree → TypeTree

-- a cell, by its letter, before cells that make the types ts: !, >, *
abbrev pub with_kind : ℕ → List TypeTree → List TypeTree
with_kind k ts =
    cond (k == kind_bang) (marked (top no_type ts) ∷ rest ts)
    (cond (k == kind_arrow) (arrow (top no_type ts) (top no_type (rest ts)) ∷ rest (rest ts))
    (cond (k == kind_pair) (tensor (top no_type ts) (top no_type (rest ts)) ∷ rest (rest ts))
    (plain k ∷ ts)))

-- the types that the cells make, one after the other
abbrev pub type_trees : List TypeCell → List TypeTree
type_trees [] = []
type_trees (c ∷ cs) = with_kind c.kind (type_trees cs)

-- b, q, u
abbrev pub plain_text : ℕ → List ℕ
plain_text k =
    cond (k == kind_bit) (codes "bit")
    (cond (k == kind_qubit) (codes "qbit")
    (cond (k == kind_unit) (codes "unit") (codes "?")))

-- `!` binds tighter than `*`, and `*` tighter than `->`, which groups to the right
abbrev pub type_text : Around → TypeTree → List ℕ
type_text around no_type = codes "?"
type_text around (plain k) = plain_text k
type_text around (marked a) = codes "!" ++ type_text Tight a
type_text around (arrow a b) =
    bracketed (wide around) (type_text Head a ++ (codes " -> " ++ type_text Open b))
type_text around (tensor a b) =
    bracketed (tight around) (type_text Tight a ++ (codes " * " ++ type_text Tight b))

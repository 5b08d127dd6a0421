-- What cells mean: the types and the terms that stand at their places. A table is read from its
-- last cell to its first. Each cell takes as its parts the trees that were read just after it.
use Rattle.std.specs.Prelude.{◌≡◌, ℕ, Bool, true, false, cond, ◌&&◌, T, List, [], ◌∷◌, drop, Some}
use Rattle.std.specs.Prelude.{None, Option, ◌==◌}
use Rattle.std.specs.List.{flat_map}
use Rattle.calculus.specs.Alphabet.{kind_bit, kind_qubit, kind_unit, kind_bang, kind_arrow}
use Rattle.trees.specs.Whole.{whole}
use Rattle.calculus.specs.declared.cells.TypeCell.{TypeCell}
use Rattle.calculus.specs.declared.cells.TermCell.{TermCell}
use Rattle.calculus.specs.declared.gates.Gate.{Gate}
use Rattle.calculus.specs.declared.gates.Gate.TheVariants.{Toffoli}
use Rattle.calculus.specs.Gates.{gate_of}
use Rattle.calculus.specs.Letters.{Letter, at_v, at_q, at_g, at_0, at_1, at_m, at_n, at_s, at_l}
use Rattle.calculus.specs.Letters.{at_a, at_p, at_d, at_i, other, letter, allowed, arity}
use Rattle.calculus.specs.Letters.{known_kind, kind_arity}
use Rattle.calculus.specs.Types.{Ty, bit, qbit, unit, bang, arrow, tensor}
use Rattle.calculus.specs.Terms.{bit_of, meas, new, gate, bound, held, Term, var, const, star, lam}
use Rattle.calculus.specs.Terms.{app, pair, if_then_else, let_pair}
use Rattle.calculus.specs.Cells.{type_cells, placed_cells}

-- A list by its first element, with a default, and the others.
abbrev pub top : {A : Type 0} → A → List A → A
top d [] = d
top d (x ∷ xs) = x

abbrev pub rest : {A : Type 0} → List A → List A
rest [] = []
rest (x ∷ xs) = xs

-- a type cell before cells that mean the types ts: b, q, u, !, >, *
abbrev pub read_type : ℕ → List Ty → List Ty
read_type k ts =
    cond (k == kind_bit) (bit ∷ ts)
    (cond (k == kind_qubit) (qbit ∷ ts)
    (cond (k == kind_unit) (unit ∷ ts)
    (cond (k == kind_bang) (bang (top unit ts) ∷ rest ts)
    (cond (k == kind_arrow) (arrow (top unit ts) (top unit (rest ts)) ∷ rest (rest ts))
    (tensor (top unit ts) (top unit (rest ts)) ∷ rest (rest ts))))))

-- the types that the cells mean, one after the other
abbrev pub types_of : List TypeCell → List Ty
types_of [] = []
types_of (c ∷ cs) = read_type c.kind (types_of cs)

-- the type that stands at a place
abbrev pub type_at : List TypeCell → ℕ → Ty
type_at cells p = top unit (types_of (drop p cells))

abbrev pub or_toffoli : Option Gate → Gate
or_toffoli (Some u) = u
or_toffoli None = Toffoli

-- a term where the cells have none
abbrev pub no_term : Term ℕ
no_term = star 0

-- a term cell, by letter, argument and claim, before cells that mean the terms ms
abbrev pub read_term : Letter → ℕ → ℕ → List (Term ℕ) → List (Term ℕ)
read_term at_v x c ms = var c (bound x) ∷ ms
read_term at_q x c ms = var c (held x) ∷ ms
read_term at_g x c ms = const c (gate (or_toffoli (gate_of x))) ∷ ms
read_term at_0 x c ms = const c (bit_of false) ∷ ms
read_term at_1 x c ms = const c (bit_of true) ∷ ms
read_term at_m x c ms = const c meas ∷ ms
read_term at_n x c ms = const c new ∷ ms
read_term at_s x c ms = star c ∷ ms
read_term at_l x c ms = lam c (top no_term ms) ∷ rest ms
read_term at_a x c ms = app c (top no_term ms) (top no_term (rest ms)) ∷ rest (rest ms)
read_term at_p x c ms = pair c (top no_term ms) (top no_term (rest ms)) ∷ rest (rest ms)
read_term at_d x c ms = let_pair c (top no_term ms) (top no_term (rest ms)) ∷ rest (rest ms)
read_term at_i x c ms =
    if_then_else c (top no_term ms) (top no_term (rest ms)) (top no_term (rest (rest ms)))
    ∷ rest (rest (rest ms))
read_term other x c ms = no_term ∷ ms

-- the terms that the cells mean, one after the other, a claim being a place of the type table
abbrev pub terms_of : List TermCell → List (Term ℕ)
terms_of [] = []
terms_of (c ∷ cs) = read_term (letter c.op) c.argument c.claim (terms_of cs)

-- the term that stands at a place
abbrev pub term_at : List TermCell → ℕ → Term ℕ
term_at cells p = top no_term (terms_of (drop p cells))

-- every cell of the list passes the test
abbrev pub every : {A : Type 0} → (A → Bool) → List A → Bool
every f [] = true
every f (x ∷ xs) = f x && every f xs

-- The cells are whole trees of known letters with allowed arguments.
abbrev pub TypesStand : List TypeCell → Type 0
TypesStand cells = T (every known_kind cells) × T (whole kind_arity cells)

abbrev pub TermsStand : List TermCell → Type 0
TermsStand cells = T (every allowed cells) × T (whole arity cells)

-- Reading and writing are inverse to each other.
pub record ReadingLaws : Type 0 where
  pub types_written : (cs : List TypeCell) → TypesStand cs → cs ≡ flat_map type_cells (types_of cs)
  pub types_read : (ts : List Ty) → types_of (flat_map type_cells ts) ≡ ts
  pub terms_written : (cs : List TermCell) → TermsStand cs
      → cs ≡ flat_map placed_cells (terms_of cs)
  pub terms_read : (ms : List (Term ℕ)) → terms_of (flat_map placed_cells ms) ≡ ms
  -- equal cells are equal types
  pub same_cells : (a b : Ty) → type_cells a ≡ type_cells b → a ≡ b

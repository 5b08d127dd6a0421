-- Types read back from their cells.
use Rattle.std.proofs.Common.{◌≡◌, ℕ, ◌+◌, ◌-◌, ◌<◌, ◌≤◌, true, false, cond, T, eqb, List, [], ◌∷◌, ◌++◌, length, drop, is_some, Some, None, Option, sym, refl, ap, ◌∙◌, subst, arith}
use Rattle.std.specs.List.{flat_map}
use Rattle.std.proofs.lemmas.Bool.{eqb-true}
use Rattle.std.proofs.lemmas.List.{append_assoc}
use Rattle.trees.specs.Whole.{height}
use Rattle.calculus.specs.declared.cells.TypeCell.{TypeCell}
use Rattle.calculus.specs.Types.{Ty, bit, qbit, unit, bang, arrow, tensor}
use Rattle.calculus.specs.Letters.{known_kind, kind_arity}
use Rattle.calculus.specs.Cells.{type_cells}
use Rattle.calculus.specs.Reading.{top, read_type, types_of, type_at, TypesStand}
use Rattle.calculus.proofs.Reading as reading

-- the cells of a type, read
pub read_back : (a : Ty) (cs : List TypeCell) → types_of (type_cells a ++ cs) ≡ a ∷ types_of cs
read_back bit cs = refl
read_back qbit cs = refl
read_back unit cs = refl
read_back (bang a) cs = simp (read_back a cs)
read_back (arrow a b) cs = simp (append_assoc, read_back a (type_cells b ++ cs), read_back b cs)
read_back (tensor a b) cs = simp (append_assoc, read_back a (type_cells b ++ cs), read_back b cs)

pub types_read : (ts : List Ty) → types_of (flat_map type_cells ts) ≡ ts
types_read [] = refl
types_read (a ∷ ts) = read_back a (flat_map type_cells ts) ∙ ap (λ us. a ∷ us) (types_read ts)

pub same_cells : (a b : Ty) → type_cells a ≡ type_cells b → a ≡ b
same_cells a b e = ap (top unit) (sym (read_back a []) ∙ ap (λ cs. types_of (cs ++ [])) e ∙ read_back b [])

-- one letter after the other
tried : (P : ℕ → Type 0) (k d n : ℕ) (o : Option ℕ) → T (is_some (cond (eqb k d) (Some n) o)) → P d → (T (is_some o) → P k) → P k
tried P k d n o h p q = elim (eqb k d) as (λ v. v ≡ eqb k d → T (is_some (cond v (Some n) o)) → P k) [ true ↦ (λ e t. subst P (sym (eqb-true k d (sym e))) p) | false ↦ (λ e t. q t) ] refl h

-- what holds of the six letters
pub kind_cases : (P : ℕ → Type 0) (c : TypeCell) → T (known_kind c) → P 98 → P 113 → P 117 → P 33 → P 62 → P 42 → P c.kind
kind_cases P c h b q u m a p =
    tried P _ 98 0 _ h b (λ h. tried P _ 113 0 _ h q (λ h. tried P _ 117 0 _ h u (λ h. tried P _ 33 1 _ h m (λ h. tried P _ 62 2 _ h a (λ h. tried P _ 42 2 None h p (λ h. elim h [ ]))))))

-- one cell more in front of what is read
abbrev More : List Ty → ℕ → Type 0
More ts k = let c : TypeCell = record { kind = k } in kind_arity c ≤ length ts → (c ∷ flat_map type_cells ts ≡ flat_map type_cells (read_type k ts)) × (length (read_type k ts) ≡ length ts - kind_arity c + 1)

one_part : (ts : List Ty) → More ts 33
one_part [] h = absurd (omega arith)
one_part (a ∷ ts) h = (refl, omega arith)

two_parts : (ts : List Ty) → More ts 62 × More ts 42
two_parts [] = (λ h. absurd (omega arith), λ h. absurd (omega arith))
two_parts (a ∷ []) = (λ h. absurd (omega arith), λ h. absurd (omega arith))
two_parts (a ∷ b ∷ ts) = (
  λ h. (ap (λ (cs : List TypeCell). record { kind = 62 } ∷ cs) (sym (append_assoc (type_cells a) (type_cells b) _)), omega arith),
  λ h. (ap (λ (cs : List TypeCell). record { kind = 42 } ∷ cs) (sym (append_assoc (type_cells a) (type_cells b) _)), omega arith),
)

more : (c : TypeCell) (ts : List Ty) → T (known_kind c) → kind_arity c ≤ length ts → (c ∷ flat_map type_cells ts ≡ flat_map type_cells (read_type c.kind ts)) × (length (read_type c.kind ts) ≡ length ts - kind_arity c + 1)
more c ts k h = kind_cases (More ts) c k (λ h. (refl, omega arith)) (λ h. (refl, omega arith)) (λ h. (refl, omega arith)) (one_part ts) (two_parts ts).0 (two_parts ts).1 h

pub written : (cs : List TypeCell) → TypesStand cs → (cs ≡ flat_map type_cells (types_of cs)) × (length (types_of cs) ≡ height kind_arity cs)
written = reading.written known_kind kind_arity type_cells (λ c. read_type c.kind) types_of refl (λ c cs. refl) more

-- The cells of the type a stand at the place p.
abbrev pub At : List TypeCell → ℕ → Ty → Type 0
At cs p a = (ds : List TypeCell) × (drop p cs ≡ type_cells a ++ ds)

pub at_place : (cs : List TypeCell) (p : ℕ) → TypesStand cs → p < length cs → At cs p (type_at cs p)
at_place = reading.placed known_kind kind_arity type_cells (λ c. read_type c.kind) types_of refl (λ c cs. refl) more unit

pub at_is : (cs : List TypeCell) (p : ℕ) (a : Ty) → At cs p a → type_at cs p ≡ a
at_is cs p a (ds, e) = ap (λ xs. top unit (types_of xs)) e ∙ ap (top unit) (read_back a ds)

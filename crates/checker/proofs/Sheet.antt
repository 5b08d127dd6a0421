-- The verdict on a program is the first row of the sheet that holds.
use Rattle.std.proofs.Common.{◌≡◌, ℕ, ◌+◌, ◌<◌, ◌≤◌, ◌⊎◌, Bool, true, false, T, leb, List, [], ◌∷◌, ◌++◌, length, Some, None, Option, Ok, Err, inl, inr, sym, refl, ap, ◌∙◌, subst, arith}
use Rattle.std.specs.List.{flat_map, slice_get}
use Rattle.std.proofs.lemmas.Bool.{cases_lt, leb-true, leb-false, le-leb, ltb-false, le-ltb}
use Rattle.std.proofs.lemmas.List.{append_assoc}
use Rattle.trees.specs.Failing.{first_failing, none_at}
use Rattle.trees.specs.Reach.{not_one_tree}
use Rattle.trees.specs.Whole.{height, whole}
use Rattle.calculus.specs.declared.cells.TypeCell.{TypeCell}
use Rattle.calculus.specs.declared.cells.TermCell.{TermCell}
use Rattle.calculus.specs.Letters.{arity, kind_arity}
use Rattle.calculus.specs.Cells.{type_cells}
use Rattle.calculus.specs.Reading.{every, types_of}
use Rattle.calculus.specs.Terms.{Term, size}
use Rattle.calculus.specs.Types.{Ty, bit, qbit, unit, bang, arrow, tensor}
use Rattle.calculus.proofs.Failing.{all_pass, FirstFails, first_fails}
use Rattle.calculus.proofs.FirstTree.{Unfinished, LeftOver, OneFound, one_found}
use Rattle.calculus.proofs.ReadTypes.{written}
use Rattle.verdict.specs.Faults.{Verdict, accepted, number_of, fault, must, ◌then◌}
use Rattle.verdict.specs.Judging.{verdict}
use Rattle.verdict.specs.Sheet.{Spot, HoldsFrom, Before, Answers, AnswersFrom}
use Rattle.verdict.specs.declared.faults.CheckFault.{CheckFault}
use Rattle.verdict.specs.declared.faults.CheckReason.{CheckReason}
use Rattle.verdict.specs.declared.faults.CheckReason.TheVariants.{TooManyCells, BadCell, NotWhole, ClaimOutside, TooDeep, NoBinder, WrongClaim, UsedTwice, Captures}
use Rattle.verdict.proofs.Accepting.{must_accepted}
use Rattle.verdict.proofs.Definite.{same_reason, one_answer, ordered}
use Rattle.verdict.proofs.Order.{in_row}
use Rattle.verdict.proofs.Sheet.{first_row_from}
use Rattle.verdict.proofs.Fitting.{T_from, not_T}
use Rattle.checker.specs.Accepting.{Stores, program_verdict}
use Rattle.checker.specs.Sheet.{Table, type_table, term_table, Place, in_table, in_term, TableRow, too_many_types, too_many_terms, no_kind, not_storable, types_unfinished, term_unfinished, cells_left_over, claim_outside, Holds, Sooner, lower_number, types_first, earlier_cell, tables_first, within_the_term, fault_of, FirstRowAnswers}
use Rattle.checker.specs.Tables.{known_kind, storable, claim_in, tables_tested}
use Rattle.checker.specs.Meaning.{meaning}
use Rattle.checker.proofs.Exact.{stores, meant_by}
use Rattle.checker.proofs.Passing.{passed, none_at_accepted, allowed_all}

-- types in a row are whole
type_stands : (a : Ty) (cs : List TypeCell) → (whole kind_arity (type_cells a ++ cs) ≡ whole kind_arity cs) × (height kind_arity (type_cells a ++ cs) ≡ height kind_arity cs + 1)
type_stands bit cs = (rw (le-leb 0 (height kind_arity cs) (omega arith)) refl, omega arith)
type_stands qbit cs = (rw (le-leb 0 (height kind_arity cs) (omega arith)) refl, omega arith)
type_stands unit cs = (rw (le-leb 0 (height kind_arity cs) (omega arith)) refl, omega arith)
type_stands (bang a) cs =
    let r = type_stands a cs in
    (rw (le-leb 1 (height kind_arity (type_cells a ++ cs)) (omega arith)) r.0, omega arith)
type_stands (arrow a b) cs =
    let q = type_stands b cs in
    let p = type_stands a (type_cells b ++ cs) in
    rw (append_assoc (type_cells a) (type_cells b) cs) (rw (le-leb 2 (height kind_arity (type_cells a ++ (type_cells b ++ cs))) (omega arith)) (p.0 ∙ q.0), omega arith)
type_stands (tensor a b) cs =
    let q = type_stands b cs in
    let p = type_stands a (type_cells b ++ cs) in
    rw (append_assoc (type_cells a) (type_cells b) cs) (rw (le-leb 2 (height kind_arity (type_cells a ++ (type_cells b ++ cs))) (omega arith)) (p.0 ∙ q.0), omega arith)

types_stand : (ts : List Ty) → whole kind_arity (flat_map type_cells ts) ≡ true
types_stand [] = refl
types_stand (a ∷ ts) = (type_stands a (flat_map type_cells ts)).0 ∙ types_stand ts

-- The rows of one reason for one table, and how they rank.
abbrev at_table : Table → ℕ
at_table type_table = 0
at_table term_table = 1

abbrev rank : Place → ℕ
rank (in_table r t k) = number_of r + number_of r + at_table t
rank (in_term s) = 100

abbrev cell : Place → ℕ
cell (in_table r t k) = k
cell (in_term s) = 0

small_number : (r : CheckReason) → number_of r ≤ 28
small_number TooManyCells = omega arith
small_number BadCell = omega arith
small_number NotWhole = omega arith
small_number ClaimOutside = omega arith
small_number TooDeep = omega arith
small_number NoBinder = omega arith
small_number WrongClaim = omega arith
small_number UsedTwice = omega arith
small_number Captures = omega arith

small_table : (t : Table) → at_table t ≤ 1
small_table type_table = omega arith
small_table term_table = omega arith

ranked : (p q : Place) → Sooner p q → (rank p < rank q) ⊎ ((rank p ≡ rank q) × ((cell p < cell q) ⊎ (rank p ≡ 100)))
ranked _ _ (lower_number {r = r} {q = q} {t = t} {u = u} l) = inl (omega (arith, small_table t))
ranked _ _ types_first = inl (omega arith)
ranked _ _ (earlier_cell l) = inr (refl, inl l)
ranked _ _ (tables_first {r = r} {t = t}) = inl (omega (arith, small_number r, small_table t))
ranked _ _ (within_the_term b) = inr (refl, inr refl)

rank_late : (p q : Place) → rank p < rank q → Sooner q p → ⊥
rank_late p q l b = elim (ranked q p b) [ inl g ↦ omega arith | inr g ↦ (let e = g.0 in omega arith) ]

abbrev Said : (Place → Type 0) → Verdict → Type 0
Said P v = Answers P Sooner fault_of v

must_then : (b : Bool) (f : CheckFault) (w : Verdict) → must b f accepted then w ≡ must b f w
must_then true f w = refl
must_then false f w = refl

none_then : (f : ℕ → CheckFault) (o : Option ℕ) (w : Verdict) → none_at f o accepted then w ≡ none_at f o w
none_then f None w = refl
none_then f (Some k) w = refl

-- A test of one rank, and those of higher ranks after it.
stage : (n : ℕ) (P Q : Place → Type 0) (v w : Verdict) → ((p : Place) → P p → rank p ≡ n) → ((q : Place) → Q q → n < rank q) → Said P v → (v ≡ accepted → Said Q w) → Said (λ p. P p ⊎ Q p) (v then w)
stage n P Q v w low high a b =
    in_row Sooner fault_of P Q (λ p. P p ⊎ Q p) v w (λ s h. h) (λ s h. inl h) (λ _ s h. inr h) (λ p q x y. (let e = low p x in let l = high q y in rank_late p q (omega arith))) a b

module _ (types : List TypeCell) (terms : List TermCell) where
  abbrev At : CheckReason → Table → Place → Type 0
  At r t p = (k : ℕ) × (p ≡ in_table r t k) × TableRow types terms r t k

  at_rank : (r : CheckReason) (t : Table) (p : Place) → At r t p → rank p ≡ number_of r + number_of r + at_table t
  at_rank r t p h = ap rank h.1

  -- what a test has found: no row of this reason for this table, or the first
  abbrev Found : CheckReason → Table → Option ℕ → Type 0
  Found r t None = (j : ℕ) → TableRow types terms r t j → ⊥
  Found r t (Some k) = TableRow types terms r t k × ((j : ℕ) → TableRow types terms r t j → j < k → ⊥)

  not_sooner : (r : CheckReason) (t : Table) (k : ℕ) → ((j : ℕ) → TableRow types terms r t j → j < k → ⊥) → (q : Place) → At r t q → Sooner q (in_table r t k) → ⊥
  not_sooner r t k none q h b =
      let e = at_rank r t q h in
      let c : cell q ≡ h.0 = ap cell h.1 in
      elim (ranked q (in_table r t k) b) [
        | inl l ↦ omega arith
        | inr l ↦ elim l.1 [ inl g ↦ none h.0 h.2 (omega arith) | inr g ↦ omega (arith, small_number r, small_table t) ]
      ]

  none_said : (r : CheckReason) (t : Table) (o : Option ℕ) → Found r t o → Said (At r t) (none_at (fault r) o accepted)
  none_said r t None h = λ p a. h a.0 a.2
  none_said r t (Some k) h = (in_table r t k, (k, refl, h.0), refl, λ q a b. not_sooner r t k h.1 q a b)

  must_said : (r : CheckReason) (t : Table) (k : ℕ) (b : Bool) → (b ≡ true → Found r t None) → (b ≡ false → Found r t (Some k)) → Said (At r t) (must b (fault r k) accepted)
  must_said r t k true p q = none_said r t None (p refl)
  must_said r t k false p q = none_said r t (Some k) (q refl)

  -- what the rows of one reason for one table say
  kind_row : {j : ℕ} → TableRow types terms BadCell type_table j → (c : TypeCell) × (slice_get types j ≡ Some c) × (known_kind c ≡ false)
  kind_row (no_kind c g e) = (c, g, e)

  cell_row : {j : ℕ} → TableRow types terms BadCell term_table j → (c : TermCell) × (slice_get terms j ≡ Some c) × (storable c ≡ false)
  cell_row (not_storable c g e) = (c, g, e)

  claim_row : {j : ℕ} → TableRow types terms ClaimOutside term_table j → (c : TermCell) × (slice_get terms j ≡ Some c) × (claim_in (length types) c ≡ false)
  claim_row (claim_outside c g e) = (c, g, le-ltb c.claim (length types) e)

  many_types_row : {j : ℕ} → TableRow types terms TooManyCells type_table j → (j ≡ 256) × (256 < length types)
  many_types_row (too_many_types l) = (refl, l)

  many_terms_row : {j : ℕ} → TableRow types terms TooManyCells term_table j → (j ≡ 512) × (512 < length terms)
  many_terms_row (too_many_terms l) = (refl, l)

  types_row : {j : ℕ} → TableRow types terms NotWhole type_table j → (ts : List Ty) → types ≡ flat_map type_cells ts → ⊥
  types_row (types_unfinished u) = u

  terms_row : {j : ℕ} → TableRow types terms NotWhole term_table j → (Unfinished terms × (j ≡ 0)) ⊎ LeftOver terms j
  terms_row (term_unfinished u) = inl (u, refl)
  terms_row (cells_left_over m c cs f) = inr (m, c, cs, f, refl)

  to_row : (j : ℕ) → (Unfinished terms × (j ≡ 0)) ⊎ LeftOver terms j → TableRow types terms NotWhole term_table j
  to_row j (inl u) = subst (λ k. TableRow types terms NotWhole term_table k) (sym u.1) (term_unfinished u.0)
  to_row j (inr l) = subst (λ k. TableRow types terms NotWhole term_table k) l.4 (cells_left_over l.0 l.1 l.2 l.3)

  -- the seven tests
  kinds_found : (o : Option ℕ) → FirstFails known_kind types 0 o → Found BadCell type_table o
  kinds_found None h = λ j r. let k = kind_row r in h j k.0 k.1 k.2
  kinds_found (Some k) h = (
    subst (λ k. TableRow types terms BadCell type_table k) (let e = h.2 in omega arith) (no_kind h.1 h.3 h.4),
    λ j r l. let d = kind_row r in h.5 j d.0 (let z = h.2 in omega arith) d.1 d.2,
  )

  cells_found : (o : Option ℕ) → FirstFails storable terms 0 o → Found BadCell term_table o
  cells_found None h = λ j r. let k = cell_row r in h j k.0 k.1 k.2
  cells_found (Some k) h = (
    subst (λ k. TableRow types terms BadCell term_table k) (let e = h.2 in omega arith) (not_storable h.1 h.3 h.4),
    λ j r l. let d = cell_row r in h.5 j d.0 (let z = h.2 in omega arith) d.1 d.2,
  )

  claims_found : (o : Option ℕ) → FirstFails (claim_in (length types)) terms 0 o → Found ClaimOutside term_table o
  claims_found None h = λ j r. let k = claim_row r in h j k.0 k.1 k.2
  claims_found (Some k) h = (
    subst (λ k. TableRow types terms ClaimOutside term_table k) (let e = h.2 in omega arith) (claim_outside h.1 h.3 (ltb-false _ _ h.4)),
    λ j r l. let d = claim_row r in h.5 j d.0 (let z = h.2 in omega arith) d.1 d.2,
  )

  many_types : Said (At TooManyCells type_table) (must (leb (length types) 256) (fault TooManyCells 256) accepted)
  many_types = must_said TooManyCells type_table 256 (leb (length types) 256)
      (λ e j r. (let l = (many_types_row r).1 in let h = leb-true _ _ e in omega arith))
      (λ e. (too_many_types (leb-false _ _ e), λ j r l. (let z = (many_types_row r).0 in omega arith)))

  many_terms : Said (At TooManyCells term_table) (must (leb (length terms) 512) (fault TooManyCells 512) accepted)
  many_terms = must_said TooManyCells term_table 512 (leb (length terms) 512)
      (λ e j r. (let l = (many_terms_row r).1 in let h = leb-true _ _ e in omega arith))
      (λ e. (too_many_terms (leb-false _ _ e), λ j r l. (let z = (many_terms_row r).0 in omega arith)))

  whole_types : T (every known_kind types) → Said (At NotWhole type_table) (must (whole kind_arity types) (fault NotWhole 0) accepted)
  whole_types known = must_said NotWhole type_table 0 (whole kind_arity types)
      (λ e j r. types_row r (types_of types) (written types (known, T_from _ e)).0)
      (λ e. (types_unfinished (λ ts f. not_T _ e (T_from _ (ap (whole kind_arity) f ∙ types_stand ts))), λ j h l. absurd (omega arith)))

  terms_found : (o : Option ℕ) → OneFound terms o → Found NotWhole term_table o
  terms_found None h = λ j r. elim (terms_row r) [ inl u ↦ h.0 u.0 | inr l ↦ h.1 j l ]
  terms_found (Some k) h = (
    to_row k h.0,
    λ j r l. elim (terms_row r) [ inl u ↦ h.2 (omega arith) u.0 | inr g ↦ (let z = h.1 j g in omega arith) ],
  )

  abbrev Claims : Place → Type 0
  Claims = At ClaimOutside term_table

  abbrev Terms : Place → Type 0
  Terms p = At NotWhole term_table p ⊎ Claims p

  abbrev Types : Place → Type 0
  Types p = At NotWhole type_table p ⊎ Terms p

  abbrev TermCells : Place → Type 0
  TermCells p = At BadCell term_table p ⊎ Types p

  abbrev Cells : Place → Type 0
  Cells p = At BadCell type_table p ⊎ TermCells p

  abbrev ManyTerms : Place → Type 0
  ManyTerms p = At TooManyCells term_table p ⊎ Cells p

  abbrev Rows : Place → Type 0
  Rows p = At TooManyCells type_table p ⊎ ManyTerms p

  -- a row of a table is of one of the seven
  to_rows : {r : CheckReason} {t : Table} {k : ℕ} → TableRow types terms r t k → Rows (in_table r t k)
  to_rows (too_many_types l) = inl (256, refl, too_many_types l)
  to_rows (too_many_terms l) = inr (inl (512, refl, too_many_terms l))
  to_rows (no_kind {k = k} c g e) = inr (inr (inl (k, refl, no_kind c g e)))
  to_rows (not_storable {k = k} c g e) = inr (inr (inr (inl (k, refl, not_storable c g e))))
  to_rows (types_unfinished u) = inr (inr (inr (inr (inl (0, refl, types_unfinished u)))))
  to_rows (term_unfinished u) = inr (inr (inr (inr (inr (inl (0, refl, term_unfinished u))))))
  to_rows (cells_left_over m c cs e) = inr (inr (inr (inr (inr (inl (size m, refl, cells_left_over m c cs e))))))
  to_rows (claim_outside {k = k} c g e) = inr (inr (inr (inr (inr (inr (k, refl, claim_outside c g e))))))

  from_at : (r : CheckReason) (t : Table) (p : Place) → At r t p → Holds types terms p
  from_at r t p h = subst (Holds types terms) (sym h.1) h.2

  -- where each rank has the next above it
  late : (r : CheckReason) (t : Table) (Q : Place → Type 0) (n : ℕ) → n < number_of r + number_of r + at_table t
      → ((p : Place) → Q p → n < rank p) → (p : Place) → At r t p ⊎ Q p → n < rank p
  late r t Q n l high p h = elim h [ inl a ↦ (let e = at_rank r t p a in omega arith) | inr q ↦ high p q ]

  claims_late : (n : ℕ) → n ≤ 46 → (p : Place) → Claims p → n < rank p
  claims_late n l p h = let e = at_rank ClaimOutside term_table p h in omega arith

  terms_late : (n : ℕ) → n ≤ 44 → (p : Place) → Terms p → n < rank p
  terms_late n l = late NotWhole term_table Claims n (omega arith) (claims_late n (omega arith))

  types_late : (n : ℕ) → n ≤ 43 → (p : Place) → Types p → n < rank p
  types_late n l = late NotWhole type_table Terms n (omega arith) (terms_late n (omega arith))

  term_cells_late : (n : ℕ) → n ≤ 42 → (p : Place) → TermCells p → n < rank p
  term_cells_late n l = late BadCell term_table Types n (omega arith) (types_late n (omega arith))

  cells_late : (n : ℕ) → n ≤ 41 → (p : Place) → Cells p → n < rank p
  cells_late n l = late BadCell type_table TermCells n (omega arith) (term_cells_late n (omega arith))

  many_terms_late : (n : ℕ) → n ≤ 40 → (p : Place) → ManyTerms p → n < rank p
  many_terms_late n l = late TooManyCells term_table Cells n (omega arith) (cells_late n (omega arith))

  must_stage : (n : ℕ) (P Q : Place → Type 0) (b : Bool) (f : CheckFault) (w : Verdict) → ((p : Place) → P p → rank p ≡ n) → ((q : Place) → Q q → n < rank q)
      → Said P (must b f accepted) → (T b → Said Q w) → Said (λ p. P p ⊎ Q p) (must b f w)
  must_stage n P Q b f w low high a c =
      subst (Said (λ p. P p ⊎ Q p)) (must_then b f w) (stage n P Q (must b f accepted) w low high a (λ e. c ((must_accepted b f accepted).0 e).0))

  none_stage : (n : ℕ) (P Q : Place → Type 0) (f : ℕ → CheckFault) (o : Option ℕ) (w : Verdict) → ((p : Place) → P p → rank p ≡ n) → ((q : Place) → Q q → n < rank q)
      → Said P (none_at f o accepted) → (o ≡ None → Said Q w) → Said (λ p. P p ⊎ Q p) (none_at f o w)
  none_stage n P Q f o w low high a c =
      subst (Said (λ p. P p ⊎ Q p)) (none_then f o w) (stage n P Q (none_at f o accepted) w low high a (λ e. c (none_at_accepted f o accepted e).0))

  tables_said : Said Rows (tables_tested types terms)
  tables_said =
      must_stage 40 (At TooManyCells type_table) ManyTerms (leb (length types) 256) (fault TooManyCells 256) _ (at_rank TooManyCells type_table) (many_terms_late 40 (omega arith)) many_types (λ _.
      must_stage 41 (At TooManyCells term_table) Cells (leb (length terms) 512) (fault TooManyCells 512) _ (at_rank TooManyCells term_table) (cells_late 41 (omega arith)) many_terms (λ _.
      none_stage 42 (At BadCell type_table) TermCells (fault BadCell) (first_failing known_kind types 0) _ (at_rank BadCell type_table) (term_cells_late 42 (omega arith))
      (none_said BadCell type_table _ (kinds_found _ (first_fails known_kind types 0))) (λ known.
      none_stage 43 (At BadCell term_table) Types (fault BadCell) (first_failing storable terms 0) _ (at_rank BadCell term_table) (types_late 43 (omega arith))
      (none_said BadCell term_table _ (cells_found _ (first_fails storable terms 0))) (λ stored.
      must_stage 44 (At NotWhole type_table) Terms (whole kind_arity types) (fault NotWhole 0) _ (at_rank NotWhole type_table) (terms_late 44 (omega arith))
      (whole_types (all_pass known_kind types 0 known)) (λ _.
      none_stage 45 (At NotWhole term_table) Claims (fault NotWhole) (not_one_tree arity terms) _ (at_rank NotWhole term_table) (claims_late 45 (omega arith))
      (none_said NotWhole term_table _ (terms_found _ (one_found terms (allowed_all terms (all_pass storable terms 0 stored))))) (λ _.
      none_said ClaimOutside term_table _ (claims_found _ (first_fails (claim_in (length types)) terms 0))))))))

  from_rows : (p : Place) → Rows p → Holds types terms p
  from_rows p (inl a) = from_at TooManyCells type_table p a
  from_rows p (inr (inl a)) = from_at TooManyCells term_table p a
  from_rows p (inr (inr (inl a))) = from_at BadCell type_table p a
  from_rows p (inr (inr (inr (inl a)))) = from_at BadCell term_table p a
  from_rows p (inr (inr (inr (inr (inl a))))) = from_at NotWhole type_table p a
  from_rows p (inr (inr (inr (inr (inr (inl a)))))) = from_at NotWhole term_table p a
  from_rows p (inr (inr (inr (inr (inr (inr a)))))) = from_at ClaimOutside term_table p a

  low_at : (r : CheckReason) (t : Table) (p : Place) → At r t p → rank p < 100
  low_at r t p a = let e = at_rank r t p a in omega (arith, small_number r, small_table t)

  rows_low : (p : Place) → Rows p → rank p < 100
  rows_low p (inl a) = low_at TooManyCells type_table p a
  rows_low p (inr (inl a)) = low_at TooManyCells term_table p a
  rows_low p (inr (inr (inl a))) = low_at BadCell type_table p a
  rows_low p (inr (inr (inr (inl a)))) = low_at BadCell term_table p a
  rows_low p (inr (inr (inr (inr (inl a))))) = low_at NotWhole type_table p a
  rows_low p (inr (inr (inr (inr (inr (inl a)))))) = low_at NotWhole term_table p a
  rows_low p (inr (inr (inr (inr (inr (inr a)))))) = low_at ClaimOutside term_table p a

  -- the rows of the term
  abbrev InTerm : Place → Type 0
  InTerm p = (s : Spot) × (p ≡ in_term s) × (m : Term Ty) × Stores types terms m × HoldsFrom 0 [] m s

  rows_split : (p : Place) → Holds types terms p → Rows p ⊎ InTerm p
  rows_split (in_table r t k) h = inl (to_rows h)
  rows_split (in_term s) h = inr (s, refl, h.0, h.1, h.2)

  from_term : (p : Place) → InTerm p → Holds types terms p
  from_term p h = subst (Holds types terms) (sym h.1) (h.2, h.3, h.4)

  term_after : (p q : Place) → Rows p → InTerm q → Sooner q p → ⊥
  term_after p q a h = rank_late p q (let l = rows_low p a in let e = ap rank h.1 in omega arith)

  holds_here : (m : Term Ty) (s : Spot) → Stores types terms m → HoldsFrom 0 [] m s → HoldsFrom 0 [] (meaning types terms 0) s
  holds_here m s st h = subst (λ m. HoldsFrom 0 [] m s) (sym (meant_by types terms m st)) h

  term_said : (v : Verdict) → Stores types terms (meaning types terms 0) → AnswersFrom 0 [] (meaning types terms 0) v → Said InTerm v
  term_said (Ok x) st a = λ p h. a h.0 (holds_here h.2 h.0 h.3 h.4)
  term_said (Err f) st a = (in_term a.0, (a.0, refl, meaning types terms 0, st, a.1), a.2, λ p h b. a.3 h.0 (holds_here h.2 h.0 h.3 h.4) (inner h.0 a.0 (subst (λ p. Sooner p (in_term a.0)) h.1 b)))
    where
      inner : (s t : Spot) → Sooner (in_term s) (in_term t) → Before s t
      inner s t (within_the_term b) = b

  pub program_said : Said (Holds types terms) (program_verdict types terms)
  program_said =
      let m = meaning types terms 0 in
      in_row Sooner fault_of Rows InTerm (Holds types terms) (tables_tested types terms) (verdict m) rows_split from_rows (λ _. from_term) term_after tables_said
      (λ e. term_said (verdict m) (stores types terms (passed types terms e)) (first_row_from 0 [] m))

abbrev Ordered : Place → Place → Type 0
Ordered p q = Sooner p q ⊎ (Sooner q p ⊎ (fault_of p ≡ fault_of q))

by_cell : (r : CheckReason) (t : Table) (k j : ℕ) → Ordered (in_table r t k) (in_table r t j)
by_cell r t k j = elim (cases_lt k j) [
  | inl l ↦ inl (earlier_cell l)
  | inr l ↦ elim (cases_lt j k) [ inl g ↦ inr (inl (earlier_cell g)) | inr g ↦ inr (inr (ap (fault r) (omega arith))) ]
]

same_number : (r : CheckReason) (t u : Table) (k j : ℕ) → Ordered (in_table r t k) (in_table r u j)
same_number r type_table type_table k j = by_cell r type_table k j
same_number r type_table term_table k j = inl types_first
same_number r term_table type_table k j = inr (inl types_first)
same_number r term_table term_table k j = by_cell r term_table k j

places_ordered : (p q : Place) → Ordered p q
places_ordered (in_table r t k) (in_table q u j) = elim (cases_lt (number_of r) (number_of q)) [
  | inl l ↦ inl (lower_number l)
  | inr l ↦ elim (cases_lt (number_of q) (number_of r)) [
    | inl g ↦ inr (inl (lower_number g))
    | inr g ↦ subst (λ q. Ordered (in_table r t k) (in_table q u j)) (same_reason r q (omega arith)) (same_number r t u k j)
  ]
]
places_ordered (in_table r t k) (in_term s) = inl tables_first
places_ordered (in_term s) (in_table r t k) = inr (inl tables_first)
places_ordered (in_term s) (in_term t) = elim (ordered s t) [
  | inl b ↦ inl (within_the_term b)
  | inr h ↦ elim h [ inl b ↦ inr (inl (within_the_term b)) | inr e ↦ inr (inr e) ]
]

pub first_row_answers : FirstRowAnswers
first_row_answers types terms v = (
  λ a. one_answer (Holds types terms) Sooner fault_of (λ p q _ _. places_ordered p q) (program_verdict types terms) v (program_said types terms) a,
  λ e. subst (Said (Holds types terms)) e (program_said types terms),
)

-- an answer that is the verdict is the first row
pub first_row_is : (types : List TypeCell) (terms : List TermCell) (v : Verdict) → v ≡ program_verdict types terms → Answers (Holds types terms) Sooner fault_of v
first_row_is types terms v e = subst (Said (Holds types terms)) (sym e) (program_said types terms)

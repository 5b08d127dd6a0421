-- The turns of the search over cells.
use Rattle.std.proofs.Common.{◌≡◌, ℕ, ◌+◌, ◌<◌, ◌≤◌, List, ◌∷◌, None, Some, length, get_or, drop, sym, refl, ap, ◌∙◌, ap₂, subst, arith}
use Rattle.std.proofs.lemmas.List.{get_or-drop}
use Rattle.std.specs.Option.{option_or}
use Rattle.trees.specs.Reach.{ends}
use Rattle.calculus.specs.Cells.{blank}
use Rattle.calculus.specs.declared.cells.TermCell.{TermCell}
use Rattle.calculus.specs.Letters.{letter, parts_of, arity}
use Rattle.calculus.specs.Terms.{Term, size, erased}
use Rattle.calculus.specs.Reading.{term_at, TermsStand}
use Rattle.calculus.proofs.Reaching.{size_reclaimed}
use Rattle.finder.specs.Finding.{end_or}
use Rattle.finder.specs.Search.{applied, branched, opened, Found, found}
use Rattle.finder.specs.Words.{applied_of, branched_of, opened_of}
use Rattle.finder.proofs.Spelling.{head, applied_cells, branched_cells, opened_cells}
use Rattle.finder.proofs.Standing as standing

pub or_or : (o p x : Found) → option_or (option_or o p) x ≡ option_or o (option_or p x)
or_or None p x = refl
or_or (Some v) p x = refl

module _ (cs : List TermCell) (stand : TermsStand cs) where
  abbrev Stands : ℕ → Term ℕ → List (Term ℕ) → Type 0
  Stands = standing.Stands cs stand

  -- the end of the term at a place, and what it waits for
  abbrev pub Works : ℕ → ℕ × Found → Type 0
  Works at r = (r.0 ≡ at + size (term_at cs at)) × (r.1 ≡ found at (erased (term_at cs at)))

  abbrev WorksFor : ℕ → Term ℕ → ℕ × Found → Type 0
  WorksFor at m r = (r.0 ≡ at + size m) × (r.1 ≡ found at (erased m))

  worked : (at : ℕ) (m : Term ℕ) (ms : List (Term ℕ)) (r : ℕ × Found) → Stands at m ms → Works at r → WorksFor at m r
  worked at m ms r e w =
      let p = standing.is_term cs stand at m ms e in
      (w.0 ∙ ap (λ k. at + size k) p, w.1 ∙ ap (λ k. found at (erased k)) p)

  works : (at : ℕ) (m : Term ℕ) (ms : List (Term ℕ)) (i : ℕ) (w : Found) → Stands at m ms → WorksFor at m (i, w) → Works at (i, w)
  works at m ms i w e (p, q) =
      let t = sym (standing.is_term cs stand at m ms e) in
      (p ∙ ap (λ k. at + size k) t, q ∙ ap (λ k. found at (erased k)) t)

  first_at : (at : ℕ) → get_or cs at blank ≡ head (drop at cs)
  first_at at = ap (λ i. get_or cs i blank) none ∙ sym (get_or-drop at cs 0 blank)
    where
      none : at ≡ at + 0
      none = omega arith

  -- the rules by the first cells
  applied_at : (at to : ℕ) (f x : Term ℕ) (ms ns : List (Term ℕ)) → Stands at f ms → Stands to x ns → applied_of (get_or cs at blank).op (get_or cs at blank).argument (drop to cs) ≡ applied (erased f) (erased x)
  applied_at at to f x ms ns e g =
      let (ds, p, q) = standing.cells_of cs stand at f ms e in
      let (xs, r, s) = standing.cells_of cs stand to x ns g in
      ap₂ (λ c ys. applied_of c.op c.argument ys) (first_at at ∙ ap head p) r ∙ applied_cells f x ds xs

  branched_at : (at : ℕ) (m : Term ℕ) (ms : List (Term ℕ)) → Stands at m ms → branched_of (get_or cs at blank).op ≡ branched (erased m)
  branched_at at m ms e =
      let (ds, p, q) = standing.cells_of cs stand at m ms e in
      ap (λ c. branched_of c.op) (first_at at ∙ ap head p) ∙ branched_cells m ds

  opened_at : (at : ℕ) (m : Term ℕ) (ms : List (Term ℕ)) → Stands at m ms → opened_of (get_or cs at blank).op ≡ opened (erased m)
  opened_at at m ms e =
      let (ds, p, q) = standing.cells_of cs stand at m ms e in
      ap (λ c. opened_of c.op) (first_at at ∙ ap head p) ∙ opened_cells m ds

  module _ (at : ℕ) (l : at < length cs) where
    -- the parts of a cell are within the table
    pub first_within : (op : ℕ) → (get_or cs at blank).op ≡ op → 1 ≤ parts_of (letter op) → at + 1 < length cs
    first_within op o n =
        let (m, ms, e) = standing.first_part cs stand at l op o n in
        standing.within cs stand (at + 1) m ms e

    pub second_within : (op : ℕ) → (get_or cs at blank).op ≡ op → 2 ≤ parts_of (letter op) → (r : ℕ × Found) → Works (at + 1) r → (at + 1 ≤ r.0) × (r.0 < length cs)
    second_within op o n r w =
        let (m, k, ms, e) = standing.two_parts cs stand at l op o n in
        let p = (worked (at + 1) m (k ∷ ms) r e w).0 in
        let q = standing.within cs stand (at + 1 + size m) k ms (standing.next_terms cs stand (at + 1) m (k ∷ ms) e) in
        (omega arith, omega arith)

    pub works_lam : (get_or cs at blank).op ≡ 108 → (i : ℕ) → i ≡ end_or at (ends arity 1 (drop at cs) at) → Works at (i, None)
    works_lam o i p =
        let (m, ms, e) = standing.lam_at cs stand at l o in
        works at _ ms i None e (p ∙ standing.past_term cs stand at _ ms e, refl)

    pub works_app : (get_or cs at blank).op ≡ 97 → (r s : ℕ × Found) (w : Found) → Works (at + 1) r → Works r.0 s
        → w ≡ option_or s.1 (option_or r.1 (Some (at, applied_of (get_or cs (at + 1) blank).op (get_or cs (at + 1) blank).argument (drop r.0 cs)))) → Works at (s.0, w)
    works_app o r s w p q t =
        let (f, x, ms, e, g) = standing.app_at cs stand at l o in
        let (i, u) = worked (at + 1) f (x ∷ ms) r g p in
        let k = standing.next_terms cs stand (at + 1) f (x ∷ ms) g in
        let h : Stands r.0 x ms = subst (λ j. Stands j x ms) (sym i) k in
        let (j, v) = worked r.0 x ms s h q in
        let rule = applied_at (at + 1) r.0 f x (x ∷ ms) ms g h in
        let z = size_reclaimed (λ c. tt) f in
        let place : found r.0 (erased x) ≡ found (at + 1 + size (erased f)) (erased x) = ap (λ d. found d (erased x)) (i ∙ ap (λ d. at + 1 + d) (sym z)) in
        works at _ ms s.0 w e (omega arith, t ∙ cc)

    pub works_pair : (get_or cs at blank).op ≡ 112 → (r s : ℕ × Found) (w : Found) → Works (at + 1) r → Works r.0 s → w ≡ option_or r.1 s.1 → Works at (s.0, w)
    works_pair o r s w p q t =
        let (f, x, ms, e, g) = standing.pair_at cs stand at l o in
        let (i, u) = worked (at + 1) f (x ∷ ms) r g p in
        let k = standing.next_terms cs stand (at + 1) f (x ∷ ms) g in
        let h : Stands r.0 x ms = subst (λ j. Stands j x ms) (sym i) k in
        let (j, v) = worked r.0 x ms s h q in
        let z = size_reclaimed (λ c. tt) f in
        let place : found r.0 (erased x) ≡ found (at + 1 + size (erased f)) (erased x) = ap (λ d. found d (erased x)) (i ∙ ap (λ d. at + 1 + d) (sym z)) in
        works at _ ms s.0 w e (omega arith, t ∙ cc)

    pub works_let : (get_or cs at blank).op ≡ 100 → (r : ℕ × Found) (i : ℕ) (w : Found) → Works (at + 1) r → i ≡ end_or r.0 (ends arity 1 (drop r.0 cs) r.0)
        → w ≡ option_or r.1 (Some (at, opened_of (get_or cs (at + 1) blank).op)) → Works at (i, w)
    works_let o r i w p q t =
        let (m, n, ms, e, g) = standing.let_at cs stand at l o in
        let (j, u) = worked (at + 1) m (n ∷ ms) r g p in
        let k = standing.next_terms cs stand (at + 1) m (n ∷ ms) g in
        let h : Stands r.0 n ms = subst (λ d. Stands d n ms) (sym j) k in
        let z = standing.past_term cs stand r.0 n ms h in
        let rule = opened_at (at + 1) m (n ∷ ms) g in
        works at _ ms i w e (omega arith, t ∙ cc)

    pub works_if : (get_or cs at blank).op ≡ 105 → (r : ℕ × Found) (j i : ℕ) (w : Found) → Works (at + 1) r
        → j ≡ end_or r.0 (ends arity 1 (drop r.0 cs) r.0) → i ≡ end_or j (ends arity 1 (drop j cs) j)
        → w ≡ option_or r.1 (Some (at, branched_of (get_or cs (at + 1) blank).op)) → Works at (i, w)
    works_if o r j i w p q q' t =
        let (c, m, n, ms, e, g) = standing.if_at cs stand at l o in
        let (k, u) = worked (at + 1) c (m ∷ n ∷ ms) r g p in
        let h : Stands r.0 m (n ∷ ms) = subst (λ d. Stands d m (n ∷ ms)) (sym k) (standing.next_terms cs stand (at + 1) c (m ∷ n ∷ ms) g) in
        let z : j ≡ r.0 + size m = q ∙ standing.past_term cs stand r.0 m (n ∷ ms) h in
        let h' : Stands j n ms = subst (λ d. Stands d n ms) (sym z) (standing.next_terms cs stand r.0 m (n ∷ ms) h) in
        let z' = standing.past_term cs stand j n ms h' in
        let rule = branched_at (at + 1) c (m ∷ n ∷ ms) g in
        works at _ ms i w e (omega arith, t ∙ cc)

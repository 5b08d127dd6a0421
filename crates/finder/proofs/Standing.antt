-- Terms that stand one after the other in a table of whole cells.
use Rattle.std.proofs.Common.{◌≡◌, ℕ, suc, ◌+◌, ◌<◌, ◌≤◌, ◌⊎◌, inl, inr, subst, List, [], ◌∷◌, ◌++◌, length, get_or, drop, sym, refl, ap, ◌∙◌, arith}
use Rattle.std.proofs.lemmas.List.{at_drop_more, at_drop_all, drop_more}
use Rattle.std.proofs.lemmas.Bool.{cases_lt}
use Rattle.trees.specs.Reach.{ends}
use Rattle.calculus.specs.declared.cells.TermCell.{TermCell}
use Rattle.calculus.specs.Letters.{at_a, at_p, at_d, at_i, letter, parts_of, allowed, arity}
use Rattle.calculus.specs.Terms.{Term, lam, app, pair, if_then_else, let_pair, size}
use Rattle.calculus.specs.Cells.{placed_cells, blank}
use Rattle.calculus.specs.Reading.{top, rest, no_term, read_term, terms_of, term_at, TermsStand}
use Rattle.calculus.proofs.Reading.{stand_from, stand_next, after}
use Rattle.calculus.proofs.Reaching.{reaches}
use Rattle.calculus.proofs.ReadTerms.{at_place, read_back, written, cells_counted}
use Rattle.finder.specs.Finding.{end_or}

-- as many terms as are due
one_of : (ms : List (Term ℕ)) → 1 ≤ length ms → (m : Term ℕ) × (ns : List (Term ℕ)) × (ms ≡ m ∷ ns)
one_of [] h = absurd (omega arith)
one_of (m ∷ ms) h = (m, ms, refl)

two_of : (ms : List (Term ℕ)) → 2 ≤ length ms → (m n : Term ℕ) × (ns : List (Term ℕ)) × (ms ≡ m ∷ n ∷ ns)
two_of [] h = absurd (omega arith)
two_of (m ∷ []) h = absurd (omega arith)
two_of (m ∷ n ∷ ns) h = (m, n, ns, refl)

three_of : (ms : List (Term ℕ)) → 3 ≤ length ms → (p m n : Term ℕ) × (ns : List (Term ℕ)) × (ms ≡ p ∷ m ∷ n ∷ ns)
three_of [] h = absurd (omega arith)
three_of (p ∷ []) h = absurd (omega arith)
three_of (p ∷ m ∷ []) h = absurd (omega arith)
three_of (p ∷ m ∷ n ∷ ns) h = (p, m, n, ns, refl)

module _ (cs : List TermCell) (stand : TermsStand cs) where
  -- the term m stands at the place, and the terms ms after it
  abbrev pub Stands : ℕ → Term ℕ → List (Term ℕ) → Type 0
  Stands at m ms = terms_of (drop at cs) ≡ m ∷ ms

  pub within : (at : ℕ) (m : Term ℕ) (ms : List (Term ℕ)) → Stands at m ms → at < length cs
  within at m ms e = go (cases_lt at (length cs))
    where
      go : (at < length cs) ⊎ (length cs ≤ at) → at < length cs
      go (inl l) = l
      go (inr l) =
          let z : [] ≡ m ∷ ms = sym (at_drop_all terms_of cs at l) ∙ e in
          let n : ◌≡◌ {A = ℕ} 0 (suc (length ms)) = ap length z in
          absurd (omega arith)

  pub is_term : (at : ℕ) (m : Term ℕ) (ms : List (Term ℕ)) → Stands at m ms → term_at cs at ≡ m
  is_term at m ms e = ap (top no_term) e

  -- its cells
  pub cells_of : (at : ℕ) (m : Term ℕ) (ms : List (Term ℕ)) → Stands at m ms → (ds : List TermCell) × (drop at cs ≡ placed_cells m ++ ds) × (terms_of ds ≡ ms)
  cells_of at m ms e =
      let (ds, p) = at_place cs at stand (within at m ms e) in
      let q : drop at cs ≡ placed_cells m ++ ds = p ∙ ap (λ k. placed_cells k ++ ds) (is_term at m ms e) in
      let r : m ∷ terms_of ds ≡ m ∷ ms = sym (read_back m ds) ∙ sym (ap terms_of q) ∙ e in
      (ds, q, ap rest r)

  -- the terms after the first
  pub next_terms : (at : ℕ) (m : Term ℕ) (ms : List (Term ℕ)) → Stands at m ms → terms_of (drop (at + size m) cs) ≡ ms
  next_terms at m ms e =
      let (ds, p, q) = cells_of at m ms e in
      ap terms_of (after cs (placed_cells m) ds at (size m) p (cells_counted m)) ∙ q

  pub past_term : (at : ℕ) (m : Term ℕ) (ms : List (Term ℕ)) → Stands at m ms → end_or at (ends arity 1 (drop at cs) at) ≡ at + size m
  past_term at m ms e =
      let (ds, p, q) = cells_of at m ms e in
      ap (λ xs. end_or at (ends arity 1 xs at)) p ∙ ap (end_or at) (reaches m ds 0 at)

  module _ (at : ℕ) (l : at < length cs) where
    -- the cell at a place, read before the terms after it
    pub read_at : terms_of (drop at cs) ≡ read_term (letter (get_or cs at blank).op) (get_or cs at blank).argument (get_or cs at blank).claim (terms_of (drop (at + 1) cs))
    read_at = at_drop_more terms_of cs at blank l

    -- a cell's parts are there
    pub parts_there : arity (get_or cs at blank) ≤ length (terms_of (drop (at + 1) cs))
    parts_there =
        let s = stand_from allowed arity at cs stand in
        let e : TermsStand (get_or cs at blank ∷ drop (at + 1) cs) = subst (λ xs. TermsStand xs) (drop_more cs at blank l) s in
        let n = stand_next allowed arity (get_or cs at blank) (drop (at + 1) cs) e in
        omega (arith, n.1, (written (drop (at + 1) cs) n.2).1)

    abbrev claimed : ℕ
    claimed = (get_or cs at blank).claim

    -- a cell with a letter, with its parts
    node_at : (op : ℕ) → (get_or cs at blank).op ≡ op
        → (terms_of (drop at cs) ≡ read_term (letter op) (get_or cs at blank).argument claimed (terms_of (drop (at + 1) cs))) × (parts_of (letter op) ≤ length (terms_of (drop (at + 1) cs)))
    node_at op e =
        (read_at ∙ ap (λ o. read_term (letter o) (get_or cs at blank).argument claimed (terms_of (drop (at + 1) cs))) e, subst (λ o. parts_of (letter o) ≤ length (terms_of (drop (at + 1) cs))) e parts_there)

    pub first_part : (op : ℕ) → (get_or cs at blank).op ≡ op → 1 ≤ parts_of (letter op) → (m : Term ℕ) × (ms : List (Term ℕ)) × Stands (at + 1) m ms
    first_part op o n = one_of _ (omega (arith, (node_at op o).1))

    pub two_parts : (op : ℕ) → (get_or cs at blank).op ≡ op → 2 ≤ parts_of (letter op) → (m k : Term ℕ) × (ms : List (Term ℕ)) × Stands (at + 1) m (k ∷ ms)
    two_parts op o n = two_of _ (omega (arith, (node_at op o).1))

    -- the parts of a node at a place, by its letter
    pub lam_at : (get_or cs at blank).op ≡ 108 → (m : Term ℕ) × (ms : List (Term ℕ)) × Stands at (lam claimed m) ms
    lam_at o = let (e, n) = node_at 108 o in (_, _, e)

    pub app_at : (get_or cs at blank).op ≡ 97 → (m n : Term ℕ) × (ms : List (Term ℕ)) × Stands at (app claimed m n) ms × Stands (at + 1) m (n ∷ ms)
    app_at o =
        let (e, k) = node_at 97 o in
        let (m, n, ms, q) = two_of _ k in
        (m, n, ms, e ∙ ap (read_term at_a (get_or cs at blank).argument claimed) q, q)

    pub pair_at : (get_or cs at blank).op ≡ 112 → (m n : Term ℕ) × (ms : List (Term ℕ)) × Stands at (pair claimed m n) ms × Stands (at + 1) m (n ∷ ms)
    pair_at o =
        let (e, k) = node_at 112 o in
        let (m, n, ms, q) = two_of _ k in
        (m, n, ms, e ∙ ap (read_term at_p (get_or cs at blank).argument claimed) q, q)

    pub let_at : (get_or cs at blank).op ≡ 100 → (m n : Term ℕ) × (ms : List (Term ℕ)) × Stands at (let_pair claimed m n) ms × Stands (at + 1) m (n ∷ ms)
    let_at o =
        let (e, k) = node_at 100 o in
        let (m, n, ms, q) = two_of _ k in
        (m, n, ms, e ∙ ap (read_term at_d (get_or cs at blank).argument claimed) q, q)

    pub if_at : (get_or cs at blank).op ≡ 105 → (p m n : Term ℕ) × (ms : List (Term ℕ)) × Stands at (if_then_else claimed p m n) ms × Stands (at + 1) p (m ∷ n ∷ ms)
    if_at o =
        let (e, k) = node_at 105 o in
        let (p, m, n, ms, q) = three_of _ k in
        (p, m, n, ms, e ∙ ap (read_term at_i (get_or cs at blank).argument claimed) q, q)

-- The term that cells begin with, by where its tree ends.
use Rattle.std.proofs.Common.{◌≡◌, ℕ, zero, suc, ◌+◌, ◌-◌, ◌<◌, ◌⊎◌, T, eqb, List, [], ◌∷◌, ◌++◌, length, take, drop, Some, None, Option, inl, inr, sym, refl, ap, ◌∙◌, subst, arith}
use Rattle.std.specs.List.{flat_map}
use Rattle.std.proofs.lemmas.Bool.{and_from, cond_both, eqb-true, eqb-false}
use Rattle.std.proofs.lemmas.List.{append-nil, take-append-drop, length-take-le, length-append}
use Rattle.trees.specs.Reach.{ends, not_one, not_one_tree}
use Rattle.trees.proofs.Ends.{reach_laws}
use Rattle.trees.proofs.One.{one_whole, ends_one}
use Rattle.calculus.specs.declared.cells.TermCell.{TermCell}
use Rattle.calculus.specs.Letters.{allowed, arity}
use Rattle.calculus.specs.Cells.{placed_cells}
use Rattle.calculus.specs.Reading.{top, no_term, every, terms_of}
use Rattle.calculus.specs.Terms.{Term, size}
use Rattle.calculus.proofs.Reaching.{reaches}
use Rattle.calculus.proofs.Reading.{T_true, both}
use Rattle.calculus.proofs.ReadTerms.{written, cells_counted}

every_front : (n : ℕ) (cs : List TermCell) → T (every allowed cs) → T (every allowed (take n cs))
every_front zero cs h = tt
every_front (suc n) [] h = tt
every_front (suc n) (c ∷ cs) h =
    let p = both (allowed c) (every allowed cs) h in
    subst T (sym (and_from (allowed c) (every allowed (take n cs)) (T_true _ p.0) (T_true _ (every_front n cs p.1)))) tt

alone : (ms : List (Term ℕ)) → length ms ≡ 1 → flat_map placed_cells ms ≡ placed_cells (top no_term ms)
alone [] e = absurd (omega arith)
alone (m ∷ []) e = append-nil (placed_cells m)
alone (m ∷ n ∷ ms) e = absurd (omega arith)

-- the term whose cells these begin with
pub record Begins (cs : List TermCell) (e : ℕ) : Type 0 where
  pub term : Term ℕ
  pub others : List TermCell
  pub cells : cs ≡ placed_cells term ++ others
  pub reach : size term ≡ e

pub begins : (cs : List TermCell) (e : ℕ) → T (every allowed cs) → ends arity 1 cs 0 ≡ Some e → Begins cs e
begins cs e h at =
    let laws = reach_laws arity in
    let front = take (e - 0) cs in
    let l = laws.within 1 cs 0 e at in
    let z : e - 0 ≡ e = omega arith in
    let n : length front ≡ e = length-take-le (e - 0) cs (omega (arith, l.1)) ∙ z in
    let one = one_whole arity front (ends_one arity front (laws.alone 1 cs 0 e at ∙ ap Some (sym n))) in
    let w = written front (every_front (e - 0) cs h, one.0) in
    let m = top no_term (terms_of front) in
    let f : front ≡ placed_cells m = w.0 ∙ alone (terms_of front) (w.1 ∙ one.1) in
    record {
      term = m;
      others = drop (e - 0) cs;
      cells = sym (take-append-drop (e - 0) cs) ∙ ap (λ xs. xs ++ drop (e - 0) cs) f;
      reach = sym (cells_counted m) ∙ ap length (sym f) ∙ n;
    }

-- and the end of the tree that a term's cells begin
pub term_ends : (m : Term ℕ) (cs : List TermCell) → ends arity 1 (placed_cells m ++ cs) 0 ≡ Some (size m)
term_ends m cs = let z : 0 + size m ≡ size m = omega arith in reaches m cs 0 0 ∙ ap Some z

-- Cells that begin no term, and cells of which some are left over after their first term, which has so many.
abbrev pub Unfinished : List TermCell → Type 0
Unfinished cs = (m : Term ℕ) (ds : List TermCell) → cs ≡ placed_cells m ++ ds → ⊥

abbrev pub LeftOver : List TermCell → ℕ → Type 0
LeftOver cs k = (m : Term ℕ) × (c : TermCell) × (ds : List TermCell) × (cs ≡ placed_cells m ++ (c ∷ ds)) × (size m ≡ k)

-- what the test for exactly one tree has found
abbrev pub OneFound : List TermCell → Option ℕ → Type 0
OneFound cs None = (Unfinished cs → ⊥) × ((k : ℕ) → LeftOver cs k → ⊥)
OneFound cs (Some k) = ((Unfinished cs × (k ≡ 0)) ⊎ LeftOver cs k) × ((j : ℕ) → LeftOver cs j → j ≡ k) × (0 < k → Unfinished cs → ⊥)

module _ (cs : List TermCell) where
  ended : (m : Term ℕ) (ds : List TermCell) (o : Option ℕ) → cs ≡ placed_cells m ++ ds → ends arity 1 cs 0 ≡ o → Some (size m) ≡ o
  ended m ds o f e = sym (ap (λ cs. ends arity 1 cs 0) f ∙ term_ends m ds) ∙ e

  same_end : (m : Term ℕ) (ds : List TermCell) (n : ℕ) → cs ≡ placed_cells m ++ ds → ends arity 1 cs 0 ≡ Some n → size m ≡ n
  same_end m ds n f e = let h = ended m ds (Some n) f e in cc

  found_by_end : T (every allowed cs) → (o : Option ℕ) → ends arity 1 cs 0 ≡ o → OneFound cs (not_one (length cs) o)
  found_by_end h None e = (inl (none, refl), (λ j l. absurd (none l.0 (l.1 ∷ l.2) l.3)), (λ l. absurd (omega arith)))
    where
      none : Unfinished cs
      none m ds f = let z = ended m ds None f e in cc
  found_by_end h (Some n) e =
      let b = begins cs n h e in
      cond_both (eqb n (length cs)) _ _ (OneFound cs)
      (λ q. ((λ u. u b.term b.others b.cells), λ k l. too_long l.0 l.1 l.2 l.3 (eqb-true n (length cs) q)))
      (λ q. (inr (some_left b.term b.others b.cells b.reach (eqb-false n (length cs) q)), (λ j l. let z = same_end l.0 (l.1 ∷ l.2) n l.3 e in let y = l.4 in omega arith), (λ l u. u b.term b.others b.cells)))
    where
      too_long : (m : Term ℕ) (c : TermCell) (ds : List TermCell) → cs ≡ placed_cells m ++ (c ∷ ds) → n ≡ length cs → ⊥
      too_long m c ds f q =
          let l = same_end m (c ∷ ds) n f e in
          omega (arith, ap length f, length-append (placed_cells m) (c ∷ ds), cells_counted m)

      some_left : (m : Term ℕ) (ds : List TermCell) → cs ≡ placed_cells m ++ ds → size m ≡ n → (n ≡ length cs → ⊥) → LeftOver cs n
      some_left m [] f r q = absurd (q (omega (arith, ap length f, length-append (placed_cells m) [], cells_counted m)))
      some_left m (c ∷ ds) f r q = (m, c, ds, f, r)

  pub one_found : T (every allowed cs) → OneFound cs (not_one_tree arity cs)
  one_found h = found_by_end h (ends arity 1 cs 0) refl

-- What stands at a place of a program, by the letter of its cell.
use Rattle.std.proofs.Common.{◌≡◌, ℕ, ◌+◌, ◌-◌, ◌<◌, ◌≤◌, not, T, eqb, length, drop, sym, refl, ap, ◌∙◌, subst, ap₂, arith}
use Rattle.std.proofs.lemmas.Bool.{ltb-true}
use Rattle.trees.specs.Whole.{height}
use Rattle.calculus.specs.declared.cells.TermCell.{TermCell}
use Rattle.calculus.specs.Letters.{letter, arity, arguments_of}
use Rattle.calculus.specs.Terms.{bound, Term, var, const, star, lam, app, pair, if_then_else, let_pair, claim_of, reclaimed}
use Rattle.calculus.specs.Reading.{top, rest, no_term, read_term, type_at, term_at}
use Rattle.calculus.specs.Types.{Ty}
use Rattle.calculus.proofs.Reading.{T_true, both}
use Rattle.checker.specs.Ending.{tree_end, trees_end}
use Rattle.checker.specs.Judging.{types_of, terms_of, cell_of, term_near, term_of, PartOf}
use Rattle.checker.specs.Meaning.{meaning}
use Rattle.checker.specs.Tables.{storable}
use Rattle.checker.specs.declared.program.Node.{Node}
use Rattle.checker.proofs.Trees.{trees, here, by_cell, second_tree, third_tree, every_at}

pub claim_reclaimed : {C D : Type 0} (f : C → D) (m : Term C) → claim_of (reclaimed f m) ≡ f (claim_of m)
claim_reclaimed f (var c x) = refl
claim_reclaimed f (const c k) = refl
claim_reclaimed f (star c) = refl
claim_reclaimed f (lam c m) = refl
claim_reclaimed f (app c m n) = refl
claim_reclaimed f (pair c m n) = refl
claim_reclaimed f (if_then_else c p m n) = refl
claim_reclaimed f (let_pair c m n) = refl

-- The parts of a node, one, two or three, and where they stand.
abbrev pub second_at : Node → ℕ
second_at n = tree_end (terms_of n) (n.at + 1)

abbrev pub third_at : Node → ℕ
third_at n = tree_end (terms_of n) (second_at n)

abbrev pub IsTwo : Node → (Ty → Term Ty → Term Ty → Term Ty) → Type 0
IsTwo n join = term_of n ≡ join (claim_of (term_of n)) (term_near n (n.at + 1)) (term_near n (second_at n))

pub letter_is : {c d : TermCell} {k : ℕ} → c ≡ d → c.op ≡ k → d.op ≡ k
letter_is e h = sym (ap (λ (c : TermCell). c.op) e) ∙ h

module _ (n : Node) where
  not_qubit_cell : T (storable (cell_of n))
  not_qubit_cell = every_at storable (terms_of n) n.at _ n.program.now.judged.tables.stored n.inside

  pub not_qubit : (cell_of n).op ≡ 113 → ⊥
  not_qubit e = let s = (both _ _ not_qubit_cell).1 in subst (λ k. T (not (eqb k 113))) e s

  pub read : term_at (terms_of n) n.at ≡ top no_term (read_term (letter (cell_of n).op) (cell_of n).argument (cell_of n).claim (trees (terms_of n) (n.at + 1)))
  read = by_cell (terms_of n) n.program.now.judged.tables.terms_stand n.at _ n.inside

  pub argument_allowed : (cell_of n).argument < arguments_of (letter (cell_of n).op)
  argument_allowed = ltb-true _ _ (T_true _ (here (terms_of n) n.program.now.judged.tables.terms_stand n.at _ n.inside).0)

  parts : arity (cell_of n) ≤ height arity (drop (n.at + 1) (terms_of n))
  parts = (here (terms_of n) n.program.now.judged.tables.terms_stand n.at _ n.inside).1

  -- a term by the claim that it has, from the term by the place of its claim
  by_claim : (join : Ty → Term Ty) → ((c : Ty) → claim_of (join c) ≡ c) → (c : Ty) → term_of n ≡ join c → term_of n ≡ join (claim_of (term_of n))
  by_claim join f c e = e ∙ ap join (sym (ap claim_of e ∙ f c))

  pub var_here : (cell_of n).op ≡ 118 → term_of n ≡ var (claim_of (term_of n)) (bound (cell_of n).argument)
  var_here k =
      let e : term_at (terms_of n) n.at ≡ var (cell_of n).claim (bound (cell_of n).argument) = read ∙ simp k in
      by_claim (λ c. var c (bound (cell_of n).argument)) (λ c. refl) _ (ap (reclaimed (type_at (types_of n))) e)

  pub lam_here : (cell_of n).op ≡ 108 → term_of n ≡ lam (claim_of (term_of n)) (term_near n (n.at + 1))
  lam_here k =
      let e : term_at (terms_of n) n.at ≡ lam (cell_of n).claim (term_at (terms_of n) (n.at + 1)) = read ∙ simp k in
      by_claim (λ c. lam c (term_near n (n.at + 1))) (λ c. refl) _ (ap (reclaimed (type_at (types_of n))) e)

  second_here : 2 ≤ height arity (drop (n.at + 1) (terms_of n)) → top no_term (rest (trees (terms_of n) (n.at + 1))) ≡ term_at (terms_of n) (second_at n)
  second_here h = second_tree (terms_of n) n.program.now.judged.tables.terms_stand (n.at + 1) h

  pub app_here : (cell_of n).op ≡ 97 → IsTwo n app
  app_here k =
      let h : 2 ≤ height arity (drop (n.at + 1) (terms_of n)) = simp k at parts in
      let e : term_at (terms_of n) n.at ≡ app (cell_of n).claim (term_at (terms_of n) (n.at + 1)) (top no_term (rest (trees (terms_of n) (n.at + 1)))) = read ∙ simp k in
      by_claim (λ c. app c (term_near n (n.at + 1)) (term_near n (second_at n))) (λ c. refl) _ (ap (reclaimed (type_at (types_of n))) (e ∙ ap (app (cell_of n).claim (term_at (terms_of n) (n.at + 1))) (second_here h)))

  pub pair_here : (cell_of n).op ≡ 112 → IsTwo n pair
  pair_here k =
      let h : 2 ≤ height arity (drop (n.at + 1) (terms_of n)) = simp k at parts in
      let e : term_at (terms_of n) n.at ≡ pair (cell_of n).claim (term_at (terms_of n) (n.at + 1)) (top no_term (rest (trees (terms_of n) (n.at + 1)))) = read ∙ simp k in
      by_claim (λ c. pair c (term_near n (n.at + 1)) (term_near n (second_at n))) (λ c. refl) _ (ap (reclaimed (type_at (types_of n))) (e ∙ ap (pair (cell_of n).claim (term_at (terms_of n) (n.at + 1))) (second_here h)))

  pub let_here : (cell_of n).op ≡ 100 → IsTwo n let_pair
  let_here k =
      let h : 2 ≤ height arity (drop (n.at + 1) (terms_of n)) = simp k at parts in
      let e : term_at (terms_of n) n.at ≡ let_pair (cell_of n).claim (term_at (terms_of n) (n.at + 1)) (top no_term (rest (trees (terms_of n) (n.at + 1)))) = read ∙ simp k in
      by_claim (λ c. let_pair c (term_near n (n.at + 1)) (term_near n (second_at n))) (λ c. refl) _ (ap (reclaimed (type_at (types_of n))) (e ∙ ap (let_pair (cell_of n).claim (term_at (terms_of n) (n.at + 1))) (second_here h)))

  pub if_here : (cell_of n).op ≡ 105 → term_of n ≡ if_then_else (claim_of (term_of n)) (term_near n (n.at + 1)) (term_near n (second_at n)) (term_near n (third_at n))
  if_here k =
      let h : 3 ≤ height arity (drop (n.at + 1) (terms_of n)) = simp k at parts in
      let e : term_at (terms_of n) n.at ≡ if_then_else (cell_of n).claim (term_at (terms_of n) (n.at + 1)) (top no_term (rest (trees (terms_of n) (n.at + 1)))) (top no_term (rest (rest (trees (terms_of n) (n.at + 1))))) = read ∙ simp k in
      let third = third_tree (terms_of n) n.program.now.judged.tables.terms_stand (n.at + 1) h in
      by_claim (λ c. if_then_else c (term_near n (n.at + 1)) (term_near n (second_at n)) (term_near n (third_at n))) (λ c. refl) _
      (ap (reclaimed (type_at (types_of n))) (e ∙ ap₂ (if_then_else (cell_of n).claim (term_at (terms_of n) (n.at + 1))) (second_here (omega arith)) third))

-- the cells of the table from a node on
abbrev pub room : Node → ℕ
room n = length (terms_of n) - n.at

module _ (n : Node) (k : ℕ) (m : Node) (p : PartOf n k m) where
  pub part_term : term_of m ≡ term_near n (trees_end (terms_of n) (n.at + 1) k)
  part_term = ap₂ (λ types terms. meaning types terms m.at) p.same_types p.same_terms ∙ ap (term_near n) p.same_place

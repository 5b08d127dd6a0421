-- The finder refuses by the first row of its sheet that holds.
use Rattle.std.proofs.Common.{◌≡◌, ℕ, ◌<◌, ◌⊎◌, Bool, true, false, cond, ltb, List, length, Some, None, Ok, Err, Option, Result, inl, inr, sym, refl, ap, ap₂, ◌∙◌, subst, arith}
use Rattle.std.specs.List.{slice_get}
use Rattle.std.proofs.lemmas.Bool.{cases_lt, ltb-true, ltb-false}
use Rattle.trees.specs.Failing.{first_failing, none_at}
use Rattle.trees.specs.Reach.{not_one_tree}
use Rattle.calculus.specs.Letters.{allowed, arity}
use Rattle.calculus.specs.Reduction.{Effect, Reduces}
use Rattle.calculus.specs.Terms.{Running, erased}
use Rattle.calculus.specs.Reading.{term_at}
use Rattle.calculus.specs.declared.cells.TermCell.{TermCell}
use Rattle.calculus.proofs.Failing.{all_pass, FirstFails, first_fails}
use Rattle.calculus.proofs.FirstTree.{Unfinished, LeftOver, OneFound, one_found}
use Rattle.finder.specs.Due.{Due}
use Rattle.finder.specs.Faults.{fault, number_of}
use Rattle.finder.specs.Finding.{tested, told, past_tests, answer}
use Rattle.finder.specs.Laws.{Means}
use Rattle.finder.specs.Search.{Found, found}
use Rattle.finder.specs.Sheet.{Row, too_many, not_allowed, unfinished, left_over, no_rule, IsFirst, Answers, FirstRowAnswers}
use Rattle.finder.specs.declared.rules.Rule.{Rule}
use Rattle.finder.specs.declared.faults.FindFault.{FindFault}
use Rattle.finder.specs.declared.faults.FindReason.{FindReason}
use Rattle.finder.specs.declared.faults.FindReason.TheVariants.{TooManyCells, BadCell, NotWhole, NoRule}
use Rattle.finder.proofs.Reduction.{search_is_reduction}

by_its_number : (r q : FindReason) → number_of r ≡ number_of q → r ≡ q
by_its_number TooManyCells TooManyCells e = refl
by_its_number TooManyCells BadCell e = absurd (omega arith)
by_its_number TooManyCells NotWhole e = absurd (omega arith)
by_its_number TooManyCells NoRule e = absurd (omega arith)
by_its_number BadCell TooManyCells e = absurd (omega arith)
by_its_number BadCell BadCell e = refl
by_its_number BadCell NotWhole e = absurd (omega arith)
by_its_number BadCell NoRule e = absurd (omega arith)
by_its_number NotWhole TooManyCells e = absurd (omega arith)
by_its_number NotWhole BadCell e = absurd (omega arith)
by_its_number NotWhole NotWhole e = refl
by_its_number NotWhole NoRule e = absurd (omega arith)
by_its_number NoRule TooManyCells e = absurd (omega arith)
by_its_number NoRule BadCell e = absurd (omega arith)
by_its_number NoRule NotWhole e = absurd (omega arith)
by_its_number NoRule NoRule e = refl

same_fault : (f g : FindFault) → ◌≡◌ {A = Result (Option (Rule × ℕ)) FindFault} (Err f) (Err g) → f ≡ g
same_fault f g e = cc

module _ (cs : List TermCell) where
  many_row : {k : ℕ} → Row cs TooManyCells k → (k ≡ 1024) × (1024 < length cs)
  many_row (too_many l) = (refl, l)

  bad_row : {k : ℕ} → Row cs BadCell k → (c : TermCell) × (slice_get cs k ≡ Some c) × (allowed c ≡ false)
  bad_row (not_allowed c g e) = (c, g, e)

  tree_row : {k : ℕ} → Row cs NotWhole k → (Unfinished cs × (k ≡ 0)) ⊎ LeftOver cs k
  tree_row (unfinished u) = inl (u, refl)
  tree_row (left_over m c ds f) = inr (m, c, ds, f, refl)

  to_row : (k : ℕ) → (Unfinished cs × (k ≡ 0)) ⊎ LeftOver cs k → Row cs NotWhole k
  to_row k (inl u) = subst (λ k. Row cs NotWhole k) (sym u.1) (unfinished u.0)
  to_row k (inr l) = subst (λ k. Row cs NotWhole k) l.4 (left_over l.0 l.1 l.2 l.3)

  rule_row : {k : ℕ} → Row cs NoRule k → (m : Running) × Means cs m × ((p : Running) × Due m k p × ((e : Effect) (n : Running) → Reduces p e n → ⊥))
  rule_row (no_rule m p h d r) = (m, h, (p, d, r))

  -- none of the first three rows holds
  record Passes : Type 0 where
    pub few : (k : ℕ) → Row cs TooManyCells k → ⊥
    pub good : (k : ℕ) → Row cs BadCell k → ⊥
    pub one : (k : ℕ) → Row cs NotWhole k → ⊥

  -- what the tests say
  abbrev Said : Result (Unit {0}) FindFault → Type 0
  Said (Ok x) = Passes
  Said (Err f) = IsFirst cs f

  first_of : (q : FindReason) (k : ℕ) → Row cs q k → ((j : ℕ) → Row cs q j → j < k → ⊥) → ((r : FindReason) (j : ℕ) → Row cs r j → number_of r < number_of q → ⊥) → IsFirst cs (fault q k)
  first_of q k row same lower = (
    row,
    λ r j h b. elim b [
      | inl l ↦ lower r j h l
      | inr l ↦ same j (subst (λ r. Row cs r j) (by_its_number r q l.0) h) l.1
    ],
  )

  lower_many : (r : FindReason) (j : ℕ) → Row cs r j → number_of r < 20 → ⊥
  lower_many TooManyCells j h l = omega arith
  lower_many BadCell j h l = omega arith
  lower_many NotWhole j h l = omega arith
  lower_many NoRule j h l = omega arith

  lower_bad : ((k : ℕ) → Row cs TooManyCells k → ⊥) → (r : FindReason) (j : ℕ) → Row cs r j → number_of r < 21 → ⊥
  lower_bad few TooManyCells j h l = few j h
  lower_bad few BadCell j h l = omega arith
  lower_bad few NotWhole j h l = omega arith
  lower_bad few NoRule j h l = omega arith

  lower_tree : ((k : ℕ) → Row cs TooManyCells k → ⊥) → ((k : ℕ) → Row cs BadCell k → ⊥) → (r : FindReason) (j : ℕ) → Row cs r j → number_of r < 22 → ⊥
  lower_tree few good TooManyCells j h l = few j h
  lower_tree few good BadCell j h l = good j h
  lower_tree few good NotWhole j h l = omega arith
  lower_tree few good NoRule j h l = omega arith

  lower_rule : Passes → (r : FindReason) (j : ℕ) → Row cs r j → number_of r < 36 → ⊥
  lower_rule p TooManyCells j h l = p.few j h
  lower_rule p BadCell j h l = p.good j h
  lower_rule p NotWhole j h l = p.one j h
  lower_rule p NoRule j h l = omega arith

  by_trees : ((k : ℕ) → Row cs TooManyCells k → ⊥) → ((k : ℕ) → Row cs BadCell k → ⊥) → (o : Option ℕ) → OneFound cs o → Said (none_at (fault NotWhole) o (Ok tt))
  by_trees few good None h = record { few = few; good = good; one = λ k r. elim (tree_row r) [ inl u ↦ h.0 u.0 | inr l ↦ h.1 k l ] }
  by_trees few good (Some k) h =
      first_of NotWhole k (to_row k h.0) (λ j r l. elim (tree_row r) [ inl u ↦ h.2 (omega arith) u.0 | inr g ↦ (let z = h.1 j g in omega arith) ]) (lower_tree few good)

  by_cells : ((k : ℕ) → Row cs TooManyCells k → ⊥) → (o : Option ℕ) → first_failing allowed cs 0 ≡ o → FirstFails allowed cs 0 o → Said (none_at (fault BadCell) o (none_at (fault NotWhole) (not_one_tree arity cs) (Ok tt)))
  by_cells few None e h = by_trees few (λ k r. let b = bad_row r in h k b.0 b.1 b.2) (not_one_tree arity cs) (one_found cs (all_pass allowed cs 0 e))
  by_cells few (Some k) e h =
      first_of BadCell k (subst (λ k. Row cs BadCell k) (let z = h.2 in omega arith) (not_allowed h.1 h.3 h.4))
      (λ j r l. let b = bad_row r in h.5 j b.0 (let z = h.2 in omega arith) b.1 b.2) (lower_bad few)

  by_count : (b : Bool) → ltb 1024 (length cs) ≡ b
      → Said (cond b (Err (fault TooManyCells 1024)) (none_at (fault BadCell) (first_failing allowed cs 0) (none_at (fault NotWhole) (not_one_tree arity cs) (Ok tt))))
  by_count true e = first_of TooManyCells 1024 (too_many (ltb-true _ _ e)) (λ j r l. (let z = (many_row r).0 in omega arith)) lower_many
  by_count false e = by_cells (λ k r. (let l = (many_row r).1 in let g = ltb-false _ _ e in omega arith)) (first_failing allowed cs 0) refl (first_fails allowed cs 0)

  tests_said : Said (tested cs)
  tests_said = by_count (ltb 1024 (length cs)) refl

  -- past the tests the cells mean a term
  meant_term : tested cs ≡ Ok tt → (m : Running) × Means cs m
  meant_term e = (search_is_reduction.passes cs).0 e

  abbrev Answered : Result (Option (Rule × ℕ)) FindFault → Type 0
  Answered = Answers cs

  -- a row of a due part without a step is what the finder answers
  rule_answer : (k : ℕ) → Row cs NoRule k → answer cs ≡ Err (fault NoRule k)
  rule_answer k r = let h = rule_row r in (search_is_reduction.stuck cs h.0 k h.1).1 h.2

  no_rows : Passes → (x : Option (Rule × ℕ)) → answer cs ≡ Ok x → (r : FindReason) (k : ℕ) → Row cs r k → ⊥
  no_rows p x e TooManyCells k h = p.few k h
  no_rows p x e BadCell k h = p.good k h
  no_rows p x e NotWhole k h = p.one k h
  no_rows p x e NoRule k h = let z = rule_answer k h in cc

  told_said : Passes → (m : Running) → Means cs m → (w : Found) → answer cs ≡ told w → Answered (told w)
  told_said p m h None e = no_rows p None e
  told_said p m h (Some (k, Some r)) e = no_rows p (Some (r, k)) e
  told_said p m h (Some (k, None)) e =
      let s = (search_is_reduction.stuck cs m k h).0 e in
      first_of NoRule k (no_rule m s.0 h s.1 s.2) (λ j r l. let z : fault NoRule j ≡ fault NoRule k = same_fault (fault NoRule j) (fault NoRule k) (sym (rule_answer j r) ∙ e) in let y = ap (λ (f : FindFault). f.cell) z in omega arith) (lower_rule p)

  answer_said : Answered (answer cs)
  answer_said = go (tested cs) refl tests_said
    where
      go : (t : Result (Unit {0}) FindFault) → tested cs ≡ t → Said t → Answered (answer cs)
      go (Ok u) e s =
          let m = meant_term e in
          subst Answered (sym (ap (past_tests cs) e)) (told_said s m.0 m.1 (found 0 (erased (term_at cs 0))) (ap (past_tests cs) e))
      go (Err f) e s = subst Answered (sym (ap (past_tests cs) e)) s

  same_first : (f g : FindFault) → IsFirst cs f → IsFirst cs g → f ≡ g
  same_first f g a b =
      let n : number_of f.reason ≡ number_of g.reason = elim (cases_lt (number_of f.reason) (number_of g.reason)) [
        | inl l ↦ absurd (b.1 f.reason f.cell a.0 (inl l))
        | inr l ↦ elim (cases_lt (number_of g.reason) (number_of f.reason)) [ inl h ↦ absurd (a.1 g.reason g.cell b.0 (inl h)) | inr h ↦ omega arith ]
      ] in
      let c : f.cell ≡ g.cell = elim (cases_lt f.cell g.cell) [
        | inl l ↦ absurd (b.1 f.reason f.cell a.0 (inr (n, l)))
        | inr l ↦ elim (cases_lt g.cell f.cell) [ inl h ↦ absurd (a.1 g.reason g.cell b.0 (inr (sym n, h))) | inr h ↦ omega arith ]
      ] in
      ap₂ fault (by_its_number f.reason g.reason n) c

  is_answer : (f : FindFault) → IsFirst cs f → answer cs ≡ Err f
  is_answer f a = go (answer cs) answer_said
    where
      go : (x : Result (Option (Rule × ℕ)) FindFault) → Answered x → x ≡ Err f
      go (Ok x) h = absurd (h f.reason f.cell a.0)
      go (Err g) h = ap Err (same_first g f h a)

  some_answer : ((r : FindReason) (k : ℕ) → Row cs r k → ⊥) → (x : Option (Rule × ℕ)) × (answer cs ≡ Ok x)
  some_answer none = go (answer cs) answer_said
    where
      go : (y : Result (Option (Rule × ℕ)) FindFault) → Answered y → (x : Option (Rule × ℕ)) × (y ≡ Ok x)
      go (Ok x) h = (x, refl)
      go (Err f) h = absurd (none f.reason f.cell h.0)

pub first_row_answers : FirstRowAnswers
first_row_answers = record {
  refused = λ cs f. (is_answer cs f, λ e. subst (Answered cs) e (answer_said cs));
  accepted = λ cs. (some_answer cs, λ (x, e). subst (Answered cs) e (answer_said cs));
}

-- an answer that is the finder's is the sheet's
pub first_row_is : (cs : List TermCell) (x : Result (Option (Rule × ℕ)) FindFault) → x ≡ answer cs → Answers cs x
first_row_is cs x e = subst (Answers cs) (sym e) (answer_said cs)

-- The running term that cells mean, whatever they claim.
use Rattle.std.proofs.Common.{Err, Option, Result, ◌≡◌, ℕ, zero, suc, ◌+◌, ◌≤◌, true, false, cond, T, List, [], ◌∷◌, ◌++◌, map, length, Some, Ok, sym, refl, ap, ◌∙◌, ap₂, arith}
use Rattle.std.specs.List.{flat_map}
use Rattle.std.proofs.lemmas.Bool.{le-ltb}
use Rattle.std.proofs.lemmas.List.{append-nil, length-map}
use Rattle.trees.specs.Failing.{first_failing}
use Rattle.trees.specs.Reach.{ends}
use Rattle.trees.proofs.One.{ends_one}
use Rattle.calculus.specs.declared.cells.TermCell.{TermCell}
use Rattle.calculus.specs.Gates.{gate_of}
use Rattle.calculus.specs.Letters.{Letter, at_v, at_q, at_g, at_0, at_1, at_m, at_n, at_s, at_l, at_a, at_p, at_d, at_i, other, letter, allowed, arity}
use Rattle.calculus.specs.Terms.{bit_of, meas, new, gate, bound, held, Term, var, const, star, lam, app, pair, if_then_else, let_pair, Running, size, reclaimed, erased}
use Rattle.calculus.specs.Cells.{cell_of, placed_cells, running_cells, unclaimed}
use Rattle.calculus.specs.Reading.{top, rest, or_toffoli, no_term, read_term, terms_of, term_at, every}
use Rattle.calculus.proofs.Failing.{none_fails}
use Rattle.calculus.proofs.ReadTerms.{read_back, written, cells_counted}
use Rattle.finder.specs.Finding.{tested, past_tests, answer, told}
use Rattle.finder.specs.Laws.{Means}
use Rattle.finder.specs.declared.rules.Rule.{Rule}
use Rattle.finder.specs.declared.faults.FindFault.{FindFault}
use Rattle.finder.specs.Search.{found}
use Rattle.calculus.proofs.Reaching.{reaches}
use Rattle.finder.proofs.Tests.{passed}

erased_back : (m : Running) → erased {C = ℕ} (reclaimed (λ c. 0) m) ≡ m
erased_back (var c x) = refl
erased_back (const c k) = refl
erased_back (star c) = refl
erased_back (lam c m) = ap (lam tt) (erased_back m)
erased_back (app c m n) = ap₂ (app tt) (erased_back m) (erased_back n)
erased_back (pair c m n) = ap₂ (pair tt) (erased_back m) (erased_back n)
erased_back (if_then_else c p m n) = simp (erased_back p, erased_back m, erased_back n)
erased_back (let_pair c m n) = ap₂ (let_pair tt) (erased_back m) (erased_back n)

unclaimed_join : (cs ds : List TermCell) → unclaimed (cs ++ ds) ≡ unclaimed cs ++ unclaimed ds
unclaimed_join [] ds = refl
unclaimed_join (c ∷ cs) ds = ap (λ es. cell_of c.op c.argument 0 ∷ es) (unclaimed_join cs ds)

pub unclaimed_cells : (m : Term ℕ) → unclaimed (placed_cells m) ≡ running_cells (erased m)
unclaimed_cells (var c x) = refl
unclaimed_cells (const c k) = refl
unclaimed_cells (star c) = refl
unclaimed_cells (lam c m) = ap (λ cs. cell_of 108 0 0 ∷ cs) (unclaimed_cells m)
unclaimed_cells (app c m n) = ap (λ cs. cell_of 97 0 0 ∷ cs) (unclaimed_join (placed_cells m) (placed_cells n) ∙ ap₂ ◌++◌ (unclaimed_cells m) (unclaimed_cells n))
unclaimed_cells (pair c m n) = ap (λ cs. cell_of 112 0 0 ∷ cs) (unclaimed_join (placed_cells m) (placed_cells n) ∙ ap₂ ◌++◌ (unclaimed_cells m) (unclaimed_cells n))
unclaimed_cells (if_then_else c p m n) =
    ap (λ cs. cell_of 105 0 0 ∷ cs)
    (unclaimed_join (placed_cells p) (placed_cells m ++ placed_cells n)
    ∙ ap₂ ◌++◌ (unclaimed_cells p) (unclaimed_join (placed_cells m) (placed_cells n) ∙ ap₂ ◌++◌ (unclaimed_cells m) (unclaimed_cells n)))
unclaimed_cells (let_pair c m n) = ap (λ cs. cell_of 100 0 0 ∷ cs) (unclaimed_join (placed_cells m) (placed_cells n) ∙ ap₂ ◌++◌ (unclaimed_cells m) (unclaimed_cells n))

-- what is read does not depend on claims
abbrev Alike : List (Term ℕ) → List (Term ℕ) → Type 0
Alike ms ns = map erased ms ≡ map erased ns

top_erased : (ms : List (Term ℕ)) → erased (top no_term ms) ≡ top (star tt) (map erased ms)
top_erased [] = refl
top_erased (m ∷ ms) = refl

rest_erased : (ms : List (Term ℕ)) → map erased (rest ms) ≡ rest (map erased ms)
rest_erased [] = refl
rest_erased (m ∷ ms) = refl

tops : (ms ns : List (Term ℕ)) → Alike ms ns → erased (top no_term ms) ≡ erased (top no_term ns)
tops ms ns e = top_erased ms ∙ ap (top (star tt)) e ∙ sym (top_erased ns)

rests : (ms ns : List (Term ℕ)) → Alike ms ns → Alike (rest ms) (rest ns)
rests ms ns e = rest_erased ms ∙ ap rest e ∙ sym (rest_erased ns)

read_alike : (l : Letter) (x c d : ℕ) (ms ns : List (Term ℕ)) → Alike ms ns → Alike (read_term l x c ms) (read_term l x d ns)
read_alike at_v x c d ms ns e = ap (λ ks. var tt (bound x) ∷ ks) e
read_alike at_q x c d ms ns e = ap (λ ks. var tt (held x) ∷ ks) e
read_alike at_g x c d ms ns e = ap (λ ks. const tt (gate (or_toffoli (gate_of x))) ∷ ks) e
read_alike at_0 x c d ms ns e = ap (λ ks. const tt (bit_of false) ∷ ks) e
read_alike at_1 x c d ms ns e = ap (λ ks. const tt (bit_of true) ∷ ks) e
read_alike at_m x c d ms ns e = ap (λ ks. const tt meas ∷ ks) e
read_alike at_n x c d ms ns e = ap (λ ks. const tt new ∷ ks) e
read_alike at_s x c d ms ns e = ap (λ ks. star tt ∷ ks) e
read_alike at_l x c d ms ns e = ap₂ (λ m ks. lam tt m ∷ ks) (tops ms ns e) (rests ms ns e)
read_alike at_a x c d ms ns e = let r = rests ms ns e in simp (tops ms ns e, tops (rest ms) (rest ns) r, rests (rest ms) (rest ns) r)
read_alike at_p x c d ms ns e = let r = rests ms ns e in simp (tops ms ns e, tops (rest ms) (rest ns) r, rests (rest ms) (rest ns) r)
read_alike at_d x c d ms ns e = let r = rests ms ns e in simp (tops ms ns e, tops (rest ms) (rest ns) r, rests (rest ms) (rest ns) r)
read_alike at_i x c d ms ns e =
    let r = rests ms ns e in
    let s = rests (rest ms) (rest ns) r in
    simp (tops ms ns e, tops (rest ms) (rest ns) r, tops (rest (rest ms)) (rest (rest ns)) s, rests (rest (rest ms)) (rest (rest ns)) s)
read_alike other x c d ms ns e = ap (λ ks. star tt ∷ ks) e

terms_alike : (cs : List TermCell) → Alike (terms_of cs) (terms_of (unclaimed cs))
terms_alike [] = refl
terms_alike (c ∷ cs) = read_alike (letter c.op) c.argument c.claim 0 (terms_of cs) (terms_of (unclaimed cs)) (terms_alike cs)

ends_alike : (k : ℕ) (cs : List TermCell) (at : ℕ) → ends arity k (unclaimed cs) at ≡ ends arity k cs at
ends_alike zero cs at = refl
ends_alike (suc k) [] at = refl
ends_alike (suc k) (c ∷ cs) at = ends_alike (k + arity c) cs (suc at)

failing_alike : (cs : List TermCell) (k : ℕ) → first_failing allowed (unclaimed cs) k ≡ first_failing allowed cs k
failing_alike [] k = refl
failing_alike (c ∷ cs) k = ap (λ r. cond (allowed c) r (Some k)) (failing_alike cs (k + 1))

-- so no claim is looked at
module _ (cs : List TermCell) where
  pub as_many : length (unclaimed cs) ≡ length cs
  as_many = length-map cs (λ c. cell_of c.op c.argument 0)

  tested_alike : tested (unclaimed cs) ≡ tested cs
  tested_alike = simp (as_many, failing_alike cs 0, ends_alike 1 cs 0)

  tests_alike : (r : Result (Unit {0}) FindFault) → past_tests (unclaimed cs) r ≡ past_tests cs r
  tests_alike (Ok u) = ap (λ m. told (found 0 m)) (sym (tops (terms_of cs) (terms_of (unclaimed cs)) (terms_alike cs)))
  tests_alike (Err f) = refl

  pub claims : answer (unclaimed cs) ≡ answer cs
  claims = ap (past_tests (unclaimed cs)) tested_alike ∙ tests_alike (tested cs)

module _ (cs : List TermCell) (m : Running) (h : Means cs m) where
  abbrev zeroed : Term ℕ
  zeroed = reclaimed (λ c. 0) m

  joined : unclaimed cs ≡ placed_cells zeroed ++ []
  joined = h.written ∙ sym (append-nil (placed_cells zeroed))

  pub term_meant : erased (term_at cs 0) ≡ m
  term_meant =
      tops (terms_of cs) (terms_of (unclaimed cs)) (terms_alike cs)
      ∙ ap (λ ds. erased (top no_term (terms_of ds))) joined
      ∙ ap (λ ms. erased (top no_term ms)) (read_back zeroed [])
      ∙ erased_back m

  pub passes : tested cs ≡ Ok tt
  passes =
      let long : length cs ≡ size zeroed = sym (as_many cs) ∙ ap length h.written ∙ cells_counted zeroed in
      let end : ends arity 1 cs 0 ≡ Some (0 + size zeroed) = sym (ends_alike 1 cs 0) ∙ ap (λ ds. ends arity 1 ds 0) joined ∙ reaches zeroed [] 0 0 in
      let all : 0 + size zeroed ≡ length cs = omega arith in
      simp (le-ltb 1024 (length cs) h.few, none_fails allowed cs 0 h.each_allowed, ends_one arity cs (end ∙ ap Some all))

  -- so the answer is that of the term
  pub answered : answer cs ≡ told (found 0 m)
  answered = ap (past_tests cs) passes ∙ ap (λ k. told (found 0 k)) term_meant

pub meant : (cs : List TermCell) → tested cs ≡ Ok tt → (m : Running) × Means cs m
meant cs e =
    let (n, s, k) = passed cs e in
    let w = written cs s in
    go n s.0 (terms_of cs) refl w.0 (w.1 ∙ k)
  where
    go : length cs ≤ 1024 → T (every allowed cs) → (ms : List (Term ℕ)) → terms_of cs ≡ ms → cs ≡ flat_map placed_cells (terms_of cs) → length (terms_of cs) ≡ 1 → (m : Running) × Means cs m
    go n a [] p q l = let z : ◌≡◌ {A = ℕ} 0 1 = sym (ap length p) ∙ l in absurd (omega arith)
    go n a (m ∷ []) p q l =
        (erased m, record { few = n; each_allowed = a; written = ap unclaimed (q ∙ ap (flat_map placed_cells) p ∙ append-nil (placed_cells m)) ∙ unclaimed_cells m })
    go n a (m ∷ k ∷ ms) p q l = let z : ◌≡◌ {A = ℕ} (suc (suc (length ms))) 1 = sym (ap length p) ∙ l in absurd (omega arith)

-- what passed the tests, if a rule is answered
pub answered_passes : (cs : List TermCell) (t : Option (Rule × ℕ)) → answer cs ≡ Ok t → tested cs ≡ Ok tt
answered_passes cs t e = go (tested cs) e
  where
    go : (r : Result (Unit {0}) FindFault) → past_tests cs r ≡ Ok t → r ≡ Ok tt
    go (Ok u) f = refl
    go (Err g) f = let z : ◌≡◌ {A = ℕ} 0 1 = cc in absurd (omega arith)

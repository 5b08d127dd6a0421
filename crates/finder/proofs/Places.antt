-- Where the parts of a term stand among its cells.
use Rattle.std.proofs.Common.{◌≡◌, ℕ, ◌+◌, ◌<◌, List, [], ◌∷◌, ◌++◌, length, drop, sym, refl, ap, ◌∙◌, subst, arith}
use Rattle.std.proofs.lemmas.List.{append_assoc, append-nil, length-append, length-drop}
use Rattle.calculus.specs.declared.cells.TermCell.{TermCell}
use Rattle.calculus.specs.Terms.{var, const, star, lam, app, pair, if_then_else, let_pair, Running, size, reclaimed}
use Rattle.calculus.specs.Cells.{running_cells}
use Rattle.calculus.specs.Reduction.{value_var, value_const, value_lam, value_pair, Effect, Reduces, apply_function, open_pair, take_then, take_else, prepare_qubit, read_qubit, apply_gate, in_argument, in_function, in_left, in_right, in_condition, in_pair}
use Rattle.calculus.proofs.Determinism.{operands_value}
use Rattle.calculus.proofs.Reading.{after}
use Rattle.calculus.proofs.ReadTerms.{cells_counted}
use Rattle.finder.specs.Due.{Due, due_application, due_let, due_condition, of_argument, of_function, of_left, of_right, of_test, of_pair}
use Rattle.finder.specs.Steps.{step_rule, step_cell}
use Rattle.calculus.proofs.Reaching.{size_reclaimed}

pub counted : (m : Running) → length (running_cells m) ≡ size m
counted m = cells_counted (reclaimed (λ c. 0) m) ∙ size_reclaimed (λ c. 0) m

-- The term's cells stand in the table from a place on.
abbrev pub StandsAt : List TermCell → ℕ → Running → Type 0
StandsAt cs at m = (ds : List TermCell) × (drop at cs ≡ running_cells m ++ ds)

module _ (cs : List TermCell) (c : TermCell) (m n : Running) (at : ℕ) where
  parts : (ds : List TermCell) → drop at cs ≡ c ∷ ((running_cells m ++ running_cells n) ++ ds) → drop (at + 1) cs ≡ running_cells m ++ (running_cells n ++ ds)
  parts ds e = after cs (c ∷ []) _ at 1 e refl ∙ append_assoc (running_cells m) (running_cells n) ds

  pub left_part : (ds : List TermCell) → drop at cs ≡ c ∷ ((running_cells m ++ running_cells n) ++ ds) → StandsAt cs (at + 1) m
  left_part ds e = (running_cells n ++ ds, parts ds e)

  pub right_part : (ds : List TermCell) → drop at cs ≡ c ∷ ((running_cells m ++ running_cells n) ++ ds) → StandsAt cs (at + 1 + size m) n
  right_part ds e = (ds, after cs (running_cells m) (running_cells n ++ ds) (at + 1) (size m) (parts ds e) (counted m))

module _ (cs : List TermCell) (c : TermCell) (p m n : Running) (at : ℕ) where
  pub test_part : (ds : List TermCell) → drop at cs ≡ c ∷ ((running_cells p ++ (running_cells m ++ running_cells n)) ++ ds) → StandsAt cs (at + 1) p
  test_part ds e = ((running_cells m ++ running_cells n) ++ ds, after cs (c ∷ []) _ at 1 e refl ∙ append_assoc (running_cells p) (running_cells m ++ running_cells n) ds)

module _ (cs : List TermCell) where
  placed : (m : Running) (i j : ℕ) → i ≡ j → StandsAt cs i m → StandsAt cs j m
  placed m i j e s = subst (λ k. StandsAt cs k m) e s

  due_stands : {m p : Running} {k : ℕ} (at : ℕ) → Due m k p → StandsAt cs at m → StandsAt cs (at + k) p
  due_stands at (due_application {c = c} {m = m} {n = n} v w) s = placed (app c m n) at (at + 0) (omega arith) s
  due_stands at (due_let {c = c} {m = m} {n = n} v) s = placed (let_pair c m n) at (at + 0) (omega arith) s
  due_stands at (due_condition {c = c} {p = p} {m = m} {n = n} v) s = placed (if_then_else c p m n) at (at + 0) (omega arith) s
  due_stands at (of_argument {m = m} {n = n} {p = p} {k = k} d) (ds, e) = placed p (at + 1 + size m + k) (at + (1 + size m + k)) (omega arith) (due_stands (at + 1 + size m) d (right_part cs _ m n at ds e))
  due_stands at (of_function {m = m} {v = v} {p = p} {k = k} x d) (ds, e) = placed p (at + 1 + k) (at + (1 + k)) (omega arith) (due_stands (at + 1) d (left_part cs _ m v at ds e))
  due_stands at (of_left {m = m} {n = n} {p = p} {k = k} d) (ds, e) = placed p (at + 1 + k) (at + (1 + k)) (omega arith) (due_stands (at + 1) d (left_part cs _ m n at ds e))
  due_stands at (of_right {v = v} {n = n} {p = p} {k = k} x d) (ds, e) = placed p (at + 1 + size v + k) (at + (1 + size v + k)) (omega arith) (due_stands (at + 1 + size v) d (right_part cs _ v n at ds e))
  due_stands at (of_test {q = q} {m = m} {n = n} {p = p} {k = k} d) (ds, e) = placed p (at + 1 + k) (at + (1 + k)) (omega arith) (due_stands (at + 1) d (test_part cs _ q m n at ds e))
  due_stands at (of_pair {m = m} {n = n} {p = p} {k = k} d) (ds, e) = placed p (at + 1 + k) (at + (1 + k)) (omega arith) (due_stands (at + 1) d (left_part cs _ m n at ds e))

pub stands : (m p : Running) (k : ℕ) → Due m k p → StandsAt (running_cells m) k p
stands m p k d = placed (running_cells m) p (0 + k) k (omega arith) (due_stands (running_cells m) 0 d ([], sym (append-nil (running_cells m))))

some_size : (m : Running) → 0 < size m
some_size (var c x) = omega arith
some_size (const c k) = omega arith
some_size (star c) = omega arith
some_size (lam c m) = omega arith
some_size (app c m n) = omega arith
some_size (pair c m n) = omega arith
some_size (if_then_else c p m n) = omega arith
some_size (let_pair c m n) = omega arith

pub due_within : (m p : Running) (k : ℕ) → Due m k p → k < length (running_cells m)
due_within m p k d =
    let (ds, e) = stands m p k d in
    let l = ap length e ∙ length-append (running_cells p) ds in
    omega (arith, length-drop k (running_cells m), counted p, some_size p)

-- the part that a step's rule applies to
pub redex : {m n : Running} {e : Effect} (d : Reduces m e n) → (p q : Running) × (r : Reduces p e q) × Due m (step_cell d) p × (step_rule r ≡ step_rule d) × (step_cell r ≡ 0)
redex (apply_function v) = (_, _, apply_function v, due_application value_lam v, refl, refl)
redex (open_pair v w) = (_, _, open_pair v w, due_let (value_pair v w), refl, refl)
redex take_then = (_, _, take_then, due_condition value_const, refl, refl)
redex take_else = (_, _, take_else, due_condition value_const, refl, refl)
redex prepare_qubit = (_, _, prepare_qubit, due_application value_const value_const, refl, refl)
redex read_qubit = (_, _, read_qubit, due_application value_const value_var, refl, refl)
redex (apply_gate o) = (_, _, apply_gate o, due_application value_const (operands_value o), refl, refl)
redex (in_argument d) = let (p, q, r, u, s, z) = redex d in (p, q, r, of_argument u, s, z)
redex (in_function v d) = let (p, q, r, u, s, z) = redex d in (p, q, r, of_function v u, s, z)
redex (in_left d) = let (p, q, r, u, s, z) = redex d in (p, q, r, of_left u, s, z)
redex (in_right v d) = let (p, q, r, u, s, z) = redex d in (p, q, r, of_right v u, s, z)
redex (in_condition d) = let (p, q, r, u, s, z) = redex d in (p, q, r, of_test u, s, z)
redex (in_pair d) = let (p, q, r, u, s, z) = redex d in (p, q, r, of_pair u, s, z)

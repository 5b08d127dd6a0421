-- What a step asks of the register stands at its cell.
use Rattle.std.proofs.Common.{◌≡◌, ℕ, zero, suc, ◌+◌, List, [], ◌∷◌, map, get_or, drop, sym, refl, ap, ◌∙◌, ap₂, subst, inl, inr, arith}
use Rattle.std.proofs.lemmas.List.{append-nil, get_or-drop}
use Rattle.calculus.specs.declared.cells.TermCell.{TermCell}
use Rattle.calculus.specs.declared.gates.Gate.{Gate}
use Rattle.calculus.specs.declared.gates.Gate.TheVariants.{H, X, Z, S, Cnot, Swap}
use Rattle.calculus.specs.declared.gates.Gate.TheVariants.{T as gate_t}
use Rattle.calculus.specs.Terms.{gate, held, Running, var, const, app, pair, size}
use Rattle.calculus.specs.Cells.{cell_of, running_cells, unclaimed, blank}
use Rattle.calculus.specs.Reduction.{Operands, on_h, on_x, on_z, on_s, on_t, on_cnot, on_swap, on_toffoli, Effect, silent, prepares, reads, applies, Reduces, apply_function, open_pair, take_then, take_else, prepare_qubit, read_qubit, apply_gate, in_argument, in_function, in_left, in_right, in_condition, in_pair}
use Rattle.finder.specs.Laws.{Means, op_at, argument_at, qubit_cells, Asks}
use Rattle.finder.specs.Steps.{step_rule, step_cell}
use Rattle.finder.specs.declared.rules.Rule.{Rule}
use Rattle.finder.proofs.Places.{StandsAt, left_part, right_part, test_part}

-- cells of a table by those from a place on
module _ (cs ds : List TermCell) (at : ℕ) (e : drop at cs ≡ ds) where
  cell_on : (i : ℕ) → get_or cs (at + i) blank ≡ get_or ds i blank
  cell_on i = sym (get_or-drop at cs i blank) ∙ ap (λ xs. get_or xs i blank) e

  argument_on : (i : ℕ) → argument_at cs (at + i) ≡ argument_at ds i
  argument_on i = ap (λ c. c.argument) (cell_on i)

  op_on : (i : ℕ) → op_at cs (at + i) ≡ op_at ds i
  op_on i = ap (λ c. c.op) (cell_on i)

moved : (cs : List TermCell) (r : Rule) (i j : ℕ) (e : Effect) → i ≡ j → Asks cs r i e → Asks cs r j e
moved cs r i j e p a = subst (λ k. Asks cs r k e) p a

module _ {c d : Unit {0}} (cs : List TermCell) (at : ℕ) where
  one_asked : (u : Gate) {e : Unit {0}} {h : ℕ} → StandsAt cs at (app c (const d (gate u)) (var e (held h))) → argument_at cs (at + 2) ∷ [] ≡ h ∷ []
  one_asked u (ds, p) = ap (λ i. i ∷ []) (argument_on cs _ at p 2)

  two_asked : (u : Gate) {e f g : Unit {0}} {h k : ℕ} → StandsAt cs at (app c (const d (gate u)) (pair e (var f (held h)) (var g (held k))))
      → argument_at cs (at + 3) ∷ argument_at cs (at + 4) ∷ [] ≡ h ∷ k ∷ []
  two_asked u (ds, p) = ap₂ (λ i j. i ∷ j ∷ []) (argument_on cs _ at p 3) (argument_on cs _ at p 4)

  operands_asked : {u : Gate} {hs : List ℕ} {m : Running} → Operands u hs m → StandsAt cs at (app c (const d (gate u)) m) → map (argument_at cs) (qubit_cells u at) ≡ hs
  operands_asked on_h s = one_asked H s
  operands_asked on_x s = one_asked X s
  operands_asked on_z s = one_asked Z s
  operands_asked on_s s = one_asked S s
  operands_asked on_t s = one_asked gate_t s
  operands_asked on_cnot s = two_asked Cnot s
  operands_asked on_swap s = two_asked Swap s
  operands_asked on_toffoli (ds, p) = ap₂ (λ i js. i ∷ js) (argument_on cs _ at p 3) (ap₂ (λ i j. i ∷ j ∷ []) (argument_on cs _ at p 5) (argument_on cs _ at p 6))

asked : {m n : Running} {e : Effect} (d : Reduces m e n) (cs : List TermCell) (at : ℕ) → StandsAt cs at m → Asks cs (step_rule d) (at + step_cell d) e
asked (apply_function v) cs at s = inl refl
asked (open_pair v w) cs at s = inr (inl refl)
asked take_then cs at s = inr (inr (inl refl))
asked take_else cs at s = inr (inr (inr refl))
asked (prepare_qubit {b = b} {h = h}) cs at (ds, e) = moved cs _ at (at + 0) (prepares b h) (omega arith) (refl, op_on cs _ at e 2)
asked (read_qubit {h = h} {b = b}) cs at (ds, e) = moved cs _ at (at + 0) (reads h b) (omega arith) (refl, argument_on cs _ at e 2)
asked (apply_gate {u = u} {hs = hs} o) cs at (ds, e) = moved cs _ at (at + 0) (applies u hs) (omega arith) (refl, argument_on cs _ at e 1, operands_asked cs at o (ds, e))
asked {e = e} (in_argument {m = m} {n = n} d) cs at (ds, p) = moved cs (step_rule d) _ _ e (omega arith) (asked d cs (at + 1 + size m) (right_part cs _ m n at ds p))
asked {e = e} (in_function {m = m} {v = v} x d) cs at (ds, p) = moved cs (step_rule d) _ _ e (omega arith) (asked d cs (at + 1) (left_part cs _ m v at ds p))
asked {e = e} (in_left {m = m} {n = n} d) cs at (ds, p) = moved cs (step_rule d) _ _ e (omega arith) (asked d cs (at + 1) (left_part cs _ m n at ds p))
asked {e = e} (in_right {v = v} {n = n} x d) cs at (ds, p) = moved cs (step_rule d) _ _ e (omega arith) (asked d cs (at + 1 + size v) (right_part cs _ v n at ds p))
asked {e = e} (in_condition {p = q} {m = m} {n = n} d) cs at (ds, p) = moved cs (step_rule d) _ _ e (omega arith) (asked d cs (at + 1) (test_part cs _ q m n at ds p))
asked {e = e} (in_pair {m = m} {n = n} d) cs at (ds, p) = moved cs (step_rule d) _ _ e (omega arith) (asked d cs (at + 1) (left_part cs _ m n at ds p))

-- claims aside
cell_same : (cs : List TermCell) (k : ℕ) → get_or (unclaimed cs) k blank ≡ cell_of (op_at cs k) (argument_at cs k) 0
cell_same [] k = refl
cell_same (c ∷ cs) zero = refl
cell_same (c ∷ cs) (suc k) = cell_same cs k

arguments_same : (cs : List TermCell) (ks : List ℕ) → map (argument_at (unclaimed cs)) ks ≡ map (argument_at cs) ks
arguments_same cs [] = refl
arguments_same cs (k ∷ ks) = ap₂ (λ i is. i ∷ is) (ap (λ c. c.argument) (cell_same cs k)) (arguments_same cs ks)

claimed : (cs : List TermCell) (r : Rule) (k : ℕ) (e : Effect) → Asks (unclaimed cs) r k e → Asks cs r k e
claimed cs r k silent a = a
claimed cs r k (prepares b h) (p, q) = (p, sym (ap (λ c. c.op) (cell_same cs (k + 2))) ∙ q)
claimed cs r k (reads h b) (p, q) = (p, sym (ap (λ c. c.argument) (cell_same cs (k + 2))) ∙ q)
claimed cs r k (applies u hs) (p, q, t) = (p, sym (ap (λ c. c.argument) (cell_same cs (k + 1))) ∙ q, sym (arguments_same cs (qubit_cells u k)) ∙ t)

pub asks : (cs : List TermCell) (m n : Running) (e : Effect) → Means cs m → (d : Reduces m e n) → Asks cs (step_rule d) (step_cell d) e
asks cs m n e h d =
    claimed cs (step_rule d) (step_cell d) e
    (moved (unclaimed cs) (step_rule d) (0 + step_cell d) (step_cell d) e (omega arith) (asked d (unclaimed cs) 0 ([], h.written ∙ sym (append-nil (running_cells m)))))

-- What the first cells of a term tell of it.
use Rattle.std.proofs.Common.{◌≡◌, ℕ, Bool, true, false, ◌&&◌, ◌||◌, List, [], ◌∷◌, ◌++◌, get_or, refl, ap, ◌∙◌}
use Rattle.std.proofs.Math.Bool.{and-true}
use Rattle.std.proofs.lemmas.List.{append_assoc}
use Rattle.std.specs.Bool.{then_some}
use Rattle.calculus.specs.declared.cells.TermCell.{TermCell}
use Rattle.calculus.specs.declared.gates.Gate.{Gate}
use Rattle.calculus.specs.declared.gates.Gate.TheVariants.{H, X, Z, S, T, Cnot, Swap, Toffoli}
use Rattle.calculus.specs.Gates.{number_of}
use Rattle.calculus.specs.Terms.{bit_of, meas, new, gate, bound, held, Term, var, const, star, lam, app, pair, if_then_else, let_pair, Running, erased}
use Rattle.calculus.specs.Cells.{placed_cells, blank}
use Rattle.finder.specs.Search.{is_bit, is_qubit, is_pair_of, takes, applied, branched, opened}
use Rattle.finder.specs.Words.{spelt, operand_word, applied_of, branched_of, opened_of}
use Rattle.finder.specs.declared.rules.Rule.TheVariants.{Prepare, Read, Gates}

spelt_qubit : (m : Term ℕ) (ws : List ℕ) (cs : List TermCell) → spelt (113 ∷ ws) (placed_cells m ++ cs) ≡ (is_qubit (erased m) && spelt ws cs)
spelt_qubit (var c (bound i)) ws cs = refl
spelt_qubit (var c (held h)) ws cs = refl
spelt_qubit (const c (bit_of false)) ws cs = refl
spelt_qubit (const c (bit_of true)) ws cs = refl
spelt_qubit (const c meas) ws cs = refl
spelt_qubit (const c new) ws cs = refl
spelt_qubit (const c (gate u)) ws cs = refl
spelt_qubit (star c) ws cs = refl
spelt_qubit (lam c m) ws cs = refl
spelt_qubit (app c m n) ws cs = refl
spelt_qubit (pair c m n) ws cs = refl
spelt_qubit (if_then_else c p m n) ws cs = refl
spelt_qubit (let_pair c m n) ws cs = refl

spelt_bit : (m : Term ℕ) (cs : List TermCell) → (spelt (48 ∷ []) (placed_cells m ++ cs) || spelt (49 ∷ []) (placed_cells m ++ cs)) ≡ is_bit (erased m)
spelt_bit (var c (bound i)) cs = refl
spelt_bit (var c (held h)) cs = refl
spelt_bit (const c (bit_of false)) cs = refl
spelt_bit (const c (bit_of true)) cs = refl
spelt_bit (const c meas) cs = refl
spelt_bit (const c new) cs = refl
spelt_bit (const c (gate u)) cs = refl
spelt_bit (star c) cs = refl
spelt_bit (lam c m) cs = refl
spelt_bit (app c m n) cs = refl
spelt_bit (pair c m n) cs = refl
spelt_bit (if_then_else c p m n) cs = refl
spelt_bit (let_pair c m n) cs = refl

-- a pair by the words of its parts
module _ (us vs : List ℕ) (f g : Running → Bool) (left : (m : Term ℕ) (cs : List TermCell) → spelt (us ++ vs) (placed_cells m ++ cs) ≡ (f (erased m) && spelt vs cs))
    (right : (m : Term ℕ) (cs : List TermCell) → spelt vs (placed_cells m ++ cs) ≡ g (erased m)) where
  spelt_pair : (m : Term ℕ) (cs : List TermCell) → spelt (112 ∷ us ++ vs) (placed_cells m ++ cs) ≡ is_pair_of f g (erased m)
  spelt_pair (var c (bound i)) cs = refl
  spelt_pair (var c (held h)) cs = refl
  spelt_pair (const c (bit_of false)) cs = refl
  spelt_pair (const c (bit_of true)) cs = refl
  spelt_pair (const c meas) cs = refl
  spelt_pair (const c new) cs = refl
  spelt_pair (const c (gate u)) cs = refl
  spelt_pair (star c) cs = refl
  spelt_pair (lam c m) cs = refl
  spelt_pair (app c m n) cs = refl
  spelt_pair (pair c m n) cs =
      ap (spelt (us ++ vs)) (append_assoc (placed_cells m) (placed_cells n) cs)
      ∙ left m (placed_cells n ++ cs)
      ∙ ap (λ b. f (erased m) && b) (right n cs)
  spelt_pair (if_then_else c p m n) cs = refl
  spelt_pair (let_pair c m n) cs = refl

one_spelt : (m : Term ℕ) (cs : List TermCell) → spelt (113 ∷ []) (placed_cells m ++ cs) ≡ is_qubit (erased m)
one_spelt m cs = spelt_qubit m [] cs ∙ and-true (is_qubit (erased m))

two_spelt : (m : Term ℕ) (cs : List TermCell) → spelt (112 ∷ 113 ∷ 113 ∷ []) (placed_cells m ++ cs) ≡ is_pair_of is_qubit is_qubit (erased m)
two_spelt = spelt_pair (113 ∷ []) (113 ∷ []) is_qubit is_qubit (λ m. spelt_qubit m (113 ∷ [])) one_spelt

three_spelt : (m : Term ℕ) (cs : List TermCell) → spelt (112 ∷ 113 ∷ 112 ∷ 113 ∷ 113 ∷ []) (placed_cells m ++ cs) ≡ is_pair_of is_qubit (is_pair_of is_qubit is_qubit) (erased m)
three_spelt = spelt_pair (113 ∷ []) (112 ∷ 113 ∷ 113 ∷ []) is_qubit (is_pair_of is_qubit is_qubit) (λ m. spelt_qubit m (112 ∷ 113 ∷ 113 ∷ [])) two_spelt

spelt_operands : (u : Gate) (m : Term ℕ) (cs : List TermCell) → spelt (operand_word (number_of u)) (placed_cells m ++ cs) ≡ takes u (erased m)
spelt_operands H = one_spelt
spelt_operands X = one_spelt
spelt_operands Z = one_spelt
spelt_operands S = one_spelt
spelt_operands T = one_spelt
spelt_operands Cnot = two_spelt
spelt_operands Swap = two_spelt
spelt_operands Toffoli = three_spelt

abbrev pub head : List TermCell → TermCell
head cs = get_or cs 0 blank

pub applied_cells : (f x : Term ℕ) (fs xs : List TermCell) → applied_of (head (placed_cells f ++ fs)).op (head (placed_cells f ++ fs)).argument (placed_cells x ++ xs) ≡ applied (erased f) (erased x)
applied_cells (var c (bound i)) x fs xs = refl
applied_cells (var c (held h)) x fs xs = refl
applied_cells (const c (bit_of false)) x fs xs = refl
applied_cells (const c (bit_of true)) x fs xs = refl
applied_cells (const c meas) x fs xs = ap (λ b. then_some b Read) (one_spelt x xs)
applied_cells (const c new) x fs xs = ap (λ b. then_some b Prepare) (spelt_bit x xs)
applied_cells (const c (gate u)) x fs xs = ap (λ b. then_some b Gates) (spelt_operands u x xs)
applied_cells (star c) x fs xs = refl
applied_cells (lam c m) x fs xs = refl
applied_cells (app c m n) x fs xs = refl
applied_cells (pair c m n) x fs xs = refl
applied_cells (if_then_else c p m n) x fs xs = refl
applied_cells (let_pair c m n) x fs xs = refl

pub branched_cells : (m : Term ℕ) (cs : List TermCell) → branched_of (head (placed_cells m ++ cs)).op ≡ branched (erased m)
branched_cells (var c (bound i)) cs = refl
branched_cells (var c (held h)) cs = refl
branched_cells (const c (bit_of false)) cs = refl
branched_cells (const c (bit_of true)) cs = refl
branched_cells (const c meas) cs = refl
branched_cells (const c new) cs = refl
branched_cells (const c (gate u)) cs = refl
branched_cells (star c) cs = refl
branched_cells (lam c m) cs = refl
branched_cells (app c m n) cs = refl
branched_cells (pair c m n) cs = refl
branched_cells (if_then_else c p m n) cs = refl
branched_cells (let_pair c m n) cs = refl

pub opened_cells : (m : Term ℕ) (cs : List TermCell) → opened_of (head (placed_cells m ++ cs)).op ≡ opened (erased m)
opened_cells (var c (bound i)) cs = refl
opened_cells (var c (held h)) cs = refl
opened_cells (const c (bit_of false)) cs = refl
opened_cells (const c (bit_of true)) cs = refl
opened_cells (const c meas) cs = refl
opened_cells (const c new) cs = refl
opened_cells (const c (gate u)) cs = refl
opened_cells (star c) cs = refl
opened_cells (lam c m) cs = refl
opened_cells (app c m n) cs = refl
opened_cells (pair c m n) cs = refl
opened_cells (if_then_else c p m n) cs = refl
opened_cells (let_pair c m n) cs = refl

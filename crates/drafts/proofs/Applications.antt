-- The cells of programs that spend pulses, hold qubits or run long, piece by piece.
use Rattle.std.proofs.Common.{◌≡◌, ℕ, zero, suc, ◌+◌, ◌*◌, true, List, [], ◌∷◌, ◌++◌, map, refl, ap, ◌∙◌, arith}
use Rattle.std.specs.List.{repeat, list_all}
use Rattle.std.specs.Prelude.{nat_lt}
use Rattle.std.specs.Str.{chars, IsAscii}
use Rattle.std.proofs.lemmas.List.{append_assoc}
use Rattle.std.proofs.lemmas.Str.{chars-IsAscii}
use Rattle.calculus.specs.Alphabet.{op_pair}
use Rattle.calculus.specs.declared.cells.TypeCell.{TypeCell}
use Rattle.calculus.specs.declared.cells.TermCell.{TermCell}
use Rattle.calculus.specs.Terms.{bit_of, Term, const, app}
use Rattle.calculus.specs.Cells.{kind_cell, type_cells, cell_of, placed_cells}
use Rattle.drafts.specs.Limits.{wrapped, wraps}
use Rattle.drafts.specs.Runs.{applied, applications, held_type, made, holding, held_qubits}
use Rattle.drafts.proofs.Programs.{ascii, no_bytes, one_byte, wraps_cells}

-- the cells of a text that is written out
pub letters : (bs : List ℕ) → list_all (λ b. nat_lt b 128) bs ≡ true → map kind_cell (chars bs) ≡ map kind_cell bs
letters bs e = ap (map kind_cell) (chars-IsAscii bs (ascii bs e))

-- An application more may stand within or around.
within : (n c : ℕ) (f m : Term ℕ) → applied n c f (app c f m) ≡ applied (suc n) c f m
within zero c f m = refl
within (suc n) c f m = ap (λ (t : Term ℕ). app c f t) (within n c f m)

pub applied_cells : (n c : ℕ) (f m : Term ℕ) → applications n c f ++ placed_cells m ≡ placed_cells (applied n c f m)
applied_cells zero c f m = refl
applied_cells (suc n) c f m = append_assoc (applications n c f) _ (placed_cells m) ∙ applied_cells n c f (app c f m) ∙ ap placed_cells (within n c f m)

-- the same, where the count has another name, and with what follows
pub applied_here : (n k c : ℕ) (f m : Term ℕ) → n ≡ k → applications n c f ++ placed_cells m ≡ placed_cells (applied k c f m)
applied_here n k c f m e = applied_cells n c f m ∙ ap (λ (j : ℕ). placed_cells (applied j c f m)) e

pub applied_then : (n k c : ℕ) (f m : Term ℕ) (r : List TermCell) → n ≡ k → applications n c f ++ (placed_cells m ++ r) ≡ placed_cells (applied k c f m) ++ r
applied_then n k c f m r e = regrouped (applications n c f) (placed_cells m) r ∙ ap (λ (cs : List TermCell). cs ++ r) (applied_here n k c f m e)
  where
    regrouped : (a b d : List TermCell) → a ++ (b ++ d) ≡ (a ++ b) ++ d
    regrouped a b d = simp append_assoc

pub wraps_then : (n : ℕ) (m : Term ℕ) (r : List TermCell) → wraps n ++ (placed_cells m ++ r) ≡ placed_cells (wrapped n m) ++ r
wraps_then n m r = regrouped (wraps n) (placed_cells m) r ∙ ap (λ (cs : List TermCell). cs ++ r) (wraps_cells n m)
  where
    regrouped : (a b d : List TermCell) → a ++ (b ++ d) ≡ (a ++ b) ++ d
    regrouped a b d = simp append_assoc

-- Pairs behind others are pairs within them.
held_cells_on : (b n k : ℕ) (m : Term ℕ) → held_qubits b n ++ placed_cells (holding b (2 * n) k m) ≡ placed_cells (holding b 0 (n + k) m)
held_cells_on b zero k m = ap (λ (j : ℕ). placed_cells (holding b 0 j m)) (omega arith)
held_cells_on b (suc n) k m =
    append_assoc (held_qubits b n) _ (placed_cells (holding b (2 * suc n) k m))
    ∙ ap (λ (p : ℕ). held_qubits b n ++ (cell_of op_pair 0 (2 * n) ∷ (placed_cells (made b (const b (bit_of true))) ++ placed_cells (holding b p k m)))) (omega arith)
    ∙ held_cells_on b n (suc k) m ∙ ap (λ (j : ℕ). placed_cells (holding b 0 j m)) (omega arith)

pub held_cells : (b n : ℕ) (m : Term ℕ) → held_qubits b n ++ placed_cells m ≡ placed_cells (holding b 0 n m)
held_cells b n m = held_cells_on b n 0 m ∙ ap (λ (j : ℕ). placed_cells (holding b 0 j m)) (omega arith)

-- the letters of so many pairs that begin with a qubit
starred : (n : ℕ) → IsAscii (repeat n (42 ∷ 113 ∷ []))
starred zero = no_bytes
starred (suc n) = one_byte 42 (113 ∷ repeat n (42 ∷ 113 ∷ [])) (omega arith) (one_byte 113 (repeat n (42 ∷ 113 ∷ [])) (omega arith) (starred n))

paired : (n : ℕ) (r : List TypeCell) → map kind_cell (repeat n (42 ∷ 113 ∷ [])) ++ (kind_cell 98 ∷ r) ≡ type_cells (held_type n) ++ r
paired zero r = refl
paired (suc n) r = ap (λ (cs : List TypeCell). kind_cell 42 ∷ kind_cell 113 ∷ cs) (paired n r)

pub held_letters : (n : ℕ) (r : List TypeCell) → map kind_cell (chars (repeat n (42 ∷ 113 ∷ []))) ++ (kind_cell 98 ∷ r) ≡ type_cells (held_type n) ++ r
held_letters n r = ap (λ (bs : List ℕ). map kind_cell bs ++ (kind_cell 98 ∷ r)) (chars-IsAscii (repeat n (42 ∷ 113 ∷ [])) (starred n)) ∙ paired n r

-- How far the cells of a term reach, and terms whose claims are changed.
use Rattle.std.proofs.Common.{◌≡◌, ℕ, suc, ◌+◌, true, false, List, ◌++◌, refl, ap, ◌∙◌, ap₂, arith}
use Rattle.std.proofs.lemmas.List.{append_assoc}
use Rattle.trees.specs.Reach.{ends}
use Rattle.calculus.specs.declared.cells.TermCell.{TermCell}
use Rattle.calculus.specs.Letters.{arity}
use Rattle.calculus.specs.Terms.{bit_of, meas, new, gate, bound, held, Term, var, const, star, lam, app, pair, if_then_else, let_pair, size, reclaimed}
use Rattle.calculus.specs.Cells.{placed_cells}

-- where a term's cells end
abbrev Reaches : Term ℕ → Type 0
Reaches m = (cs : List TermCell) (k at : ℕ) → ends arity (suc k) (placed_cells m ++ cs) at ≡ ends arity k cs (at + size m)

due_next : (k j i at : ℕ) (cs : List TermCell) → k ≡ j → i ≡ at → ends arity k cs i ≡ ends arity j cs at
due_next k j i at cs p q = ap₂ (λ d a. ends arity d cs a) p q

leaf_reaches : (cs : List TermCell) (k at : ℕ) → ends arity (k + 0) cs (suc at) ≡ ends arity k cs (at + 1)
leaf_reaches cs k at = due_next (k + 0) k (suc at) (at + 1) cs (omega arith) (omega arith)

two_reach : (m n : Term ℕ) → Reaches m → Reaches n → (cs : List TermCell) (k at : ℕ)
    → ends arity (k + 2) ((placed_cells m ++ placed_cells n) ++ cs) (suc at) ≡ ends arity k cs (at + suc (size m + size n))
two_reach m n hm hn cs k at =
    due_next (k + 2) (suc (suc k)) (suc at) (suc at) ((placed_cells m ++ placed_cells n) ++ cs) (omega arith) refl
    ∙ ap (λ ds. ends arity (suc (suc k)) ds (suc at)) (append_assoc (placed_cells m) (placed_cells n) cs)
    ∙ hm (placed_cells n ++ cs) (suc k) (suc at)
    ∙ hn cs k (suc at + size m)
    ∙ due_next k k (suc at + size m + size n) (at + suc (size m + size n)) cs refl (omega arith)

three_reach : (p m n : Term ℕ) → Reaches p → Reaches m → Reaches n → (cs : List TermCell) (k at : ℕ)
    → ends arity (k + 3) ((placed_cells p ++ (placed_cells m ++ placed_cells n)) ++ cs) (suc at) ≡ ends arity k cs (at + suc (size p + (size m + size n)))
three_reach p m n hp hm hn cs k at =
    due_next (k + 3) (suc (suc (suc k))) (suc at) (suc at) ((placed_cells p ++ (placed_cells m ++ placed_cells n)) ++ cs) (omega arith) refl
    ∙ ap (λ ds. ends arity (suc (suc (suc k))) ds (suc at)) (append_assoc (placed_cells p) (placed_cells m ++ placed_cells n) cs)
    ∙ hp ((placed_cells m ++ placed_cells n) ++ cs) (suc (suc k)) (suc at)
    ∙ ap (λ ds. ends arity (suc (suc k)) ds (suc at + size p)) (append_assoc (placed_cells m) (placed_cells n) cs)
    ∙ hm (placed_cells n ++ cs) (suc k) (suc at + size p)
    ∙ hn cs k (suc at + size p + size m)
    ∙ due_next k k (suc at + size p + size m + size n) (at + suc (size p + (size m + size n))) cs refl (omega arith)

pub reaches : (m : Term ℕ) → Reaches m
reaches (var c (bound i)) cs k at = leaf_reaches cs k at
reaches (var c (held h)) cs k at = leaf_reaches cs k at
reaches (const c (bit_of false)) cs k at = leaf_reaches cs k at
reaches (const c (bit_of true)) cs k at = leaf_reaches cs k at
reaches (const c meas) cs k at = leaf_reaches cs k at
reaches (const c new) cs k at = leaf_reaches cs k at
reaches (const c (gate u)) cs k at = leaf_reaches cs k at
reaches (star c) cs k at = leaf_reaches cs k at
reaches (lam c m) cs k at =
    due_next (k + 1) (suc k) (suc at) (suc at) (placed_cells m ++ cs) (omega arith) refl
    ∙ reaches m cs k (suc at)
    ∙ due_next k k (suc at + size m) (at + suc (size m)) cs refl (omega arith)
reaches (app c m n) cs k at = two_reach m n (reaches m) (reaches n) cs k at
reaches (pair c m n) cs k at = two_reach m n (reaches m) (reaches n) cs k at
reaches (if_then_else c p m n) cs k at = three_reach p m n (reaches p) (reaches m) (reaches n) cs k at
reaches (let_pair c m n) cs k at = two_reach m n (reaches m) (reaches n) cs k at

pub size_reclaimed : {C D : Type 0} (f : C → D) (m : Term C) → size (reclaimed f m) ≡ size m
size_reclaimed f (var c x) = refl
size_reclaimed f (const c k) = refl
size_reclaimed f (star c) = refl
size_reclaimed f (lam c m) = ap suc (size_reclaimed f m)
size_reclaimed f (app c m n) = ap suc (ap₂ ◌+◌ (size_reclaimed f m) (size_reclaimed f n))
size_reclaimed f (pair c m n) = ap suc (ap₂ ◌+◌ (size_reclaimed f m) (size_reclaimed f n))
size_reclaimed f (if_then_else c p m n) = ap suc (ap₂ ◌+◌ (size_reclaimed f p) (ap₂ ◌+◌ (size_reclaimed f m) (size_reclaimed f n)))
size_reclaimed f (let_pair c m n) = ap suc (ap₂ ◌+◌ (size_reclaimed f m) (size_reclaimed f n))

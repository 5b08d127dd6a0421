-- One more tree whose end is known.
use Rattle.std.proofs.Common.{◌≡◌, ℕ, ◌-◌, ◌<◌, ◌≢◌, ◌⊎◌, List, length, get_or, set, ◌∙◌, inl, inr, arith, get_or-set_other, get_or-set_same}
use Rattle.std.proofs.lemmas.Bool.{cases_eq}
use Rattle.calculus.specs.declared.cells.TermCell.{TermCell}
use Rattle.checker.specs.Ending.{EndsFrom, tree_end}

pub one_more : (terms : List TermCell) (ends : List ℕ) (i e : ℕ) → 0 < i → i - 1 < length ends → e ≡ tree_end terms (i - 1) → EndsFrom i terms ends → EndsFrom (i - 1) terms (set ends (i - 1) e)
one_more terms ends i e p l here rest k from below = go (cases_eq k (i - 1))
  where
    go : (k ≡ i - 1) ⊎ (k ≢ i - 1) → get_or (set ends (i - 1) e) k 0 ≡ tree_end terms k
    go (inl q) = rw q (get_or-set_same ends (i - 1) e 0 l ∙ here)
    go (inr n) = get_or-set_other ends (i - 1) k e 0 n ∙ rest k (omega arith) below

-- Where the trees of a table end.
use Rattle.std.specs.Prelude.{◌≡◌, ℕ, zero, suc, ◌+◌, ◌<◌, ◌≤◌, List, length, slice_index}
use Rattle.calculus.specs.declared.cells.TermCell.{TermCell}
use Rattle.calculus.specs.Reading.{term_at}
use Rattle.calculus.specs.Terms.{size}

-- one past the tree at a place
abbrev pub tree_end : List TermCell → ℕ → ℕ
tree_end terms at = at + size (term_at terms at)

-- one past so many trees
abbrev pub trees_end : List TermCell → ℕ → ℕ → ℕ
trees_end terms at zero = at
trees_end terms at (suc trees) = trees_end terms (tree_end terms at) trees

-- from a place on, the list has the end of each tree of the table
abbrev pub EndsFrom : ℕ → List TermCell → List ℕ → Type 0
EndsFrom at terms ends = (k : ℕ) → at ≤ k → k < length terms → slice_index ends k ≡ tree_end terms k

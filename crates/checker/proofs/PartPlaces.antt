-- The places of the parts of a cell.
use Rattle.std.proofs.Common.{ℕ, zero, suc, ◌+◌, ◌<◌, List, length, get_or, drop, arith}
use Rattle.trees.specs.Whole.{height}
use Rattle.calculus.specs.declared.cells.TermCell.{TermCell}
use Rattle.calculus.specs.Letters.{arity}
use Rattle.calculus.specs.Reading.{TermsStand}
use Rattle.checker.specs.Ending.{tree_end, trees_end}
use Rattle.checker.proofs.Trees.{present, next_height, here}

module _ (cs : List TermCell) (stand : TermsStand cs) where
  tree_within : (q k : ℕ) → k < height arity (drop q cs) → trees_end cs q k < length cs
  tree_within q zero h = present cs q h
  tree_within q (suc k) h = tree_within (tree_end cs q) k (omega (arith, next_height cs stand q (present cs q (omega arith))))

  pub part_within : (p k : ℕ) (d : TermCell) → p < length cs → k < arity (get_or cs p d) → trees_end cs (p + 1) k < length cs
  part_within p k d l h = tree_within (p + 1) k (omega (arith, (here cs stand p d l).1))

use Rattle.std.proofs.Common.{◌≡◌, ◌-◌, ◌≤◌, length, drop}
use Rattle.calculus.specs.Letters.{arity}
use Rattle.checker.specs.Ending.{trees_end}
use Rattle.trees.specs.Whole.{height}
use Rattle.checker.proofs.program.past_trees.Given as goal

abbrev pub invariant-loop-passed : goal.invariant-loop-passed
invariant-loop-passed l =
    (trees_end l.terms l.end (l.trees - l._passed) ≡ trees_end l.terms l.at l.trees)
    × ((l.at ≤ l.end) × ((l.end ≤ length l.terms) × (l.trees - l._passed ≤ height arity (drop l.end l.terms))))

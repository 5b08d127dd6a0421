use Rattle.std.proofs.Common.{◌≡◌, ℕ, ◌≤◌, List, drop, Option, Some, None, arith}
use Rattle.std.specs.Option.{unwrap_or}
use Rattle.calculus.specs.declared.cells.TermCell.{TermCell}
use Rattle.calculus.specs.Letters.{arity}
use Rattle.trees.specs.Reach.{ends}
use Rattle.trees.proofs.Ends.{end_within}
use Rattle.finder.proofs.finder.past.Goals as goal

on : (cs : List TermCell) (at : ℕ) (end : Option ℕ) → end ≡ ends arity 1 (drop at cs) at → at ≤ unwrap_or end at
on cs at None e = omega arith
on cs at (Some k) e = (end_within arity cs at k e).0

pub returns-clause-on : goal.returns-clause-on
returns-clause-on c = omega (arith, on c.args.cells.now c.args.at c.reach.result c.reach.ensures)

use Rattle.std.proofs.Common.{◌≡◌, ◌≤◌, ◌++◌, length}
use Rattle.std.specs.List.{flat_map}
use Rattle.notation.specs.Terms.{term_trees}
use Rattle.termview.specs.Depths.{depths_in}
use Rattle.termview.proofs.depths.depths.Given as goal

abbrev pub invariant-loop-rest : goal.invariant-loop-rest
invariant-loop-rest l =
    (flat_map (depths_in 0) (term_trees l.cells) ≡ l.found.items ++ flat_map (depths_in 0) (term_trees l.rest))
    × (length l.rest ≤ length l.cells)

abbrev pub decreases-loop-rest : goal.decreases-loop-rest
decreases-loop-rest l = length l.rest

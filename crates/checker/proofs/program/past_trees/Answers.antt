use Rattle.std.proofs.Common.{◌≡◌, suc, ◌+◌, ◌-◌, get_or, sym, refl, ap, ◌∙◌, arith}
use Rattle.checker.specs.Ending.{tree_end, trees_end}
use Rattle.checker.proofs.Trees.{present, next_height, end_within}
use Rattle.checker.proofs.program.past_trees.Goals as goal

pub loop-passed-init : goal.loop-passed-init
loop-passed-init c = let n : c.args.trees - 0 ≡ c.args.trees = omega arith in rw n (refl, (omega arith, (c.requires.1.0, c.requires.1.1.1.1)))

pub loop-passed-preserved : goal.loop-passed-preserved
loop-passed-preserved c =
    let terms = c.args.terms.now in
    let end = c.loop-passed.end in
    let left = c.args.trees - (c.loop-passed._passed + 1) in
    let inv = c.loop-passed.invariant in
    let n : c.args.trees - c.loop-passed._passed ≡ suc left = omega arith in
    let l = present terms end (omega (arith, inv.1.1.1, n)) in
    let e : get_or c.args.ends.now end 0 ≡ tree_end terms end = c.requires.1.1.1.0 end inv.1.0 l in
    let h = next_height terms c.requires.0 end l in
    let w = end_within terms c.requires.0 end l in
    rw e (
      ap (trees_end terms end) (sym n) ∙ inv.0,
      (omega (arith, inv.1.0), (w, omega (arith, h, n, inv.1.1.1))),
    )

use Rattle.std.proofs.Common.{◌≡◌, ◌+◌, ◌-◌, sym, ap, ◌∙◌, arith, length-set}
use Rattle.checker.specs.Ending.{trees_end}
use Rattle.checker.proofs.Ending.{one_more}
use Rattle.checker.proofs.Trees.{here, by_parts}
use Rattle.checker.proofs.program.tree_ends.Goals as goal

pub past_trees-end-requires : goal.past_trees-end-requires
past_trees-end-requires c =
    let i = c.loop-i.i in
    let terms = c.args.terms.now in
    let n : i - 1 + 1 ≡ i = omega arith in
    let h = (here terms c.requires.0 (i - 1) _ (omega arith)).1 in
    (c.requires.0, (omega arith, (omega arith, (rw n c.loop-i.invariant.1.1, rw c.parts.ensures h))))

pub loop-i-preserved : goal.loop-i-preserved
loop-i-preserved c =
    let i = c.loop-i.i in
    let terms = c.args.terms.now in
    let e = c.past_trees-end.result in
    let inv = c.loop-i.invariant in
    let p = by_parts terms c.requires.0 (i - 1) _ (omega arith) in
    let q = c.past_trees-end.ensures.end ∙ ap (trees_end terms (i - 1 + 1)) c.parts.ensures ∙ sym p in (
      length-set c.loop-i.ends (i - 1) e ∙ inv.0,
      (omega arith, one_more terms c.loop-i.ends i e (omega arith) (omega arith) q inv.1.1),
    )

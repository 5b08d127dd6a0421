use Rattle.std.proofs.Common.{◌≡◌, sym, ap, ◌∙◌}
use Rattle.stepper.specs.Next.{trees}
use Rattle.stepper.specs.Parts.{taken, after}
use Rattle.stepper.proofs.Parts.{after_more, after_two}
use Rattle.stepper.proofs.writing.Front.put_left.Goals as goal

pub returns-in_ok-substitute-in-Function-clause-after_trees : goal.returns-in_ok-substitute-in-Function-clause-after_trees
returns-in_ok-substitute-in-Function-clause-after_trees c = rw c.in-Function.is (after_two c.args.cells.now _ _ c.split_tree.ensures.rest c.split_tree-in-Function.ensures.rest)

pub returns-in-Pair : goal.returns-in-Pair
returns-in-Pair c =
    let cs = c.args.cells.now in
    let right : c.split_tree-in-Pair.result.0.now ≡ taken 1 (after 1 cs) = c.split_tree-in-Pair.ensures.tree ∙ ap (taken 1) c.split_tree.ensures.rest in
    let body = after_two cs _ _ c.split_tree.ensures.rest c.split_tree-in-Pair.ensures.rest in
    let end : after 1 c.split_tree-in-Pair.result.1.now ≡ after (trees c.args.rule) cs = ap (after 1) body ∙ sym (after_more 2 1 cs) ∙ ap (λ r. after (trees r) cs) (sym c.in-Pair.is) in
    record {
      put = rw (c.in-Pair.is, ← body, ← right, ← c.split_tree.ensures.tree) c.substitute-in-Pair.ensures.put;
      after_trees = rw (← end) c.substitute-in-Pair.ensures.after_trees;
    }

pub returns-in_ok-put-in-Then-clause-after_trees : goal.returns-in_ok-put-in-Then-clause-after_trees
returns-in_ok-put-in-Then-clause-after_trees c = rw c.in-Then.is (after_two c.args.cells.now _ _ c.split_tree.ensures.rest c.split_tree-in-Then.ensures.rest)

pub returns-in_ok-put-in-Else-clause-after_trees : goal.returns-in_ok-put-in-Else-clause-after_trees
returns-in_ok-put-in-Else-clause-after_trees c = rw c.in-Else.is (after_two c.args.cells.now _ _ c.split_tree.ensures.rest c.split_tree-in-Else.ensures.rest)

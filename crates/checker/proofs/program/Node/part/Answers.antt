use Rattle.std.proofs.Common.{arith}
use Rattle.calculus.specs.Cells.{blank}
use Rattle.checker.proofs.PartPlaces.{part_within}
use Rattle.checker.proofs.Trees.{here}
use Rattle.checker.proofs.program.Node.part.Goals as goal

pub past_trees-at-requires : goal.past_trees-at-requires
past_trees-at-requires c =
    let n = c.args.self in
    let t = n.program.now.judged.tables in
    let few = t.few_terms in
    let h = here n.program.now.terms.now t.terms_stand n.at blank n.inside in
    (t.terms_stand, (omega (arith, n.inside), (omega arith, (λ k l w. n.program.now.judged.right_ends k (omega arith) w, omega (arith, h.1)))))

pub new-requires : goal.new-requires
new-requires c =
    let n = c.args.self in
    rw c.past_trees-at.ensures.end (part_within n.program.now.terms.now n.program.now.judged.tables.terms_stand n.at c.args.part blank n.inside c.requires)

use Rattle.std.proofs.Common.{◌≡◌, drop, rules, tests, ap, ◌∙◌, arith}
use Rattle.std.proofs.lemmas.Iterator.{YieldsList-from_slice}
use Rattle.std.proofs.lemmas.Iterator.Consumers.{count_from_yields_List}
use Rattle.std.proofs.lemmas.Iterator.Search.{YieldsList-from_take_while}
use Rattle.std.proofs.lemmas.List.{length-drop, take_all}
use Rattle.std.proofs.lemmas.List.Folds.{length-prefix_len}
use Rattle.calculus.specs.Stripping.{marks}
use Rattle.subtyping.specs.Meaning.{standing}
use Rattle.subtyping.proofs.Places.{is_mark, marks_here, core_within}
use Rattle.subtyping.proofs.placed.TypeAt.standing_marks.Goals as goal

pub returns : goal.returns
returns c =
    let a = c.args.self in
    let xs = drop a.place a.types.now in
    let rest = ap (λ i. i.rest.now) c.take_while.ensures.source ∙ c.iter.ensures.rest ∙ take_all _ xs (omega (arith, length-drop a.place a.types.now)) in
    let n : c.count.result ≡ marks (standing a) =
    count_from_yields_List c.take_while.result _ c.count.ensures.ran
    (YieldsList-from_take_while _ is_mark (YieldsList-from_slice xs rest) c.take_while.ensures.closure c.take_while.ensures.done (λ x b q k. search (rules, tests)))
    ∙ length-prefix_len is_mark xs ∙ marks_here a.types.now a.place a.placed.stands a.placed.within in
    record { count = n; within = omega (arith, n, core_within a.types.now a.place a.placed.stands a.placed.within) }

use Rattle.std.proofs.Common.{◌≡◌, length, take, ap, ◌∙◌, rules, tests}
use Rattle.std.specs.List.{prefix_len}
use Rattle.std.proofs.lemmas.Iterator.{YieldsList-from_slice}
use Rattle.std.proofs.lemmas.Iterator.Consumers.{count_from_yields_List}
use Rattle.std.proofs.lemmas.Iterator.Search.{YieldsList-from_take_while}
use Rattle.listing.proofs.Counted.{made, take_before}
use Rattle.listing.proofs.lines.pulses_made.Goals as goal

pub returns-clause-pulses : goal.returns-clause-pulses
returns-clause-pulses c =
    let xs = c.args.journal.now in
    let count : c.count-made.result ≡ length (take (prefix_len made xs) xs) =
    count_from_yields_List c.take_while.result c.count-made.result c.count-made.ensures.ran
    (YieldsList-from_take_while _ made (YieldsList-from_slice xs (cc)) c.take_while.ensures.closure c.take_while.ensures.done (λ x b q k. search (rules, tests))) in
    ap (λ n. take n xs) count ∙ take_before xs

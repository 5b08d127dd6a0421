use Rattle.std.proofs.Common.{rules, tests, sym, ◌∙◌, ap}
use Rattle.std.proofs.lemmas.Bool.{lt-leb}
use Rattle.std.proofs.lemmas.Iterator.{YieldsList-from_slice, YieldsList-from_zip}
use Rattle.std.proofs.lemmas.Iterator.Search.{all_from_yields_List}
use Rattle.finder.proofs.Scans.{is_letter, spelt_zipped, spelt_short}
use Rattle.finder.proofs.finder.spells.Goals as goal

pub returns-then-word-cells : goal.returns-then-word-cells
returns-then-word-cells c =
    all_from_yields_List is_letter c.all.new.self _ c.all.result c.all.ensures.ran
    (YieldsList-from_zip (YieldsList-from_slice c.args.cells.now (ap (λ i. i.rest.now) c.zip.ensures.first ∙ c.iter.ensures.rest)) (YieldsList-from_slice c.args.word.now c.zip.ensures.second.0))
    (λ x b q k. search (rules, tests))
    ∙ spelt_zipped c.args.word.now c.args.cells.now c.if-word-cells.true

pub returns-else-word-cells : goal.returns-else-word-cells
returns-else-word-cells c =
    lt-leb _ _ c.if-word-cells.false ∙ sym (spelt_short c.args.word.now c.args.cells.now c.if-word-cells.false)

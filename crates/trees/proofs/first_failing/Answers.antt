use Rattle.std.proofs.Common.{rules, not, ◌∙◌}
use Rattle.std.proofs.lemmas.Iterator.{YieldsList-from_slice}
use Rattle.std.proofs.lemmas.Iterator.Search.{position_from_yields_List}
use Rattle.trees.proofs.Fails.{first_failing_position}
use Rattle.trees.proofs.first_failing.Goals as goal

pub returns : goal.returns
returns g c = λ holds h.
    position_from_yields_List (λ x. not (holds x)) _ _ _ c.position.ensures.ran (YieldsList-from_slice c.args.cells.now cc) (λ x b q k. (search rules, search (rules, h)))
    ∙ first_failing_position holds c.args.cells.now

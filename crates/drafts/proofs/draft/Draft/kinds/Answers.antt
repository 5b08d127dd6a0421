use Rattle.std.proofs.Common.{◌++◌, ℕ, List, map, map-id, sym, ap, ◌∙◌}
use Rattle.std.proofs.lemmas.Iterator.{YieldsList-from_chars}
use Rattle.std.proofs.lemmas.Iterator.Consumers.{YieldsList-end}
use Rattle.calculus.specs.Cells.{kind_cell}
use Rattle.drafts.proofs.draft.Draft.kinds.Goals as goal

pub returns-clause-types : goal.returns-clause-types
returns-clause-types c =
    let t = YieldsList-end (YieldsList-from_chars c.args.letters.now c.utf8.letters cc) c.loop-kind.yielded _ c.loop-kind.yielded_by _ _ c.in-None.is c.next.ensures.steps in
    c.loop-kind.invariant.1 ∙ ap (λ (xs : List ℕ). c.args.self.now.types.items ++ map kind_cell xs) (sym (map-id c.loop-kind.yielded) ∙ t.0)

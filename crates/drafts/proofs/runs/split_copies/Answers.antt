use Rattle.std.proofs.Common.{◌≡◌, rules}
use Rattle.calculus.specs.Terms.{pair, let_pair}
use Rattle.calculus.specs.Cells.{placed_cells}
use Rattle.drafts.specs.Limits.{used, padded_function, zero_bit}
use Rattle.drafts.proofs.Programs.{split_count}
use Rattle.drafts.proofs.runs.split_copies.Goals as goal

pub returns-clause-count : goal.returns-clause-count
returns-clause-count c =
    let e : c.uses.new.draft.terms.items ≡ placed_cells (let_pair 0 (pair 17 (padded_function c.args.cells) zero_bit) (used 1 c.args.times)) = search rules in
    split_count c.uses.new.draft.terms.items _ c.uses.new.draft.terms.ok.0 c.args.times c.args.cells e

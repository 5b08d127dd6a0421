use Rattle.std.proofs.Common.{◌≡◌, rules}
use Rattle.calculus.specs.Terms.{app, lam}
use Rattle.calculus.specs.Cells.{placed_cells}
use Rattle.drafts.specs.Limits.{used, padded_function}
use Rattle.drafts.proofs.Programs.{applied_count}
use Rattle.drafts.proofs.runs.applied_copies.Goals as goal

pub returns-clause-count : goal.returns-clause-count
returns-clause-count c =
    let e : c.function.new.draft.terms.items ≡ placed_cells (app 0 (lam 11 (used 0 c.args.times)) (padded_function c.args.cells)) = search rules in
    applied_count c.function.new.draft.terms.items _ c.function.new.draft.terms.ok.0 c.args.times c.args.cells e

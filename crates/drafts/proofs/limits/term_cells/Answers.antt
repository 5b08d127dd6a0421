use Rattle.std.proofs.Common.{◌≡◌, rules}
use Rattle.calculus.specs.Cells.{placed_cells}
use Rattle.drafts.specs.Limits.{padded_bit}
use Rattle.drafts.proofs.Programs.{bit_count}
use Rattle.drafts.proofs.limits.term_cells.Goals as goal

pub returns-clause-count : goal.returns-clause-count
returns-clause-count c =
    let e : c.padded.new.draft.terms.items ≡ placed_cells (padded_bit c.args.cells) = search rules in
    bit_count c.padded.new.draft.terms.items _ c.padded.new.draft.terms.ok.0 c.args.cells e

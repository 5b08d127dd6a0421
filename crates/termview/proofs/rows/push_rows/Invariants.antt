use Rattle.std.proofs.Common.{◌≡◌, ◌++◌, string_bytes}
use Rattle.termview.specs.Rows.{rows_before}
use Rattle.termview.proofs.rows.push_rows.Given as goal

abbrev pub invariant-loop-at : goal.invariant-loop-at
invariant-loop-at l = string_bytes l.out ≡ string_bytes l.fn.out ++ rows_before l.cells.types.now l.cells.terms.now l.at l.marked

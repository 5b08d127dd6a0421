use Rattle.std.proofs.Common.{rules}
use Rattle.numbers.specs.Cells.{cell_of}
use Rattle.numbers.proofs.tables.term_table.Goals as goal

pub returns : goal.returns
returns g c = c.taken.ensures cell_of (λ x y p. search rules)

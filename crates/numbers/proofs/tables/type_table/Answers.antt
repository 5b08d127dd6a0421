use Rattle.std.proofs.Common.{rules}
use Rattle.numbers.specs.Cells.{kind_of}
use Rattle.numbers.proofs.tables.type_table.Goals as goal

pub returns : goal.returns
returns c = c.taken.ensures kind_of (λ x y p. search rules)

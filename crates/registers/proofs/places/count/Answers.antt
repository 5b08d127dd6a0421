use Rattle.std.proofs.Common.{rules}
use Rattle.registers.proofs.Counts.{counted_by}
use Rattle.registers.proofs.places.count.Goals as goal

pub returns : goal.returns
returns c = rw counted_by (search rules)

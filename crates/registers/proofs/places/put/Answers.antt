use Rattle.std.proofs.Common.{sym, arith}
use Rattle.std.proofs.lemmas.List.{set_past}
use Rattle.registers.proofs.places.put.Goals as goal

pub returns-else-handle-table : goal.returns-else-handle-table
returns-else-handle-table c = sym (set_past c.args.table.now c.args.handle c.args.value (omega arith))

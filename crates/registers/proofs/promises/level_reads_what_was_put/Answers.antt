use Rattle.registers.proofs.Put.{level_reads_what_was_put}
use Rattle.registers.proofs.promises.level_reads_what_was_put.Goals as goal

pub returns : goal.returns
returns c = level_reads_what_was_put

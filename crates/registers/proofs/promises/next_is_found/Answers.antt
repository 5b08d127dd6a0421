use Rattle.registers.proofs.Next.{next_is_found}
use Rattle.registers.proofs.promises.next_is_found.Goals as goal

pub returns : goal.returns
returns c = next_is_found

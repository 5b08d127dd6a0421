use Rattle.registers.proofs.Depth.{depths_are_counted}
use Rattle.registers.proofs.promises.depths_are_counted.Goals as goal

pub returns : goal.returns
returns c = depths_are_counted

use Rattle.calculus.proofs.Apart.{gates_are_apart}
use Rattle.calculus.proofs.safety.gates_are_apart.Goals as goal

pub returns : goal.returns
returns c = gates_are_apart

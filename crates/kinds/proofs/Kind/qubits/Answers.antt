use Rattle.kinds.proofs.Types.{so_many}
use Rattle.kinds.proofs.Kind.qubits.Goals as goal

pub returns : goal.returns
returns c = so_many c.args.count c.loop.counter c.loop.all c.loop.invariant.qubits c.loop.invariant.one c.loop.auto.counter-end c.loop-test.false

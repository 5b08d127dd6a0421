use Rattle.std.proofs.Common.{arith, length-take, rules}
use Rattle.registers.proofs.Fits.{below_are}
use Rattle.registers.proofs.handles.Handles.below.Goals as goal

pub returns : goal.returns
returns c = record {
  these = below_are c.args.self.now c.capacity.result (search rules) c.capacity.ensures;
  short = simp length-take (omega arith);
}

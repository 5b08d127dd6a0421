use Rattle.std.proofs.Common.{refl, ap, ◌∙◌, rules}
use Rattle.registers.specs.Handles.{places}
use Rattle.registers.proofs.Fits.{places_set}
use Rattle.registers.proofs.level.Level.put_bit.Goals as goal

pub returns : goal.returns
returns c = record {
  held = ap places c.put.ensures ∙ places_set c.args.self.now.bits c.args.handle c.args.bit (search rules);
  handles = refl;
  pulses = refl;
}

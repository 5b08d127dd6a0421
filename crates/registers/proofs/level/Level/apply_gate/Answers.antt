use Rattle.std.proofs.Common.{refl, ap, ◌∙◌, rules}
use Rattle.registers.specs.Handles.{places}
use Rattle.registers.proofs.Fits.{places_gated}
use Rattle.registers.proofs.level.Level.apply_gate.Goals as goal

pub returns : goal.returns
returns c = record {
  held = ap places c.apply.ensures ∙ places_gated c.args.self.now.bits c.args.gate c.args.on.now (search rules);
  handles = refl;
  pulses = refl;
}

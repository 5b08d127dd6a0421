use Rattle.std.proofs.Common.{refl, ap, ◌∙◌, rules}
use Rattle.registers.specs.Handles.{places}
use Rattle.registers.proofs.Fits.{places_set}
use Rattle.registers.proofs.handles.Handles.mark.Goals as goal

pub returns : goal.returns
returns c = record {
  marked = ap places c.put.ensures ∙ places_set c.args.self.now.live c.args.handle c.args.live (search rules);
  capacity = refl;
  begins = refl;
}

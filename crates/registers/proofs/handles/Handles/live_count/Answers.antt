use Rattle.std.proofs.Common.{ap, ◌∙◌, rules}
use Rattle.registers.specs.Meaning.{counted}
use Rattle.registers.proofs.Fits.{places_are}
use Rattle.registers.proofs.handles.Handles.live_count.Goals as goal

pub returns : goal.returns
returns c = c.count.ensures ∙ ap counted (places_are c.args.self.now.live (search rules))

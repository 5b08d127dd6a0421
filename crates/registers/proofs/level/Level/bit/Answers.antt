use Rattle.std.proofs.Common.{false, get_or, ap, ◌∙◌, rules}
use Rattle.registers.proofs.Fits.{places_are}
use Rattle.registers.proofs.level.Level.bit.Goals as goal

pub returns : goal.returns
returns c = c.holds.ensures ∙ ap (λ l. get_or l c.args.handle false) (places_are c.args.self.now.bits (search rules))

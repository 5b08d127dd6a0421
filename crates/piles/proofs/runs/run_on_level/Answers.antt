use Rattle.std.proofs.Common.{refl}
use Rattle.registers.specs.Telling.{level_tells}
use Rattle.piles.proofs.runs.run_on_level.Goals as goal

pub returns : goal.returns
returns c = c.run.ensures.settled level_tells (λ r. refl)

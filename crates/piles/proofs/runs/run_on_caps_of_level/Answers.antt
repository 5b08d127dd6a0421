use Rattle.std.proofs.Common.{refl}
use Rattle.registers.specs.Telling.{cap_tells, level_tells}
use Rattle.piles.proofs.runs.run_on_caps_of_level.Goals as goal

pub returns : goal.returns
returns c = c.run.ensures.settled (cap_tells (cap_tells level_tells)) (λ r. refl)

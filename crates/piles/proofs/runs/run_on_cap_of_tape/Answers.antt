use Rattle.std.proofs.Common.{refl}
use Rattle.registers.specs.Telling.{cap_tells, tape_tells}
use Rattle.piles.proofs.runs.run_on_cap_of_tape.Goals as goal

pub returns : goal.returns
returns c = c.run.ensures.settled (cap_tells tape_tells) (λ r. refl)

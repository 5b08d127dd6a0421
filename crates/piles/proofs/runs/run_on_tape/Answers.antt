use Rattle.std.proofs.Common.{refl}
use Rattle.registers.specs.Telling.{tape_tells}
use Rattle.piles.proofs.runs.run_on_tape.Goals as goal

pub returns : goal.returns
returns c = c.run.ensures.settled tape_tells (λ r. refl)

use Rattle.calculus.proofs.safety.runs_are_safe.Goals as goal
use Rattle.calculus.proofs.Runs.{safe_runs}

pub returns : goal.returns
returns c = safe_runs

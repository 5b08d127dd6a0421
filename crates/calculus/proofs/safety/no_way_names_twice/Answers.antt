use Rattle.calculus.proofs.safety.no_way_names_twice.Goals as goal
use Rattle.calculus.proofs.Ways.{no_way_names_twice}

pub returns : goal.returns
returns c = no_way_names_twice

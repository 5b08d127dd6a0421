use Rattle.checker.proofs.Levels.{in_either}
use Rattle.checker.proofs.used.Used.either.Goals as goal

pub returns : goal.returns
returns c k = in_either c.args.self.levels c.args.other.levels k

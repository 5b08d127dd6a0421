use Rattle.checker.proofs.Levels.{in_both}
use Rattle.checker.proofs.used.Used.shared.Goals as goal

pub returns : goal.returns
returns c k = in_both c.args.self.levels c.args.other.levels k

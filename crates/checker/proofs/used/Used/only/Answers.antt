use Rattle.checker.proofs.Levels.{in_one}
use Rattle.checker.proofs.used.Used.only.Goals as goal

pub returns : goal.returns
returns c k = in_one c.args.level k c.requires

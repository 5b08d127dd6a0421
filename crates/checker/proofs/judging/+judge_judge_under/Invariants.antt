use Rattle.std.proofs.Common.{◌+◌, ◌*◌}
use Rattle.checker.proofs.Nodes.{room}
use Rattle.checker.proofs.judging.+judge_judge_under.Given as goal

abbrev pub decreases-judge : goal.decreases-judge
decreases-judge l = 2 * room l.node

abbrev pub decreases-judge_under : goal.decreases-judge_under
decreases-judge_under l = 2 * room l.node + 1

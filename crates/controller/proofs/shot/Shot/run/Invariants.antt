use Rattle.std.proofs.Common.{◌≡◌, Ok, ◌-◌, ◌≤◌, length}
use Rattle.controller.specs.Faults.{ready_answer}
use Rattle.controller.specs.Running.{Ran, desk}
use Rattle.controller.specs.Shots.{held}
use Rattle.controller.proofs.shot.Shot.run.Given as goal

abbrev pub invariant-loop-found : goal.invariant-loop-found
invariant-loop-found g l = record {
  ready : ready_answer (length (held l.fn.self).cells) (length l.fn.work) ≡ Ok tt;
  room : 1024 ≤ length l.work;
  within : l.made ≤ l.budget;
  ran : Ran g.R.Register (desk l.fn.self l.fn.register l.fn.work) l.made (desk l.self l.register l.work);
}

abbrev pub decreases-loop-found : goal.decreases-loop-found
decreases-loop-found g l = l.budget - l.made

use Rattle.std.proofs.Common.{◌≡◌, ◌+◌, take, drop, length}
use Rattle.controller.specs.Shots.{held, nothing_held}
use Rattle.player.specs.Stages.{stage}
use Rattle.player.proofs.Played.{RowOf}
use Rattle.player.proofs.playing.play.Given as goal

abbrev pub invariant-loop-i : goal.invariant-loop-i
invariant-loop-i g l = record {
  ahead : l.i-iterator.iter.iter.rest.now ≡ drop l.i-iterator.count l.row;
  places : l.i-iterator.iter.n + l.i-iterator.count ≡ length l.fn.replies;
  played : RowOf g.R.Register (stage nothing_held l.fn.register l.fn.work l.fn.value l.fn.kinds) (take l.i-iterator.count l.row) l.fn.replies l.replies
      (stage (held l.controller.shot) l.controller.register l.work l.value l.kinds);
}

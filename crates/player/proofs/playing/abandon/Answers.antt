use Rattle.rows.specs.Members.{abandon}
use Rattle.controller.specs.Calls.{CallKeeps}
use Rattle.player.proofs.Played.{kept_refused}
use Rattle.player.proofs.playing.abandon.Goals as goal

pub returns-in_err-abandon-clause-kept : goal.returns-in_err-abandon-clause-kept
returns-in_err-abandon-clause-kept g c =
    kept_refused (CallKeeps g.R.Register abandon c.args.controller.now c.abandon.new.self) c.abandon.result _ c.from_residual.result c.from_residual.ensures.1 c.in_err-abandon.was c.abandon.ensures.kept

use Rattle.std.proofs.Common.{ℕ, Bool, ap, sym, subst, is_err}
use Rattle.rows.specs.Members.{run}
use Rattle.controller.specs.Calls.{CallKeeps}
use Rattle.player.specs.Stages.{replied, as_run}
use Rattle.player.proofs.Called.{same_room, refused_reply, run_made_here, same_for_refused}
use Rattle.player.proofs.Played.{kept_done, kept_refused}
use Rattle.player.proofs.playing.run.Goals as goal

pub returns-in_err-steps-clause-made : goal.returns-in_err-steps-clause-made
returns-in_err-steps-clause-made g c =
    let s = c.args.controller.now in
    let new = c.run.new in
    run_made_here g.R.Register c.args.budget c.args.room c.min-room.result s.shot new.self.shot s.register new.self.register c.args.work.now new.work c.run.result c.from_residual.result
    c.min-room.ensures c.run.auto.work c.run.ensures.answer (same_for_refused s new.self _ _ c.run.result c.run.ensures.refused) (refused_reply as_run c.run.result _ _ c.in_err-steps.was c.from_residual.ensures.1)

pub returns-in_err-steps-clause-kept : goal.returns-in_err-steps-clause-kept
returns-in_err-steps-clause-kept g c =
    let keeps = λ (k : ℕ) (b : Bool). CallKeeps g.R.Register (run c.args.budget k) c.args.controller.now c.run.new.self b in
    let kept = subst (λ k. keeps k (is_err c.run.result)) (same_room c.args.room c.min-room.result c.args.work.now c.min-room.ensures) c.run.ensures.kept in
    kept_refused (keeps _) c.run.result _ c.from_residual.result c.from_residual.ensures.1 c.in_err-steps.was kept

pub returns-clause-made : goal.returns-clause-made
returns-clause-made g c =
    let s = c.args.controller.now in
    let new = c.run.new in
    run_made_here g.R.Register c.args.budget c.args.room c.min-room.result s.shot new.self.shot s.register new.self.register c.args.work.now new.work c.run.result _
    c.min-room.ensures c.run.auto.work c.run.ensures.answer (same_for_refused s new.self _ _ c.run.result c.run.ensures.refused) (ap (replied as_run) (sym c.in_ok-steps.was))

pub returns-clause-kept : goal.returns-clause-kept
returns-clause-kept g c =
    let keeps = λ (k : ℕ) (b : Bool). CallKeeps g.R.Register (run c.args.budget k) c.args.controller.now c.run.new.self b in
    let kept = subst (λ k. keeps k (is_err c.run.result)) (same_room c.args.room c.min-room.result c.args.work.now c.min-room.ensures) c.run.ensures.kept in
    kept_done (keeps _) c.run.result _ c.in_ok-steps.was kept

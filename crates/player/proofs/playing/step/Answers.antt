use Rattle.std.proofs.Common.{ℕ, Bool, ap, sym, subst, is_err}
use Rattle.rows.specs.Members.{step}
use Rattle.controller.specs.Calls.{CallKeeps}
use Rattle.player.specs.declared.turns.Done.TheVariants.{Stepped}
use Rattle.player.specs.Stages.{replied}
use Rattle.player.proofs.Called.{same_room, refused_reply, step_made_here}
use Rattle.player.proofs.Played.{kept_done, kept_refused}
use Rattle.player.proofs.playing.step.Goals as goal

pub returns-in_err-step-clause-made : goal.returns-in_err-step-clause-made
returns-in_err-step-clause-made g c =
    let s = c.args.controller.now in
    let new = c.step.new in
    step_made_here g.R.Register c.args.room c.min-room.result s.shot new.self.shot s.register new.self.register c.args.work.now new.work c.step.result c.from_residual.result
    c.min-room.ensures c.step.auto.work c.step.ensures.answer c.step.ensures.state (refused_reply Stepped c.step.result _ _ c.in_err-step.was c.from_residual.ensures.1)

pub returns-in_err-step-clause-kept : goal.returns-in_err-step-clause-kept
returns-in_err-step-clause-kept g c =
    let keeps = λ (k : ℕ) (b : Bool). CallKeeps g.R.Register (step k) c.args.controller.now c.step.new.self b in
    let kept = subst (λ k. keeps k (is_err c.step.result)) (same_room c.args.room c.min-room.result c.args.work.now c.min-room.ensures) c.step.ensures.kept in
    kept_refused (keeps _) c.step.result _ c.from_residual.result c.from_residual.ensures.1 c.in_err-step.was kept

pub returns-clause-made : goal.returns-clause-made
returns-clause-made g c =
    let s = c.args.controller.now in
    let new = c.step.new in
    step_made_here g.R.Register c.args.room c.min-room.result s.shot new.self.shot s.register new.self.register c.args.work.now new.work c.step.result _
    c.min-room.ensures c.step.auto.work c.step.ensures.answer c.step.ensures.state (ap (replied Stepped) (sym c.in_ok-step.was))

pub returns-clause-kept : goal.returns-clause-kept
returns-clause-kept g c =
    let keeps = λ (k : ℕ) (b : Bool). CallKeeps g.R.Register (step k) c.args.controller.now c.step.new.self b in
    let kept = subst (λ k. keeps k (is_err c.step.result)) (same_room c.args.room c.min-room.result c.args.work.now c.min-room.ensures) c.step.ensures.kept in
    kept_done (keeps _) c.step.result _ c.in_ok-step.was kept

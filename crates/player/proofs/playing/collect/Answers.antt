use Rattle.std.proofs.Common.{ℕ, Bool, min, length, take, ap, sym, subst, is_err}
use Rattle.rows.specs.Members.{collect}
use Rattle.controller.specs.Calls.{CallKeeps}
use Rattle.player.specs.Stages.{replied, as_collected}
use Rattle.player.proofs.Called.{same_room, refused_reply, collect_made_here, same_if_refused}
use Rattle.player.proofs.Played.{kept_done, kept_refused}
use Rattle.player.proofs.playing.collect.Goals as goal

pub returns-in_err-cells-clause-made : goal.returns-in_err-cells-clause-made
returns-in_err-cells-clause-made g c =
    let s = c.args.controller.now in
    let new = c.collect.new in
    collect_made_here g.R.Register c.args.room c.min-room.result c.args.kind_room c.min-kind_room.result s.shot new.self.shot s.register new.self.register c.args.value.now new.value c.args.kinds.now new.kinds
    c.collect.result c.from_residual.result c.min-room.ensures c.min-kind_room.ensures c.collect.auto.value c.collect.auto.kinds c.collect.ensures.answer
    (same_if_refused s new.self _ c.collect.result c.collect.ensures.state) c.collect.ensures.tables (refused_reply as_collected c.collect.result _ _ c.in_err-cells.was c.from_residual.ensures.1)

pub returns-in_err-cells-clause-kept : goal.returns-in_err-cells-clause-kept
returns-in_err-cells-clause-kept g c =
    let keeps = λ (k m : ℕ) (b : Bool). CallKeeps g.R.Register (collect k m) c.args.controller.now c.collect.new.self b in
    let kept = subst (λ k. keeps k (length (take c.min-kind_room.result c.args.kinds.now)) (is_err c.collect.result)) (same_room c.args.room c.min-room.result c.args.value.now c.min-room.ensures) c.collect.ensures.kept in
    let both = subst (λ m. keeps (min c.args.room (length c.args.value.now)) m (is_err c.collect.result)) (same_room c.args.kind_room c.min-kind_room.result c.args.kinds.now c.min-kind_room.ensures) kept in
    kept_refused (keeps _ _) c.collect.result _ c.from_residual.result c.from_residual.ensures.1 c.in_err-cells.was both

pub returns-clause-made : goal.returns-clause-made
returns-clause-made g c =
    let s = c.args.controller.now in
    let new = c.collect.new in
    collect_made_here g.R.Register c.args.room c.min-room.result c.args.kind_room c.min-kind_room.result s.shot new.self.shot s.register new.self.register c.args.value.now new.value c.args.kinds.now new.kinds
    c.collect.result _ c.min-room.ensures c.min-kind_room.ensures c.collect.auto.value c.collect.auto.kinds c.collect.ensures.answer
    (same_if_refused s new.self _ c.collect.result c.collect.ensures.state) c.collect.ensures.tables (ap (replied as_collected) (sym c.in_ok-cells.was))

pub returns-clause-kept : goal.returns-clause-kept
returns-clause-kept g c =
    let keeps = λ (k m : ℕ) (b : Bool). CallKeeps g.R.Register (collect k m) c.args.controller.now c.collect.new.self b in
    let kept = subst (λ k. keeps k (length (take c.min-kind_room.result c.args.kinds.now)) (is_err c.collect.result)) (same_room c.args.room c.min-room.result c.args.value.now c.min-room.ensures) c.collect.ensures.kept in
    let both = subst (λ m. keeps (min c.args.room (length c.args.value.now)) m (is_err c.collect.result)) (same_room c.args.kind_room c.min-kind_room.result c.args.kinds.now c.min-kind_room.ensures) kept in
    kept_done (keeps _ _) c.collect.result _ c.in_ok-cells.was both

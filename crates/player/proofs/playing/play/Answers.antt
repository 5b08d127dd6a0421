use Rattle.std.proofs.Common.{◌≡◌, ◌+◌, ◌∷◌, ◌∙◌, Some, drop, length, take, set, refl, sym, ap, subst, arith}
use Rattle.controller.specs.Shots.{held, nothing_held}
use Rattle.player.specs.Stages.{stage}
use Rattle.player.specs.Turns.{rooms}
use Rattle.player.proofs.Played.{RowOf, none_yet, next_turn, next_of, ended, same_rooms}
use Rattle.player.proofs.Settled.{row_settled}
use Rattle.player.proofs.playing.play.Goals as goal

pub loop-i-init : goal.loop-i-init
loop-i-init g c =
    let r = g.R.Register in
    let begin = stage nothing_held c.args.register c.args.work.now c.args.value.now c.args.kinds.now in
    let first = c.new-controller.result in
    let now = stage (held first.shot) first.register c.args.work.now c.args.value.now c.args.kinds.now in
    let same = c.into_iter-i-iterator.ensures.into_iter_gives in
    let source = ap (λ e. e.iter) same ∙ c.enumerate-i-items.ensures.source in
    let count = ap (λ e. e.count) same ∙ c.enumerate-i-items.ensures.count in
    let n = ap (λ t. t.n) source ∙ c.take.ensures.count in
    record {
      ahead = ap (λ t. t.iter.rest.now) source ∙ ap (λ i. i.rest.now) c.take.ensures.source ∙ c.iter.ensures.rest ∙ ap (λ k. drop k c.args.row.now) (sym count);
      places = omega (arith, n, count);
      played = subst (λ k. RowOf r begin (take k c.args.row.now) c.args.replies.now c.args.replies.now now) (sym count)
          (none_yet r begin c.args.replies.now now refl (r.owed c.args.register).small
          (ap (λ h. stage h first.register c.args.work.now c.args.value.now c.args.kinds.now) c.new-controller.ensures.held) c.new-controller.ensures.register);
    }

pub loop-i-preserved : goal.loop-i-preserved
loop-i-preserved g c =
    let r = g.R.Register in
    let l = c.loop-i in
    let begin = stage nothing_held c.args.register c.args.work.now c.args.value.now c.args.kinds.now in
    let new = c.play_turn.new in
    let now = stage (held new.controller.shot) new.controller.register new.work new.value new.kinds in
    let a = l.auto in
    let s = c.in-Some.ensures.steps in
    let at = l.i-iterator.count in
    let row = c.args.row.now in
    let turn = c.in-Some.turn.now in
    let rest = c.next.new.self.iter.iter.rest.now in
    let ahead : drop at row ≡ turn ∷ rest = sym l.invariant.ahead ∙ s.0.0 in
    let (within, item, later) = next_of row at turn rest ahead in
    let played = next_turn r begin at row rest turn c.args.replies.now l.replies l.controller new.controller l.work new.work l.value new.value l.kinds new.kinds c.play_turn.result
    (rooms (length l.work) (length l.value) (length l.kinds)) (same_rooms _ _ _ _ _ _ a.work a.value a.kinds)
    ahead l.invariant.played c.play_turn.ensures.made c.play_turn.ensures.played (omega (arith, s.0.1, l.invariant.places)) in
    record {
      ahead = sym later ∙ ap (λ k. drop k row) (sym s.2);
      places = omega (arith, s.0.1, s.2, l.invariant.places);
      played = subst (λ k. RowOf r begin (take k row) c.args.replies.now (set l.replies c.in-Some.i (Some c.play_turn.result)) now) (sym s.2)
          (subst (λ i. RowOf r begin (take (at + 1) row) c.args.replies.now (set l.replies i (Some c.play_turn.result)) now) (sym s.1) played);
    }

pub returns-clause-played : goal.returns-clause-played
returns-clause-played g c =
    let l = c.loop-i in
    let i = l.invariant in
    subst (λ ts. RowOf g.R.Register (stage nothing_held c.args.register c.args.work.now c.args.value.now c.args.kinds.now) ts c.args.replies.now l.replies
    (stage (held l.controller.shot) l.controller.register l.work l.value l.kinds))
    (ended _ _ _ c.args.row.now _ i.places i.ahead c.in-None.ensures.steps.0) i.played

pub returns-clause-settled : goal.returns-clause-settled
returns-clause-settled g c =
    let l = c.loop-i in
    let i = l.invariant in
    let begin = stage nothing_held c.args.register c.args.work.now c.args.value.now c.args.kinds.now in
    let end = stage (held l.controller.shot) l.controller.register l.work l.value l.kinds in
    row_settled g.R.Register begin (take (length c.args.replies.now) c.args.row.now) c.args.replies.now l.replies end
    (subst (λ ts. RowOf g.R.Register begin ts c.args.replies.now l.replies end) (ended _ _ _ c.args.row.now _ i.places i.ahead c.in-None.ensures.steps.0) i.played)

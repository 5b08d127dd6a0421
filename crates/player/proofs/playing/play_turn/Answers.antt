use Rattle.std.proofs.Common.{[], inl, inr, refl, length, ⊎_elim}
use Rattle.checker.specs.Accepting.{program_verdict}
use Rattle.rows.specs.Members.{step, run, collect, load, abandon}
use Rattle.controller.specs.Shots.{held}
use Rattle.player.specs.Stages.{stage}
use Rattle.player.specs.Turns.{rooms}
use Rattle.player.proofs.Called.{load_beside, step_beside, run_beside, collect_beside, abandon_beside, turn_makes}
use Rattle.player.proofs.Played.{turn_is}
use Rattle.player.proofs.playing.play_turn.Goals as goal

pub returns-in-Load-clause-made : goal.returns-in-Load-clause-made
returns-in-Load-clause-made g c =
    let a = c.args in
    let s = a.controller.now in
    let n = c.load.new.controller in
    turn_makes g.R.Register a.turn.now _ _ _ c.load.result c.in-Load.is
    (load_beside g.R.Register c.in-Load.types.now c.in-Load.terms.now a.work.now a.value.now a.kinds.now (stage (held s.shot) s.register [] [] []) (stage (held n.shot) n.register [] [] [])
    c.load.result (program_verdict c.in-Load.types.now c.in-Load.terms.now) c.load.ensures.reply)

pub returns-in-Load-clause-played : goal.returns-in-Load-clause-played
returns-in-Load-clause-played g c =
    let a = c.args in
    turn_is g.R.Register (rooms (length a.work.now) (length a.value.now) (length a.kinds.now)) a.turn.now _ a.controller.now c.load.new.controller c.load.result c.in-Load.is
    (⊎_elim (λ p. inl (load p.1.0, (p.0, p.1.0, p.1.1, refl), p.1.2)) (λ n. inr n) c.load.ensures.kept)

pub returns-in-Step-clause-made : goal.returns-in-Step-clause-made
returns-in-Step-clause-made g c =
    let a = c.args in
    let s = a.controller.now in
    let n = c.step.new in
    turn_makes g.R.Register a.turn.now _ _ _ c.step.result c.in-Step.is
    (step_beside g.R.Register c.in-Step.room a.value.now a.kinds.now (stage (held s.shot) s.register a.work.now [] []) (stage (held n.controller.shot) n.controller.register n.work [] []) c.step.result c.step.ensures.made)

pub returns-in-Step-clause-played : goal.returns-in-Step-clause-played
returns-in-Step-clause-played g c =
    let a = c.args in
    turn_is g.R.Register (rooms (length a.work.now) (length a.value.now) (length a.kinds.now)) a.turn.now _ a.controller.now c.step.new.controller c.step.result c.in-Step.is
    (inl (step _, refl, c.step.ensures.kept))

pub returns-in-Run-clause-made : goal.returns-in-Run-clause-made
returns-in-Run-clause-made g c =
    let a = c.args in
    let s = a.controller.now in
    let n = c.run.new in
    turn_makes g.R.Register a.turn.now _ _ _ c.run.result c.in-Run.is
    (run_beside g.R.Register c.in-Run.budget c.in-Run.room a.value.now a.kinds.now (stage (held s.shot) s.register a.work.now [] []) (stage (held n.controller.shot) n.controller.register n.work [] []) c.run.result c.run.ensures.made)

pub returns-in-Run-clause-played : goal.returns-in-Run-clause-played
returns-in-Run-clause-played g c =
    let a = c.args in
    turn_is g.R.Register (rooms (length a.work.now) (length a.value.now) (length a.kinds.now)) a.turn.now _ a.controller.now c.run.new.controller c.run.result c.in-Run.is
    (inl (run c.in-Run.budget _, refl, c.run.ensures.kept))

pub returns-in-Collect-clause-made : goal.returns-in-Collect-clause-made
returns-in-Collect-clause-made g c =
    let a = c.args in
    let s = a.controller.now in
    let n = c.collect.new in
    turn_makes g.R.Register a.turn.now _ _ _ c.collect.result c.in-Collect.is
    (collect_beside g.R.Register c.in-Collect.room c.in-Collect.kind_room a.work.now (stage (held s.shot) s.register [] a.value.now a.kinds.now)
    (stage (held n.controller.shot) n.controller.register [] n.value n.kinds) c.collect.result c.collect.ensures.made)

pub returns-in-Collect-clause-played : goal.returns-in-Collect-clause-played
returns-in-Collect-clause-played g c =
    let a = c.args in
    turn_is g.R.Register (rooms (length a.work.now) (length a.value.now) (length a.kinds.now)) a.turn.now _ a.controller.now c.collect.new.controller c.collect.result c.in-Collect.is
    (inl (collect _ _, refl, c.collect.ensures.kept))

pub returns-in-Abandon-clause-made : goal.returns-in-Abandon-clause-made
returns-in-Abandon-clause-made g c =
    let a = c.args in
    let s = a.controller.now in
    let n = c.abandon.new.controller in
    turn_makes g.R.Register a.turn.now _ _ _ c.abandon.result c.in-Abandon.is
    (abandon_beside g.R.Register a.work.now a.value.now a.kinds.now (stage (held s.shot) s.register [] [] []) (stage (held n.shot) n.register [] [] []) c.abandon.result c.abandon.ensures.made)

pub returns-in-Abandon-clause-played : goal.returns-in-Abandon-clause-played
returns-in-Abandon-clause-played g c =
    let a = c.args in
    turn_is g.R.Register (rooms (length a.work.now) (length a.value.now) (length a.kinds.now)) a.turn.now _ a.controller.now c.abandon.new.controller c.abandon.result c.in-Abandon.is
    (inl (abandon, refl, c.abandon.ensures.kept))

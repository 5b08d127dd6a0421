use Rattle.std.proofs.Common.{inl}
use Rattle.checker.specs.Accepting.{program_verdict}
use Rattle.controller.specs.Calls.{LoadKeeps}
use Rattle.player.proofs.Called.{is_accepted}
use Rattle.player.proofs.Played.{kept_done, kept_refused, loaded_by}
use Rattle.player.proofs.playing.load.Goals as goal

pub returns-in_err-load-clause-kept : goal.returns-in_err-load-clause-kept
returns-in_err-load-clause-kept g c =
    let r = g.R.Register in
    let before = c.args.controller.now in
    let program = c.in_ok-program.program in
    let kept = kept_refused (λ b. LoadKeeps r program.types.now program.terms.now before c.load.new.self b) c.load.result _ c.from_residual-in_err-load.result
    c.from_residual-in_err-load.ensures.1 c.in_err-load.was c.load.ensures.kept in
    loaded_by r _ _ _ _ before c.load.new.self _ c.in_ok-program.ensures.tables.0 c.in_ok-program.ensures.tables.1 (inl (is_accepted (program_verdict program.types.now program.terms.now) program.checked, kept))

pub returns-clause-kept : goal.returns-clause-kept
returns-clause-kept g c =
    let r = g.R.Register in
    let before = c.args.controller.now in
    let program = c.in_ok-program.program in
    let kept = kept_done (λ b. LoadKeeps r program.types.now program.terms.now before c.load.new.self b) c.load.result _ c.in_ok-load.was c.load.ensures.kept in
    loaded_by r _ _ _ _ before c.load.new.self _ c.in_ok-program.ensures.tables.0 c.in_ok-program.ensures.tables.1 (inl (is_accepted (program_verdict program.types.now program.terms.now) program.checked, kept))

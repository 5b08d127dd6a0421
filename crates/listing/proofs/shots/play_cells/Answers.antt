use Rattle.std.proofs.Common.{replicate, length, Ok, Err, refl, ap, ◌∙◌}
use Rattle.calculus.proofs.NewCells.{new_kind, new_cell}
use Rattle.registers.specs.Journal.{new_tape, tape_reel}
use Rattle.registers.specs.declared.journal.Entry.TheVariants.{Empty}
use Rattle.registers.specs.declared.tape.Tape.{Tape}
use Rattle.controller.specs.Shots.{held}
use Rattle.player.specs.Stages.{stage}
use Rattle.player.specs.declared.turns.Turn.TheVariants.{Load}
use Rattle.listing.proofs.Listed.{played_is_listed, reports_here, entries_here, cells_played}
use Rattle.listing.proofs.Played.{on_new_tables, ran_is}
use Rattle.listing.proofs.shots.play_cells.Goals as goal

pub report_of-requires : goal.report_of-requires
report_of-requires c =
    let new = c.play-controller.new in
    let end = stage (held c.play-controller.result.shot) c.play-controller.result.register new.work new.value new.kinds in
    let load = Load c.args.types c.args.terms in
    let played = on_new_tables c.new-tape.result load new.replies end (new_cell _ c.default-work.ensures) (new_cell _ c.default-value.ensures) (new_kind _ c.default-kinds.ensures) c.play-controller.ensures.played in
    reports_here c.args.types.now c.args.terms.now c.new-tape.result load new.replies end (refl, refl) c.play-controller.auto.replies played

pub copy_of-requires : goal.copy_of-requires
copy_of-requires c =
    let new = c.play-controller.new in
    let end = stage (held c.play-controller.result.shot) c.play-controller.result.register new.work new.value new.kinds in
    let load = Load c.args.types c.args.terms in
    let played = on_new_tables c.new-tape.result load new.replies end (new_cell _ c.default-work.ensures) (new_cell _ c.default-value.ensures) (new_kind _ c.default-kinds.ensures) c.play-controller.ensures.played in
    let is_new = c.new-tape.ensures.meaning ∙ ap (λ xs. new_tape 8 xs (replicate 64 Empty)) c.outcomes-outcomes.ensures in
    ap length (c.journal.ensures ∙ ap (λ (r : Tape). (tape_reel r).entries) c.register.ensures)
    ∙ entries_here c.args.types.now c.args.terms.now c.new-tape.result load new.replies end (refl, refl) is_new played

pub returns-in-Ok : goal.returns-in-Ok
returns-in-Ok c =
    let new = c.play-controller.new in
    let end = stage (held c.play-controller.result.shot) c.play-controller.result.register new.work new.value new.kinds in
    let load = Load c.args.types c.args.terms in
    let played = on_new_tables c.new-tape.result load new.replies end (new_cell _ c.default-work.ensures) (new_cell _ c.default-value.ensures) (new_kind _ c.default-kinds.ensures) c.play-controller.ensures.played in
    let is_new = c.new-tape.ensures.meaning ∙ ap (λ xs. new_tape 8 xs (replicate 64 Empty)) c.outcomes-outcomes.ensures in
    let entries = c.copy_of.ensures ∙ c.journal.ensures ∙ ap (λ (r : Tape). (tape_reel r).entries) c.register.ensures in
    let shot =
    cells_played c.args.types.now c.args.terms.now c.new-tape.result load new.replies end (Ok c.in-Ok.report) _ (refl, refl) is_new c.play-controller.auto.replies played c.in-Ok.ensures
    (ran_is c.in-Ok.report end c.first_cells.ensures c.first_cells-in-Ok.ensures entries) in
    record { played = shot; listed = played_is_listed _ _ _ shot }

pub returns-in-Err : goal.returns-in-Err
returns-in-Err c =
    let new = c.play-controller.new in
    let end = stage (held c.play-controller.result.shot) c.play-controller.result.register new.work new.value new.kinds in
    let load = Load c.args.types c.args.terms in
    let played = on_new_tables c.new-tape.result load new.replies end (new_cell _ c.default-work.ensures) (new_cell _ c.default-value.ensures) (new_kind _ c.default-kinds.ensures) c.play-controller.ensures.played in
    let is_new = c.new-tape.ensures.meaning ∙ ap (λ xs. new_tape 8 xs (replicate 64 Empty)) c.outcomes-outcomes.ensures in
    let shot =
    cells_played c.args.types.now c.args.terms.now c.new-tape.result load new.replies end (Err c.in-Err.fault) _ (refl, refl) is_new c.play-controller.auto.replies played c.in-Err.ensures c.from.ensures in
    record { played = shot; listed = played_is_listed _ _ _ shot }

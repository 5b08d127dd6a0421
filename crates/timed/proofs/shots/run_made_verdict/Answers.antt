use Rattle.std.proofs.Common.{refl, ap, ◌∙◌}
use Rattle.controller.specs.Shots.{held}
use Rattle.numbers.specs.Runs.{loaded_and_run, run_answer}
use Rattle.numbers.proofs.Fresh.{started}
use Rattle.registers.specs.Journal.{tape_changes, tape_meaning}
use Rattle.registers.specs.Meaning.{after_clear}
use Rattle.registers.specs.Telling.{tape_tells}
use Rattle.timed.proofs.shots.run_made_verdict.Goals as goal

pub returns : goal.returns
returns c =
    let types = c.args.program.now.types.now in
    let terms = c.args.program.now.terms.now in
    let cleared = c.new-controller.ensures.register ∙ ap (after_clear tape_changes) c.new.ensures.meaning in
    let start = started c.args.outcomes.now (held c.new-controller.result.shot)
    (tape_meaning c.new-controller.result.register) c.default-work.result
    c.new-controller.ensures.held cleared c.default-work.ensures in
    let runs = c.load_and_run.ensures.runs tape_tells (λ r. refl)
    ∙ ap (loaded_and_run tape_changes tape_tells types terms c.args.budget) start in
    c.run_answer.ensures ∙ ap (λ r. run_answer r.0) runs

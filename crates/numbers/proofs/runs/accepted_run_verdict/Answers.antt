use Rattle.std.proofs.Common.{rules, ◌≡◌, ℕ, Result, refl, replicate, length, ap, ap₂, ◌∙◌}
use Rattle.registers.specs.Journal.{Reel, tape_changes, tape_meaning, tape_reel}
use Rattle.registers.specs.Meaning.{after_clear}
use Rattle.registers.specs.Telling.{tape_tells}
use Rattle.controller.specs.declared.faults.Refusal.{Refusal}
use Rattle.controller.specs.declared.faults.Stop.{Stop}
use Rattle.controller.specs.Meant.{Standing}
use Rattle.controller.specs.Shots.{held}
use Rattle.controller.specs.Unloading.{collect_answer}
use Rattle.numbers.specs.Cells.{node_of, number_of_kind, pulse_of, handed}
use Rattle.numbers.specs.Runs.{loaded_and_run, with_counts, collected, run_ends, tables}
use Rattle.numbers.proofs.Fresh.{started, stands}
use Rattle.numbers.proofs.Ran.{handed_back}
use Rattle.numbers.proofs.runs.accepted_run_verdict.Goals as goal
use Rattle.numbers.proofs.runs.accepted_run_verdict.Goals.{in-Ok, in_default}

pub returns : goal.returns
returns c =
    let types = c.args.program.now.types.now in
    let terms = c.args.program.now.terms.now in
    let end = c.load_and_run-run.new in
    let last = stands (held end.controller.shot) (tape_meaning end.controller.register) end.work in
    let cleared = c.new-controller.ensures.register ∙ ap (after_clear tape_changes) c.new.ensures.meaning in
    let start = started c.args.outcomes.now (held c.new-controller.result.shot)
    (tape_meaning c.new-controller.result.register) c.default-work.result
    c.new-controller.ensures.held cleared c.default-work.ensures in
    let wide : length end.work ≡ 1024 = search rules in
    let long : length (replicate 256 c.default-root.result) ≡ 256 = search rules in
    let count : c.collect.result ≡ collected last =
    c.collect.ensures.answer ∙ ap₂ (collect_answer (held end.controller.shot)) wide long in
    let verdict : c.match-collect.verdict ≡ with_counts c.run_answer-verdict.result c.collect.result =
    elim c.match-collect.branch [ in-Ok w ↦ search rules | in_default w ↦ search rules ] in
    let journal : c.journal.result.now ≡ last.register.content.entries =
    c.journal.ensures ∙ ap (λ r. (tape_reel r).entries) c.register.ensures in
    let value = handed node_of c.collect.new.value c.args.value.now in
    let kinds = handed number_of_kind c.collect.new.kinds c.args.kinds.now in
    let old = tables c.args.value.now c.args.kinds.now c.args.pulses.now in
    let runs = c.load_and_run-run.ensures.runs tape_tells (λ r. refl)
    ∙ ap (loaded_and_run tape_changes tape_tells types terms c.args.budget) start in
    let back = ap₂ (λ v k. tables v k c.give_journal.new.pulses)
    c.give_terms.ensures c.give_types.ensures
    ∙ ap (tables value kinds)
    (c.give_journal.ensures ∙ ap (λ j. handed pulse_of j c.args.pulses.now) journal)
    ∙ handed_back last c.default-root.result c.default-root.ensures c.collect.result count
    c.collect.new.value c.collect.new.kinds c.collect.ensures.tables old in
    ap₂ (λ v t. (v, t)) (verdict ∙ ap₂ with_counts c.run_answer-verdict.ensures count) back
    ∙ ap (λ (x : Result (ℕ × Stop) Refusal × Standing Reel). run_ends x old) runs

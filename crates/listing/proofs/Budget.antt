-- A run that spends its budget: 1,000 steps of a program that flips a bit, 200 at a time.
use Rattle.std.proofs.Common.{◌≡◌, false, cond, List, [], length, Some, Ok, codes, refl, ap, ◌∙◌}
use Rattle.calculus.specs.declared.cells.TermCell.{TermCell}
use Rattle.calculus.specs.declared.cells.TypeCell.{TypeCell}
use Rattle.finder.specs.Finding.{answer}
use Rattle.registers.specs.Journal.{Reel, tape_changes}
use Rattle.registers.specs.Meaning.{Meaning}
use Rattle.registers.specs.Telling.{tape_tells}
use Rattle.controller.specs.declared.faults.Stop.TheVariants.{Value, Budget}
use Rattle.controller.specs.Faults.{ready_answer}
use Rattle.controller.specs.Meant.{Standing}
use Rattle.controller.specs.Settled.{Ended, ended, after, run_from, run_if_ready, run_of}
use Rattle.controller.specs.Unloading.{is_value}
use Rattle.listing.specs.Listed.{start_of_run, lines_of_run}
use Rattle.listing.specs.Listing.{before_empty, run_lines}
use Rattle.listing.proofs.Silent.{RunsTo, and_on, lettered, silent_run, silent_steps}

-- the term before the first step, and after each 200 steps
abbrev after_0 : List TermCell
after_0 = lettered (codes "a0l0a0l0a0v0a0v0v1l0a0l0a0v0a0v0v1l0a0l0a0v0a0v0v1l0a0l0a0v0a0v0v1l0a0l0a0v0a0v0v1l0a0l0a0v0a0v0v1l0a0l0a0v0a0v0v1l0a0l0a0v0a0v0v1l0i0v0001000")

abbrev after_200 : List TermCell
after_200 = lettered (codes "a0l0a0l0a0v0a0v0v1l0a0l0a0v0a0v0v1l0a0l0a0v0a0v0v1l0a0l0a0v0a0v0v1l0a0l0a0v0a0v0v1l0a0l0a0v0a0v0v1l0a0l0a0v0a0v0v1l0i0v00010a0l0a0l0a0v0a0v0v1l0a0l0a0v0a0v0v1l0a0l0a0v0a0v0v1l0a0l0a0v0a0v0v1l0a0l0a0v0a0v0v1l0a0l0a0v0a0v0v1l0i0v00010a0l0a0l0a0v0a0v0v1l0a0l0a0v0a0v0v1l0a0l0a0v0a0v0v1l0i0v00010a0l0a0l0a0v0a0v0v1l0a0l0a0v0a0v0v1l0i0v00010a0l0a0l0a0v0a0v0v1l0a0l0a0v0a0v0v1l0i0v0001000")

abbrev after_400 : List TermCell
after_400 = lettered (codes "a0l0a0l0a0v0a0v0v1l0a0l0a0v0a0v0v1l0a0l0a0v0a0v0v1l0a0l0a0v0a0v0v1l0a0l0a0v0a0v0v1l0a0l0a0v0a0v0v1l0a0l0a0v0a0v0v1l0i0v00010a0l0a0l0a0v0a0v0v1l0a0l0a0v0a0v0v1l0a0l0a0v0a0v0v1l0a0l0a0v0a0v0v1l0i0v00010a0l0a0l0a0v0a0v0v1l0a0l0a0v0a0v0v1l0a0l0a0v0a0v0v1l0i0v00010a0l0a0l0a0v0a0v0v1l0a0l0a0v0a0v0v1l0i0v00010a0l0a0l0a0v0a0v0v1l0i0v0001000")

abbrev after_600 : List TermCell
after_600 = lettered (codes "a0l0a0l0a0v0a0v0v1l0a0l0a0v0a0v0v1l0a0l0a0v0a0v0v1l0a0l0a0v0a0v0v1l0a0l0a0v0a0v0v1l0a0l0a0v0a0v0v1l0i0v00010a0l0a0l0a0v0a0v0v1l0a0l0a0v0a0v0v1l0a0l0a0v0a0v0v1l0a0l0a0v0a0v0v1l0a0l0a0v0a0v0v1l0i0v00010a0l0a0l0a0v0a0v0v1l0a0l0a0v0a0v0v1l0a0l0a0v0a0v0v1l0i0v00010a0l0a0l0a0v0a0v0v1l0i0v00010a0l0a0l0a0v0a0v0v1l0i0v0001000")

abbrev after_800 : List TermCell
after_800 = lettered (codes "a0l0a0l0a0v0a0v0v1l0a0l0a0v0a0v0v1l0a0l0a0v0a0v0v1l0a0l0a0v0a0v0v1l0a0l0a0v0a0v0v1l0i0v00010a0l0a0l0a0v0a0v0v1l0a0l0a0v0a0v0v1l0a0l0a0v0a0v0v1l0a0l0a0v0a0v0v1l0i0v00010a0l0a0l0a0v0a0v0v1l0a0l0a0v0a0v0v1l0a0l0a0v0a0v0v1l0i0v00010a0l0i0v00010a0l0i0v0001000")

abbrev after_1000 : List TermCell
after_1000 = lettered (codes "a0l0a0l0a0v0a0v0v1l0a0l0a0v0a0v0v1l0i0v00010a0l0a0l0a0v0a0v0v1l0i0v00010a0l0i0v0001010")

steps_from_0 : silent_steps 200 after_0 ≡ Some after_200
steps_from_0 = refl

steps_from_200 : silent_steps 200 after_200 ≡ Some after_400
steps_from_200 = refl

steps_from_400 : silent_steps 200 after_400 ≡ Some after_600
steps_from_400 = refl

steps_from_600 : silent_steps 200 after_600 ≡ Some after_800
steps_from_600 = refl

steps_from_800 : silent_steps 200 after_800 ≡ Some after_1000
steps_from_800 = refl

-- 1,000 steps, and no value yet
runs_on : (a : Standing Reel) → a.shot.cells ≡ after_0 → (b : Standing Reel) × (b.shot.cells ≡ after_1000) × RunsTo 1000 a b
runs_on a is =
    let (b, b_is, first) = silent_run 200 a after_0 after_200 is steps_from_0 in
    let (c, c_is, second) = silent_run 200 b after_200 after_400 b_is steps_from_200 in
    let (d, d_is, third) = silent_run 200 c after_400 after_600 c_is steps_from_400 in
    let (e, e_is, fourth) = silent_run 200 d after_600 after_800 d_is steps_from_600 in
    let (f, f_is, fifth) = silent_run 200 e after_800 after_1000 e_is steps_from_800 in
    (f, f_is, and_on 200 800 first (and_on 200 600 second (and_on 200 400 third (and_on 200 200 fourth fifth))))

no_value_yet : is_value (answer after_1000) ≡ false
no_value_yet = refl

stops : (a : Standing Reel) → is_value (answer a.shot.cells) ≡ false → run_from tape_changes tape_tells 0 a ≡ ended Budget a
unfolding run_from
stops a e = ap (λ b. cond b (ended Value a) (ended Budget a)) e

-- the lines of a program that begins so
pub spent_lines : (types : List TypeCell) (terms : List TermCell) → (start_of_run types terms).shot.cells ≡ after_0
    → lines_of_run (run_of tape_changes tape_tells 1000 (start_of_run types terms)) ≡ run_lines 1000 Budget [] [] []
spent_lines types terms is =
    let a = start_of_run types terms in
    let (b, b_is, r) = runs_on a is in
    let ready = ap (λ cs. ready_answer (length cs) (length a.work)) is in
    let none = ap (λ cs. is_value (answer cs)) b_is ∙ no_value_yet in
    ap (λ x. lines_of_run (run_if_ready tape_changes tape_tells 1000 a x)) ready
    ∙ ap (λ (e : Ended Reel). lines_of_run (Ok (e.made, e.stop), e.last)) (r.runs 0 ∙ ap (after 1000) (stops b none))
    ∙ ap (λ (m : Meaning Reel). run_lines 1000 Budget [] [] (before_empty m.content.entries)) r.register

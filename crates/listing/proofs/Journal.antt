-- A tape's journal keeps its length, whatever is played on it.
use Rattle.std.proofs.Common.{◌≡◌, ℕ, zero, suc, Bool, true, false, cond, List, [], ◌∷◌, length, min, drop, leb, ltb, get_or, Some, None, Ok, Err, Option, Result, refl, sym, ap, ◌∙◌}
use Rattle.std.proofs.lemmas.List.{length-set}
use Rattle.calculus.specs.declared.cells.TermCell.{TermCell}
use Rattle.calculus.specs.declared.cells.TypeCell.{TypeCell}
use Rattle.finder.specs.Finding.{answer}
use Rattle.finder.specs.declared.rules.Rule.{Rule}
use Rattle.finder.specs.declared.rules.Rule.TheVariants.{Function, Pair, Then, Else, Prepare, Read, Gates}
use Rattle.finder.specs.declared.faults.FindFault.{FindFault}
use Rattle.registers.specs.Journal.{Reel, tape_changes}
use Rattle.registers.specs.Meaning.{Meaning, after_prepare, after_gate, after_read, after_let_go}
use Rattle.registers.specs.Telling.{Told, tape_tells}
use Rattle.stepper.specs.Naming.{dropped, names}
use Rattle.stepper.specs.Next.{next_cells}
use Rattle.stepper.specs.declared.writing.Answer.{Answer}
use Rattle.stepper.specs.declared.writing.Answer.TheVariants.{Nothing}
use Rattle.controller.specs.declared.faults.ControllerFault.{ControllerFault}
use Rattle.controller.specs.declared.faults.ControllerFault.TheVariants.{NoRule, TooLong}
use Rattle.controller.specs.declared.faults.Refusal.{Refusal}
use Rattle.controller.specs.declared.faults.Stop.TheVariants.{Value, Budget}
use Rattle.controller.specs.Asking.{after_asked, asked, bit_asked, qubit_asked, request, if_ok}
use Rattle.controller.specs.Faults.{ready_answer}
use Rattle.controller.specs.Letting.{released, released_all}
use Rattle.controller.specs.Meant.{Standing, after_step}
use Rattle.controller.specs.Settled.{ended, goes_on, step_due, run_from, run_if_ready, run_of}
use Rattle.controller.specs.Stepping.{Made, made_or_fault, taken, stepped}
use Rattle.controller.specs.Loading.{load_answer}
use Rattle.controller.specs.Unloading.{collect_answer, is_value}
use Rattle.controller.proofs.Running.{ok_err}
use Rattle.verdict.specs.Faults.{Verdict}
use Rattle.player.specs.Stages.{Stage, after_load}
use Rattle.player.specs.Settled.{load_turn, run_start, run_turn, collect_turn, after_collect}

ok_is : {A F : Type 0} {x y : A} → ◌≡◌ {A = Result A F} (Ok x) (Ok y) → x ≡ y
ok_is e = cc

-- how many entries the journal has
abbrev pub entries : Meaning Reel → ℕ
entries m = length m.content.entries

if_ok_keeps : {A F : Type 0} (x : Result A F) (m : Meaning Reel) (f : A → Meaning Reel) → ((a : A) → entries (f a) ≡ entries m) → entries (if_ok x m f) ≡ entries m
if_ok_keeps (Ok a) m f keeps = keeps a
if_ok_keeps (Err e) m f keeps = refl

module _ (r : Told Reel) (cs : List TermCell) where
  asked_keeps : (rule : Rule) → entries (after_asked r cs tape_changes rule) ≡ entries r.meaning
  asked_keeps Function = refl
  asked_keeps Pair = refl
  asked_keeps Then = refl
  asked_keeps Else = refl
  asked_keeps Prepare = if_ok_keeps (bit_asked cs) r.meaning (after_prepare tape_changes r.meaning r.fresh) (λ b. length-set r.meaning.content.entries _ _)
  asked_keeps Read = if_ok_keeps (qubit_asked cs) r.meaning (λ h. after_read tape_changes r.meaning h (r.outcome h)) (λ h. length-set r.meaning.content.entries _ _)
  asked_keeps Gates = if_ok_keeps (request cs) r.meaning (λ g. after_gate tape_changes r.meaning g.0 g.1) (λ g. length-set r.meaning.content.entries _ _)

released_keeps : (hs : List ℕ) (m : Meaning Reel) → entries (released_all tape_changes hs m) ≡ entries m
released_keeps [] m = refl
released_keeps (h ∷ hs) m = released_keeps hs (released tape_changes m h) ∙ by (get_or m.live h false)
  where
    by : (b : Bool) → entries (cond b (after_let_go tape_changes m h) m) ≡ entries m
    by true = refl
    by false = refl

module _ (r : Told Reel) (cs : List TermCell) where
  step_keeps : (t : Made Reel) → stepped tape_changes r cs ≡ Ok t → entries t.register ≡ entries r.meaning
  step_keeps t e = of_answer (answer cs) e
    where
      of_asked : (rule : Rule) (at : ℕ) (x : Result Answer ControllerFault) → made_or_fault tape_changes r cs rule at x ≡ Ok t → entries t.register ≡ entries r.meaning
      of_asked rule at (Ok a) e =
          ap (λ (t : Made Reel). entries t.register) (sym (ok_is e))
          ∙ released_keeps (dropped (names cs) (names (next_cells cs rule at a))) (after_asked r (drop at cs) tape_changes rule) ∙ asked_keeps r (drop at cs) rule
      of_asked rule at (Err f) e = absurd (ok_err (sym e))

      of_tests : (rule : Rule) (at : ℕ) (x y : Bool)
          → cond x (Err NoRule) (cond y (Err TooLong) (made_or_fault tape_changes r cs rule at (asked r (drop at cs) rule))) ≡ Ok t → entries t.register ≡ entries r.meaning
      of_tests rule at true y e = absurd (ok_err (sym e))
      of_tests rule at false true e = absurd (ok_err (sym e))
      of_tests rule at false false e = of_asked rule at (asked r (drop at cs) rule) e

      of_answer : (x : Result (Option (Rule × ℕ)) FindFault) → taken tape_changes r cs x ≡ Ok t → entries t.register ≡ entries r.meaning
      of_answer (Ok (Some (rule, at))) e = of_tests rule at (leb (length cs) at) (ltb 1024 (length (next_cells cs rule at Nothing))) e
      of_answer (Ok None) e = absurd (ok_err (sym e))
      of_answer (Err f) e = absurd (ok_err (sym e))

pub run_keeps : (left : ℕ) (a : Standing Reel) → entries (run_from tape_changes tape_tells left a).last.register ≡ entries a.register
unfolding run_from
run_keeps zero a = by (is_value (answer a.shot.cells))
  where
    by : (b : Bool) → entries (cond b (ended Value a) (ended Budget a)).last.register ≡ entries a.register
    by true = refl
    by false = refl
run_keeps (suc left) a = by (run_keeps left) (is_value (answer a.shot.cells)) (step_due tape_changes tape_tells a) refl
  where
    by : ((b : Standing Reel) → entries (run_from tape_changes tape_tells left b).last.register ≡ entries b.register) → (b : Bool) (x : Result (Made Reel) ControllerFault) → step_due tape_changes tape_tells a ≡ x
        → entries (cond b (ended Value a) (goes_on tape_changes tape_tells (run_from tape_changes tape_tells left) a x)).last.register ≡ entries a.register
    by rest true x e = refl
    by rest false (Ok t) e = rest (after_step tape_changes a t) ∙ step_keeps (tape_tells a.register) a.shot.cells t e
    by rest false (Err f) e = refl

-- a call of run
pub run_of_keeps : (budget : ℕ) (a : Standing Reel) → entries (run_of tape_changes tape_tells budget a).1.register ≡ entries a.register
run_of_keeps budget a = by (ready_answer (length a.shot.cells) (length a.work))
  where
    by : (x : Result (Unit {0}) ControllerFault) → entries (run_if_ready tape_changes tape_tells budget a x).1.register ≡ entries a.register
    by (Ok u) = run_keeps budget a
    by (Err f) = refl

-- a load, a run and a collect
loaded_keeps : (types : List TypeCell) (terms : List TermCell) (a : Stage (Meaning Reel)) (v : Verdict) → entries (load_turn tape_changes tape_tells types terms a v).1.register ≡ entries a.register
loaded_keeps types terms a (Ok u) = by (load_answer a.register.makes a.shot terms)
  where
    by : (x : Result ℕ Refusal) → entries (after_load types terms a x).register ≡ entries a.register
    by (Ok n) = refl
    by (Err f) = refl
loaded_keeps types terms a (Err f) = refl

collected_keeps : (room kind_room : ℕ) (a : Stage (Meaning Reel)) → entries (collect_turn tape_changes tape_tells room kind_room a).1.register ≡ entries a.register
collected_keeps room kind_room a = by (collect_answer a.shot (min room (length a.value)) (min kind_room (length a.kinds)))
  where
    by : (x : Result (ℕ × ℕ) Refusal) → entries (after_collect tape_changes tape_tells a x).register ≡ entries a.register
    by (Ok n) = refl
    by (Err f) = refl

pub turns_keep : (types : List TypeCell) (terms : List TermCell) (budget room value_room kind_room : ℕ) (a : Stage (Meaning Reel)) (v : Verdict)
    → let b = (load_turn tape_changes tape_tells types terms a v).1 in
    entries (collect_turn tape_changes tape_tells value_room kind_room (run_turn tape_changes tape_tells budget room b).1).1.register ≡ entries a.register
turns_keep types terms budget room value_room kind_room a v =
    let b = (load_turn tape_changes tape_tells types terms a v).1 in
    collected_keeps value_room kind_room (run_turn tape_changes tape_tells budget room b).1 ∙ run_of_keeps budget (run_start tape_changes tape_tells room b) ∙ loaded_keeps types terms a v

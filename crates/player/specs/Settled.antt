-- A row on a settled kind of register, as a function of where it starts. A stage has here what its
-- register means.
use Rattle.std.specs.Prelude.{◌≡◌, ℕ, min, List, [], ◌∷◌, ◌++◌, map, length, take, drop, Some, Ok}
use Rattle.std.specs.Prelude.{Err, Option, Result}
use Rattle.calculus.specs.declared.cells.TermCell.{TermCell}
use Rattle.calculus.specs.declared.cells.TypeCell.{TypeCell}
use Rattle.verdict.specs.declared.faults.CheckFault.{CheckFault}
use Rattle.checker.specs.Accepting.{program_verdict}
use Rattle.registers.specs.declared.register.Register.{Ghosts}
use Rattle.registers.specs.Meaning.{Meaning, Changes, after_clear}
use Rattle.registers.specs.Telling.{Told, SettledBy}
use Rattle.controller.specs.declared.faults.ControllerFault.{ControllerFault}
use Rattle.controller.specs.declared.faults.Refusal.{Refusal}
use Rattle.controller.specs.Loading.{load_answer}
use Rattle.controller.specs.Meant.{Standing}
use Rattle.controller.specs.Settled.{run_of}
use Rattle.controller.specs.Shots.{nothing_held}
use Rattle.controller.specs.Stepping.{Made, count_made, held_after, placed, step_made}
use Rattle.controller.specs.Tables.{begun_with}
use Rattle.controller.specs.Unloading.{abandon_answer, collect_answer}
use Rattle.player.specs.declared.turns.Turn.{Turn}
use Rattle.player.specs.declared.turns.Turn.TheVariants.{Load, Step, Run, Collect, Abandon}
use Rattle.player.specs.declared.turns.Done.TheVariants.{Loaded, Stepped}
use Rattle.player.specs.declared.turns.TurnFault.TheVariants.{NotAccepted}
use Rattle.player.specs.Stages.{Reply, Stage, stage, replied, as_run}
use Rattle.player.specs.Stages.{as_collected, as_abandoned, after_load}

-- a stage with what its register means in place of the register
abbrev pub meant_stage : {R : Type 0} (kind : Ghosts R) → Stage R → Stage (Meaning kind.Content)
meant_stage kind a = stage a.shot (kind.meaning a.register) a.work a.value a.kinds

module _ {C : Type 0} (changes : Changes C) (tells : Meaning C → Told C) where
  abbrev pub load_turn : List TypeCell → List TermCell → Stage (Meaning C)
      → Result (Unit {0}) CheckFault → Reply × Stage (Meaning C)
  load_turn types terms a (Ok u) =
      let x = load_answer a.register.makes a.shot terms in
      (replied Loaded x, after_load types terms a x)
  load_turn types terms a (Err f) = (Err (NotAccepted f), a)

  abbrev pub after_made : Stage (Meaning C) → Result (Made C) ControllerFault → Stage (Meaning C)
  after_made a (Ok t) =
      stage (held_after a.shot t) t.register (begun_with t.cells a.work) a.value a.kinds
  after_made a (Err f) = a

  abbrev pub step_turn : ℕ → Stage (Meaning C) → Reply × Stage (Meaning C)
  step_turn room a =
      let x = step_made changes (tells a.register) a.shot (min room (length a.work)) in
      (replied Stepped (placed a.shot.steps (count_made x)), after_made a x)

  -- where a run begins that has so many cells of the work table
  abbrev pub run_start : ℕ → Stage (Meaning C) → Standing C
  run_start room a = record { shot = a.shot; register = a.register; work = take room a.work }

  abbrev pub after_run : ℕ → Stage (Meaning C) → Standing C → Stage (Meaning C)
  after_run room a b = stage b.shot b.register (b.work ++ drop room a.work) a.value a.kinds

  abbrev pub run_turn : ℕ → ℕ → Stage (Meaning C) → Reply × Stage (Meaning C)
  run_turn budget room a =
      let x = run_of changes tells budget (run_start room a) in
      (replied as_run x.0, after_run room a x.1)

  abbrev pub unloaded : Stage (Meaning C) → List TermCell → List TypeCell → Stage (Meaning C)
  unloaded a value kinds = stage nothing_held (after_clear changes a.register) a.work value kinds

  abbrev pub after_collect : Stage (Meaning C) → Result (ℕ × ℕ) Refusal → Stage (Meaning C)
  after_collect a (Ok n) =
      unloaded a (begun_with a.shot.cells a.value) (begun_with a.shot.kinds a.kinds)
  after_collect a (Err f) = a

  abbrev pub collect_turn : ℕ → ℕ → Stage (Meaning C) → Reply × Stage (Meaning C)
  collect_turn room kind_room a =
      let x = collect_answer a.shot (min room (length a.value)) (min kind_room (length a.kinds)) in
      (replied as_collected x, after_collect a x)

  abbrev pub after_abandon : Stage (Meaning C) → Result (Unit {0}) Refusal → Stage (Meaning C)
  after_abandon a (Ok u) = unloaded a a.value a.kinds
  after_abandon a (Err f) = a

  abbrev pub abandon_turn : Stage (Meaning C) → Reply × Stage (Meaning C)
  abandon_turn a = let x = abandon_answer a.shot in (replied as_abandoned x, after_abandon a x)

  -- the reply to a turn, and the stage that it leads to
  abbrev pub turn_of : Turn → Stage (Meaning C) → Reply × Stage (Meaning C)
  turn_of (Load types terms) a =
      load_turn types.now terms.now a (program_verdict types.now terms.now)
  turn_of (Step room) a = step_turn room a
  turn_of (Run budget room) a = run_turn budget room a
  turn_of (Collect room kind_room) a = collect_turn room kind_room a
  turn_of Abandon a = abandon_turn a

  -- a turn's reply before those of the turns after it
  abbrev pub before_rest : Reply × Stage (Meaning C)
      → (Stage (Meaning C) → List Reply × Stage (Meaning C)) → List Reply × Stage (Meaning C)
  before_rest x rest = let z = rest x.1 in (x.0 ∷ z.0, z.1)

  -- the replies to turns in a row, and the stage that they lead to
  abbrev pub turns_of : List Turn → Stage (Meaning C) → List Reply × Stage (Meaning C)
  turns_of [] a = ([], a)
  turns_of (t ∷ ts) a = before_rest (turn_of t a) (turns_of ts)

-- On a settled kind a row that is played comes to the turns' replies, in front of their table, and
-- to the last stage of them.
abbrev pub RowIsSettled : {R : Type 0} (kind : Ghosts R) → Stage R → List Turn
    → List (Option Reply) → List (Option Reply) → Stage R → Type 0
RowIsSettled kind start row old new end =
    (tells : Meaning kind.Content → Told kind.Content) → SettledBy kind tells
    → let cleared = after_clear kind.changes (kind.meaning start.register) in
    let first = stage start.shot cleared start.work start.value start.kinds in
    let x = turns_of kind.changes tells row first in
    (new ≡ map Some x.0 ++ drop (length x.0) old) × (meant_stage kind end ≡ x.1)

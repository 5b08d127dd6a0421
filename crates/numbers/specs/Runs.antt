-- A program that is loaded on a new tape and runs, and what is handed back of it, in numbers.
use Rattle.std.specs.Prelude.{◌≡◌, ℕ, List, replicate, Ok, Err, Result}
use Rattle.calculus.specs.Cells.{blank}
use Rattle.calculus.specs.declared.cells.TermCell.{TermCell}
use Rattle.calculus.specs.declared.cells.TypeCell.{TypeCell}
use Rattle.calculus.specs.declared.limits.TheConstants.{MOST_TYPE_CELLS, MOST_RUNNING_CELLS}
use Rattle.registers.specs.declared.register.Register.{Ghosts}
use Rattle.registers.specs.Meaning.{Meaning, Changes, after_clear}
use Rattle.registers.specs.Telling.{Told, SettledBy, tape_tells}
use Rattle.registers.specs.Journal.{Reel, tape_changes, new_tape}
use Rattle.registers.specs.declared.journal.Entry.TheVariants.{Empty}
use Rattle.checker.specs.Accepting.{program_verdict}
use Rattle.verdict.specs.declared.faults.CheckFault.{CheckFault}
use Rattle.controller.specs.declared.faults.Refusal.{Refusal}
use Rattle.controller.specs.declared.faults.Stop.{Stop}
use Rattle.controller.specs.declared.faults.Stop.TheVariants.{Value, Budget, Refused}
use Rattle.controller.specs.Faults.{fault_number}
use Rattle.controller.specs.Loading.{load_answer}
use Rattle.controller.specs.Meant.{Standing}
use Rattle.controller.specs.Settled.{run_of}
use Rattle.controller.specs.Shots.{nothing_held, program_held}
use Rattle.controller.specs.Tables.{begun_with}
use Rattle.controller.specs.Unloading.{collect_answer}
use Rattle.numbers.specs.declared.answers.Verdict.{Verdict}
use Rattle.numbers.specs.declared.runs.TheConstants.{CAPACITY, PULSES, BUDGET_SPENT}
use Rattle.numbers.specs.declared.tables.Node.{Node}
use Rattle.numbers.specs.declared.tables.Pulse.{Pulse}
use Rattle.numbers.specs.Cells.{node_of, number_of_kind, pulse_of, handed}
use Rattle.numbers.specs.Verdicts.{acceptance, refusal, check_refusal, call_refusal, fresh_kinds}

-- A program is loaded, and runs if the load is not refused; a refused call leaves everything as it
-- was. On a settled kind of register, both are a function of where they start.
module _ {C : Type 0} (changes : Changes C) (tells : Meaning C → Told C) where
  module _ (types : List TypeCell) (terms : List TermCell) (budget : ℕ) where
    abbrev pub runs_if_loaded : Standing C → Result ℕ Refusal
        → Result (ℕ × Stop) Refusal × Standing C
    runs_if_loaded a (Ok n) =
        run_of changes tells budget
        (record { shot = program_held types terms; register = a.register; work = a.work })
    runs_if_loaded a (Err f) = (Err f, a)

    abbrev pub loaded_and_run : Standing C → Result (ℕ × Stop) Refusal × Standing C
    loaded_and_run a = runs_if_loaded a (load_answer a.register.makes a.shot terms)

abbrev pub LoadsAndRuns : {R : Type 0} (kind : Ghosts R) → List TypeCell → List TermCell → ℕ
    → Standing kind.Content → Standing kind.Content → Result (ℕ × Stop) Refusal → Type 0
LoadsAndRuns kind types terms budget a b answer =
    (tells : Meaning kind.Content → Told kind.Content) → SettledBy kind tells
    → (answer, b) ≡ loaded_and_run kind.changes tells types terms budget a

-- nothing loaded, a new tape of the outcomes, and a new work table
abbrev pub new_standing : List ℕ → Standing Reel
new_standing outcomes = record {
  shot = nothing_held;
  register = after_clear tape_changes (new_tape CAPACITY outcomes (replicate PULSES Empty));
  work = replicate MOST_RUNNING_CELLS blank;
}

-- how a run stopped, 0 at a value and 1 at a spent budget, and its steps
abbrev pub stop_answer : ℕ → Stop → Verdict
stop_answer steps Value = record acceptance { steps = steps }
stop_answer steps Budget = record acceptance { number = BUDGET_SPENT; steps = steps }
stop_answer steps (Refused fault place) =
    record (refusal (fault_number fault) place) { steps = steps }

-- the same, or the refused call
abbrev pub run_answer : Result (ℕ × Stop) Refusal → Verdict
run_answer (Ok r) = stop_answer r.0 r.1
run_answer (Err f) = call_refusal f

-- What is collected: the value and its type with their counts; nothing where a run did not stop at
-- a value.
abbrev pub collected : Standing Reel → Result (ℕ × ℕ) Refusal
collected b = collect_answer b.shot MOST_RUNNING_CELLS MOST_TYPE_CELLS

abbrev pub with_counts : Verdict → Result (ℕ × ℕ) Refusal → Verdict
with_counts v (Ok n) = record v { term_cells = n.0; type_cells = n.1 }
with_counts v (Err f) = v

abbrev pub value_in : Standing Reel → Result (ℕ × ℕ) Refusal → List TermCell
value_in b (Ok n) = begun_with b.shot.cells b.work
value_in b (Err f) = b.work

abbrev pub type_in : Standing Reel → Result (ℕ × ℕ) Refusal → List TypeCell
type_in b (Ok n) = begun_with b.shot.kinds fresh_kinds
type_in b (Err f) = fresh_kinds

-- The tables that are handed over for the value, its type and the journal.
pub record Tables : Type 0 where
  pub value : List Node
  pub kinds : List ℕ
  pub pulses : List Pulse

abbrev pub tables : List Node → List ℕ → List Pulse → Tables
tables value kinds pulses = record { value = value; kinds = kinds; pulses = pulses }

-- all that is handed back where a run ends
abbrev pub tables_after : Standing Reel → Tables → Tables
tables_after b t =
    tables (handed node_of (value_in b (collected b)) t.value)
    (handed number_of_kind (type_in b (collected b)) t.kinds)
    (handed pulse_of b.register.content.entries t.pulses)

-- the verdict on a run that ended, and the tables that are handed back
abbrev pub run_ends : Result (ℕ × Stop) Refusal × Standing Reel → Tables → Verdict × Tables
run_ends e old = (with_counts (run_answer e.0) (collected e.1), tables_after e.1 old)

-- An accepted program is loaded on a new tape and runs to its end; of one that is not accepted the
-- fault is told, and the tables stay.
module _ (types : List TypeCell) (terms : List TermCell) (outcomes : List ℕ) (budget : ℕ)
    (old : Tables) where
  abbrev pub run_if_accepted : Result (Unit {0}) CheckFault → Verdict × Tables
  run_if_accepted (Ok u) =
      run_ends
      (loaded_and_run tape_changes tape_tells types terms budget (new_standing outcomes)) old
  run_if_accepted (Err f) = (check_refusal f, old)

  -- the verdict, and the tables that are handed back
  abbrev pub run_answered : Verdict × Tables
  run_answered = run_if_accepted (program_verdict types terms)

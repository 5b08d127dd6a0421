-- The stages that a row leads through, and what each turn makes of one. It is the clause of the
-- controller's call for the turn.
use Rattle.std.specs.Prelude.{◌≡◌, ℕ, min, List, length, take, drop, Ok, Err, Result, OnErr}
use Rattle.calculus.specs.declared.cells.TermCell.{TermCell}
use Rattle.calculus.specs.declared.cells.TypeCell.{TypeCell}
use Rattle.verdict.specs.declared.faults.CheckFault.{CheckFault}
use Rattle.checker.specs.Accepting.{program_verdict}
use Rattle.registers.specs.declared.register.Register.{Ghosts}
use Rattle.registers.specs.Meaning.{after_clear}
use Rattle.registers.specs.Telling.{told}
use Rattle.controller.specs.declared.faults.ControllerFault.{ControllerFault}
use Rattle.controller.specs.declared.faults.Refusal.{Refusal}
use Rattle.controller.specs.declared.faults.Stop.{Stop}
use Rattle.controller.specs.Loading.{load_answer}
use Rattle.controller.specs.Running.{Desk, RunAnswer}
use Rattle.controller.specs.Shots.{Held, nothing_held, program_held}
use Rattle.controller.specs.Stepping.{Made, count_made, held_after, placed, step_made}
use Rattle.controller.specs.Tables.{begun_with}
use Rattle.controller.specs.Unloading.{abandon_answer, collect_answer}
use Rattle.player.specs.declared.turns.Turn.{Turn}
use Rattle.player.specs.declared.turns.Turn.TheVariants.{Load, Step, Run, Collect, Abandon}
use Rattle.player.specs.declared.turns.Done.{Done}
use Rattle.player.specs.declared.turns.Done.TheVariants.{Loaded, Stepped, Ran, Collected, Abandoned}
use Rattle.player.specs.declared.turns.TurnFault.{TurnFault}
use Rattle.player.specs.declared.turns.TurnFault.TheVariants.{NotAccepted, Refused}

-- What a turn has done, or why it has done nothing.
abbrev pub Reply : Type 0
Reply = Result Done TurnFault

-- Where a row is: what the shot holds, the register itself, and the tables that turns take their
-- cells from.
pub record Stage (R : Type 0) : Type 0 where
  pub shot : Held
  pub register : R
  pub work : List TermCell
  pub value : List TermCell
  pub kinds : List TypeCell

abbrev pub stage : {R : Type 0} → Held → R → List TermCell → List TermCell → List TypeCell → Stage R
stage shot register work value kinds = record {
  shot = shot;
  register = register;
  work = work;
  value = value;
  kinds = kinds;
}

-- a desk with so many cells of the work table
abbrev pub desk_of : {R : Type 0} → ℕ → Stage R → Desk R
desk_of room a = record { shot = a.shot; register = a.register; work = take room a.work }

-- the reply to a call: what it has done, or its refusal
abbrev pub replied : {A : Type 0} → (A → Done) → Result A Refusal → Reply
replied f (Ok x) = Ok (f x)
replied f (Err e) = Err (Refused e)

abbrev pub as_run : ℕ × Stop → Done
as_run r = Ran r.0 r.1

abbrev pub as_collected : ℕ × ℕ → Done
as_collected n = Collected n.0 n.1

abbrev pub as_abandoned : Unit {0} → Done
as_abandoned u = Abandoned

-- what a load that was answered so leaves
abbrev pub after_load : {R : Type 0} → List TypeCell → List TermCell → Stage R → Result ℕ Refusal
    → Stage R
after_load types terms a (Ok n) = stage (program_held types terms) a.register a.work a.value a.kinds
after_load types terms a (Err f) = a

module _ {R : Type 0} (kind : Ghosts R) where
  -- A program that is not accepted is not loaded.
  abbrev pub load_made : List TypeCell → List TermCell → Stage R → Result (Unit {0}) CheckFault
      → Reply × Stage R
  load_made types terms a (Ok u) =
      let x = load_answer (kind.meaning a.register).makes a.shot terms in
      (replied Loaded x, after_load types terms a x)
  load_made types terms a (Err f) = (Err (NotAccepted f), a)

  -- A step that is made. One that is refused changes nothing.
  abbrev pub StepLeads : Result (Made kind.Content) ControllerFault → Stage R → Stage R → Type 0
  StepLeads (Ok t) a b =
      (kind.meaning b.register ≡ t.register)
      × (b ≡ stage (held_after a.shot t) b.register (begun_with t.cells a.work) a.value a.kinds)
  StepLeads (Err f) a b = b ≡ a

  abbrev pub StepMakes : ℕ → Stage R → Stage R → Reply → Type 0
  StepMakes room a b y =
      let x = step_made kind.changes (told kind a.register) a.shot (min room (length a.work)) in
      (y ≡ replied Stepped (placed a.shot.steps (count_made x))) × StepLeads x a b

  -- A run has the first cells of the work table, and the rest stays. One that is refused changes
  -- nothing.
  pub record RunMakes (budget room : ℕ) (a b : Stage R) (y : Reply) : Type 0 where
    pub answer : Result (ℕ × Stop) Refusal
    pub runs : RunAnswer kind budget (desk_of room a) (desk_of room b) answer
    pub reply : y ≡ replied as_run answer
    pub rest : drop room b.work ≡ drop room a.work
    pub others : (b.value ≡ a.value) × (b.kinds ≡ a.kinds)
    pub refused : OnErr answer (b ≡ a)

  -- Nothing is held any more, and the register is cleared.
  abbrev pub Unloads : Stage R → Stage R → List TermCell → List TypeCell → Type 0
  Unloads a b value kinds =
      (kind.meaning b.register ≡ after_clear kind.changes (kind.meaning a.register))
      × (b ≡ stage nothing_held b.register a.work value kinds)

  abbrev pub CollectLeads : Result (ℕ × ℕ) Refusal → Stage R → Stage R → Type 0
  CollectLeads (Ok n) a b =
      Unloads a b (begun_with a.shot.cells a.value) (begun_with a.shot.kinds a.kinds)
  CollectLeads (Err f) a b = b ≡ a

  abbrev pub CollectMakes : ℕ → ℕ → Stage R → Stage R → Reply → Type 0
  CollectMakes room kind_room a b y =
      let x = collect_answer a.shot (min room (length a.value)) (min kind_room (length a.kinds)) in
      (y ≡ replied as_collected x) × CollectLeads x a b

  abbrev pub AbandonLeads : Result (Unit {0}) Refusal → Stage R → Stage R → Type 0
  AbandonLeads (Ok u) a b = Unloads a b a.value a.kinds
  AbandonLeads (Err f) a b = b ≡ a

  abbrev pub AbandonMakes : Stage R → Stage R → Reply → Type 0
  AbandonMakes a b y =
      let x = abandon_answer a.shot in
      (y ≡ replied as_abandoned x) × AbandonLeads x a b

  -- What a turn makes of a stage, and the reply to it.
  abbrev pub TurnMakes : Turn → Stage R → Stage R → Reply → Type 0
  TurnMakes (Load types terms) a b y =
      (y, b) ≡ load_made types.now terms.now a (program_verdict types.now terms.now)
  TurnMakes (Step room) a b y = StepMakes room a b y
  TurnMakes (Run budget room) a b y = RunMakes budget room a b y
  TurnMakes (Collect room kind_room) a b y = CollectMakes room kind_room a b y
  TurnMakes Abandon a b y = AbandonMakes a b y

-- A run: so many steps, each with the answers of the register as it then is, and why it stops.
use Rattle.std.specs.Prelude.{◌≡◌, ℕ, suc, ◌<◌, ◌≤◌, true, false, List, length, Ok, Err, Result}
use Rattle.calculus.specs.declared.cells.TermCell.{TermCell}
use Rattle.finder.specs.Finding.{answer}
use Rattle.registers.specs.declared.register.Register.{Ghosts}
use Rattle.controller.specs.declared.faults.ControllerFault.{ControllerFault}
use Rattle.controller.specs.declared.faults.Refusal.{Refusal}
use Rattle.controller.specs.declared.faults.Stop.{Stop}
use Rattle.controller.specs.declared.faults.Stop.TheVariants.{Value, Budget, Refused}
use Rattle.controller.specs.declared.shot.Shot.{Shot}
use Rattle.registers.specs.Telling.{told}
use Rattle.controller.specs.Faults.{ready_answer}
use Rattle.controller.specs.Shots.{Held, held}
use Rattle.controller.specs.Stepping.{Made, held_after, placed, stepped}
use Rattle.controller.specs.Tables.{begun_with}
use Rattle.controller.specs.Unloading.{is_value}

-- Where a run is: what the shot holds, the register itself, and the work table.
pub record Desk (R : Type 0) : Type 0 where
  pub shot : Held
  pub register : R
  pub work : List TermCell

abbrev pub desk : {R : Type 0} → Shot → R → List TermCell → Desk R
desk shot register work = record { shot = held shot; register = register; work = work }

module _ {R : Type 0} (kind : Ghosts R) where
  -- the step that is due, with what the register tells
  abbrev pub due : Desk R → Result (Made kind.Content) ControllerFault
  due a = stepped kind.changes (told kind a.register) a.shot.cells

  -- The step that is due is made, and leads from desk to desk.
  pub record StepLeads (a b : Desk R) : Type 0 where
    pub made : Made kind.Content
    pub step : due a ≡ Ok made
    pub shot : b.shot ≡ held_after a.shot made
    pub register : kind.meaning b.register ≡ made.register
    pub work : b.work ≡ begun_with made.cells a.work

  -- so many steps, none of them of a value
  pub data Ran (a : Desk R) : ℕ → Desk R → Type 0 where
    none_made : Ran a 0 a
    one_more_made : {k : ℕ} {b c : Desk R} → Ran a k b → StepLeads b c → Ran a (suc k) c

  -- A run with this budget stops here after so many steps: at a value, else at its budget, else at
  -- the step that is due, with its fault.
  abbrev pub Stopped : ℕ → ℕ → Desk R → Stop → Type 0
  Stopped budget made b Value = is_value (answer b.shot.cells) ≡ true
  Stopped budget made b Budget = (is_value (answer b.shot.cells) ≡ false) × (made ≡ budget)
  Stopped budget made b (Refused fault steps) =
      (is_value (answer b.shot.cells) ≡ false) × (made < budget)
      × (due b ≡ Err fault) × (steps ≡ b.shot.steps)

  -- what a call of run answers that leads from one desk to another
  abbrev pub RunAnswer : ℕ → Desk R → Desk R → Result (ℕ × Stop) Refusal → Type 0
  RunAnswer budget a b (Ok (made, stop)) =
      (ready_answer (length a.shot.cells) (length a.work) ≡ Ok tt) × (made ≤ budget)
      × Ran a made b × Stopped budget made b stop
  RunAnswer budget a b (Err f) =
      placed a.shot.steps (ready_answer (length a.shot.cells) (length a.work)) ≡ Err f

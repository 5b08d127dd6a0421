-- A run by what its register means: so many steps, whatever the register answers, and why it stops.
use Rattle.std.specs.Prelude.{◌≡◌, ℕ, suc, ◌<◌, ◌≤◌, true, false, List, length, Ok, Err, Result}
use Rattle.calculus.specs.declared.cells.TermCell.{TermCell}
use Rattle.finder.specs.Finding.{answer}
use Rattle.registers.specs.declared.register.Register.{Ghosts}
use Rattle.registers.specs.Meaning.{Meaning, Changes, Owed}
use Rattle.controller.specs.declared.faults.ControllerFault.{ControllerFault}
use Rattle.controller.specs.declared.faults.Refusal.{Refusal}
use Rattle.controller.specs.declared.faults.Stop.{Stop}
use Rattle.controller.specs.declared.faults.Stop.TheVariants.{Value, Budget, Refused}
use Rattle.controller.specs.declared.shot.Shot.{Shot}
use Rattle.registers.specs.Telling.{Told}
use Rattle.controller.specs.Faults.{ready_answer}
use Rattle.controller.specs.Shots.{Held, held}
use Rattle.controller.specs.Stepping.{Made, held_after, placed, stepped}
use Rattle.controller.specs.Tables.{begun_with}
use Rattle.controller.specs.Unloading.{is_value}

-- Where a run stands by its register's meaning.
pub record Standing (C : Type 0) : Type 0 where
  pub shot : Held
  pub register : Meaning C
  pub work : List TermCell

abbrev pub standing : {R : Type 0} (kind : Ghosts R) → Shot → R → List TermCell
    → Standing kind.Content
standing kind shot register work =
    record { shot = held shot; register = kind.meaning register; work = work }

module _ {C : Type 0} (changes : Changes C) where
  -- A register with this meaning answers, and the step comes to this.
  pub record Comes (a : Standing C) (result : Result (Made C) ControllerFault) : Type 0 where
    pub told : Told C
    pub meaning : told.meaning ≡ a.register
    pub owed : Owed told.meaning told.fresh
    pub step : stepped changes told a.shot.cells ≡ result

  abbrev pub after_step : Standing C → Made C → Standing C
  after_step a t =
      record { shot = held_after a.shot t; register = t.register; work = begun_with t.cells a.work }

  -- so many steps, none of them of a value
  pub data Ran (a : Standing C) : ℕ → Standing C → Type 0 where
    none_made : Ran a 0 a
    one_more_made : {k : ℕ} {b c : Standing C} {t : Made C}
        → Ran a k b → Comes b (Ok t) → c ≡ after_step b t → Ran a (suc k) c

  -- A run with this budget stops here after so many steps: at a value, else at its budget, else at
  -- a step that is refused.
  abbrev pub Stopped : ℕ → ℕ → Standing C → Stop → Type 0
  Stopped budget made b Value = is_value (answer b.shot.cells) ≡ true
  Stopped budget made b Budget = (is_value (answer b.shot.cells) ≡ false) × (made ≡ budget)
  Stopped budget made b (Refused fault steps) =
      (is_value (answer b.shot.cells) ≡ false) × (made < budget)
      × Comes b (Err fault) × (steps ≡ b.shot.steps)

  -- what a call of run answers that leads from one standing to another
  abbrev pub RunAnswer : ℕ → Standing C → Standing C → Result (ℕ × Stop) Refusal → Type 0
  RunAnswer budget a b (Ok (made, stop)) =
      (ready_answer (length a.shot.cells) (length a.work) ≡ Ok tt) × (made ≤ budget)
      × Ran a made b × Stopped budget made b stop
  RunAnswer budget a b (Err f) =
      placed a.shot.steps (ready_answer (length a.shot.cells) (length a.work)) ≡ Err f

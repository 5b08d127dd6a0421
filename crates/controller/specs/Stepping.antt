-- One step: what it answers, and what it makes of the shot, the register and the work table.
use Rattle.std.specs.Prelude.{◌≡◌, ℕ, ◌+◌, min, List, length, drop, Some, None, Ok, Err, Option}
use Rattle.std.specs.Prelude.{Result, cond, nat_le, nat_lt}
use Rattle.calculus.specs.declared.limits.TheConstants.{MOST_RUNNING_CELLS}
use Rattle.calculus.specs.declared.cells.TermCell.{TermCell}
use Rattle.finder.specs.declared.rules.Rule.{Rule}
use Rattle.finder.specs.declared.faults.FindFault.{FindFault}
use Rattle.finder.specs.Finding.{answer}
use Rattle.registers.specs.declared.register.Register.{Ghosts}
use Rattle.registers.specs.Meaning.{Meaning, Changes}
use Rattle.stepper.specs.declared.writing.Answer.{Answer}
use Rattle.stepper.specs.declared.writing.Answer.TheVariants.{Nothing}
use Rattle.stepper.specs.Naming.{dropped, names}
use Rattle.stepper.specs.Next.{next_cells}
use Rattle.controller.specs.declared.faults.ControllerFault.{ControllerFault}
use Rattle.controller.specs.declared.faults.ControllerFault.TheVariants.{AtValue, NoRule, TooLong}
use Rattle.controller.specs.declared.faults.Refusal.{Refusal}
use Rattle.registers.specs.Telling.{Told}
use Rattle.controller.specs.Asking.{asked, after_asked}
use Rattle.controller.specs.Faults.{ready_answer, refused}
use Rattle.controller.specs.Letting.{released_all}
use Rattle.controller.specs.Shots.{Held, held}
use Rattle.controller.specs.Tables.{begun_with}
use Rattle.controller.specs.declared.shot.Shot.{Shot}

-- What a step makes: the cells of the next term, and the register.
pub record Made (C : Type 0) : Type 0 where
  pub cells : List TermCell
  pub register : Meaning C

-- the last number of a count of steps
abbrev pub most_steps : ℕ
most_steps = 18446744073709551615

-- the count of the steps made stays at its last number
abbrev pub one_more : ℕ → ℕ
one_more steps = min (steps + 1) most_steps

module _ {C : Type 0} (changes : Changes C) (r : Told C) (cs : List TermCell) where
  -- The register has answered. The next cells are made, and the qubits that they name no more are
  -- let go.
  abbrev pub made : Rule → ℕ → Answer → Made C
  made rule at a = record {
    cells = next_cells cs rule at a;
    register =
        released_all changes (dropped (names cs) (names (next_cells cs rule at a)))
        (after_asked r (drop at cs) changes rule);
  }

  abbrev pub made_or_fault : Rule → ℕ → Result Answer ControllerFault
      → Result (Made C) ControllerFault
  made_or_fault rule at (Ok a) = Ok (made rule at a)
  made_or_fault rule at (Err f) = Err f

  -- The step of a rule at a cell. The next term is counted before the register is asked.
  abbrev pub advanced : Rule → ℕ → Result (Made C) ControllerFault
  advanced rule at =
      cond (nat_le (length cs) at) (Err NoRule)
      (cond (nat_lt MOST_RUNNING_CELLS (length (next_cells cs rule at Nothing))) (Err TooLong)
      (made_or_fault rule at (asked r (drop at cs) rule)))

  -- the step of what the finder answers
  abbrev pub taken : Result (Option (Rule × ℕ)) FindFault → Result (Made C) ControllerFault
  taken (Ok (Some (rule, at))) = advanced rule at
  taken (Ok None) = Err AtValue
  taken (Err f) = Err NoRule

  -- the step of the term that the cells are
  abbrev pub stepped : Result (Made C) ControllerFault
  stepped = taken (answer cs)

-- the shot after a step
abbrev pub held_after : {C : Type 0} → Held → Made C → Held
held_after h t = record { cells = t.cells; kinds = h.kinds; steps = one_more h.steps }

abbrev pub count_made : {C : Type 0} → Result (Made C) ControllerFault → Result ℕ ControllerFault
count_made (Ok t) = Ok (length t.cells)
count_made (Err f) = Err f

-- What a step leaves. All is as it was where it is refused.
abbrev pub StepLeaves : {R : Type 0} (kind : Ghosts R) → Result (Made kind.Content) ControllerFault
    → Shot → Shot → R → R → List TermCell → List TermCell → Type 0
StepLeaves kind (Ok t) shot shot' register register' work work' =
    (held shot' ≡ held_after (held shot) t) × (kind.meaning register' ≡ t.register)
    × (work' ≡ begun_with t.cells work)
StepLeaves kind (Err f) shot shot' register register' work work' =
    (shot' ≡ shot) × (register' ≡ register) × (work' ≡ work)

-- a call of step with a work table of so many cells
abbrev pub once_ready : {A : Type 0} → Result (Unit {0}) ControllerFault → Result A ControllerFault
    → Result A ControllerFault
once_ready (Ok u) r = r
once_ready (Err f) r = Err f

abbrev pub step_made : {C : Type 0} → Changes C → Told C → Held → ℕ
    → Result (Made C) ControllerFault
step_made changes r h room =
    once_ready (ready_answer (length h.cells) room) (stepped changes r h.cells)

-- its answer: the cell count, or the fault with the steps made since the load
abbrev pub placed : {A : Type 0} → ℕ → Result A ControllerFault → Result A Refusal
placed steps (Ok x) = Ok x
placed steps (Err f) = refused f steps

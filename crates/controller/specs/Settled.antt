-- On a settled kind of register, a run is a function of where it starts.
use Rattle.std.specs.Prelude.{◌≡◌, ℕ, zero, suc, ◌+◌, cond, length, Ok, Err, Result}
use Rattle.finder.specs.Finding.{answer}
use Rattle.registers.specs.declared.register.Register.{Ghosts}
use Rattle.registers.specs.Meaning.{Meaning, Changes}
use Rattle.controller.specs.declared.faults.ControllerFault.{ControllerFault}
use Rattle.controller.specs.declared.faults.Refusal.{Refusal}
use Rattle.controller.specs.declared.faults.Stop.{Stop}
use Rattle.controller.specs.declared.faults.Stop.TheVariants.{Value, Budget, Refused}
use Rattle.registers.specs.Telling.{Told, SettledBy}
use Rattle.controller.specs.Faults.{ready_answer, refused}
use Rattle.controller.specs.Meant.{Standing, after_step}
use Rattle.controller.specs.Stepping.{Made, stepped}
use Rattle.controller.specs.Unloading.{is_value}

-- Where a run ends: the steps made, why it stops, and where it then stands.
pub record Ended (C : Type 0) : Type 0 where
  pub made : ℕ
  pub stop : Stop
  pub last : Standing C

-- no step more
abbrev pub ended : {C : Type 0} → Stop → Standing C → Ended C
ended stop a = record { made = 0; stop = stop; last = a }

-- so many steps before
abbrev pub after : {C : Type 0} → ℕ → Ended C → Ended C
after n e = record { made = n + e.made; stop = e.stop; last = e.last }

module _ {C : Type 0} (changes : Changes C) (tells : Meaning C → Told C) where
  -- the step that is due
  abbrev pub step_due : Standing C → Result (Made C) ControllerFault
  step_due a = stepped changes (tells a.register) a.shot.cells

  -- the rest of a run, after the step that is due
  abbrev pub goes_on : (Standing C → Ended C) → Standing C → Result (Made C) ControllerFault
      → Ended C
  goes_on rest a (Ok t) = after 1 (rest (after_step changes a t))
  goes_on rest a (Err f) = ended (Refused f a.shot.steps) a

  -- a run with so many steps left
  unfoldable pub run_from : ℕ → Standing C → Ended C
  run_from zero a = cond (is_value (answer a.shot.cells)) (ended Value a) (ended Budget a)
  run_from (suc left) a =
      cond (is_value (answer a.shot.cells)) (ended Value a)
      (goes_on (run_from left) a (step_due a))

  abbrev pub run_if_ready : ℕ → Standing C → Result (Unit {0}) ControllerFault
      → Result (ℕ × Stop) Refusal × Standing C
  run_if_ready budget a (Ok u) = let e = run_from budget a in (Ok (e.made, e.stop), e.last)
  run_if_ready budget a (Err f) = (refused f a.shot.steps, a)

  -- the answer of a call of run, and where it leaves the controller
  abbrev pub run_of : ℕ → Standing C → Result (ℕ × Stop) Refusal × Standing C
  run_of budget a = run_if_ready budget a (ready_answer (length a.shot.cells) (length a.work))

-- On a settled kind a call of run that leads from one standing to another comes to this.
abbrev pub RunIsSettled : {R : Type 0} (kind : Ghosts R) → ℕ
    → Standing kind.Content → Standing kind.Content → Result (ℕ × Stop) Refusal → Type 0
RunIsSettled kind budget a b result =
    (tells : Meaning kind.Content → Told kind.Content) → SettledBy kind tells
    → (result, b) ≡ run_of kind.changes tells budget a

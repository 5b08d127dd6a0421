-- A call of run, over a kind of register whose answers are a function of what it means.
use Rattle.std.specs.Prelude.{◌≡◌, ℕ, List, Result}
use Rattle.calculus.specs.declared.cells.TermCell.{TermCell}
use Rattle.registers.specs.declared.register.Register.{Ghosts}
use Rattle.registers.specs.Meaning.{Meaning}
use Rattle.registers.specs.Telling.{Told}
use Rattle.controller.specs.declared.control.Controller.{Controller}
use Rattle.controller.specs.declared.faults.Refusal.{Refusal}
use Rattle.controller.specs.declared.faults.Stop.{Stop}
use Rattle.controller.specs.Meant.{Standing, standing}
use Rattle.controller.specs.Settled.{run_of}

module _ {R : Type 0} (kind : Ghosts R) where
  -- what a controller holds, what its register means, and the work table
  abbrev pub stand_of : Controller R kind → List TermCell → Standing kind.Content
  stand_of c work = standing kind c.shot c.register work

  -- The answer, and where the call leads, are those of the run from where the controller was.
  abbrev pub RunIs : (Meaning kind.Content → Told kind.Content) → ℕ → Controller R kind
      → List TermCell → Controller R kind → List TermCell → Result (ℕ × Stop) Refusal → Type 0
  RunIs tells budget old work_old new work_new result =
      (result, stand_of new work_new) ≡ run_of kind.changes tells budget (stand_of old work_old)

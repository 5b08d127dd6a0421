-- The invariant of a controller, that its calls keep it, and which row of the sheet refuses them.
use Rattle.std.specs.Prelude.{◌≡◌, ℕ, Bool, List, Some, Ok, Err, Result}
use Rattle.calculus.specs.declared.cells.TermCell.{TermCell}
use Rattle.calculus.specs.declared.cells.TypeCell.{TypeCell}
use Rattle.registers.specs.declared.register.Register.{Ghosts}
use Rattle.checker.specs.Meaning.{meaning as term_meant}
use Rattle.rows.specs.Members.{Program, Member, load, step}
use Rattle.rows.specs.Refusing.{most_cells, Answers}
use Rattle.controller.specs.Faults.{fault_number, number_refused}
use Rattle.controller.specs.Keeping.{Kept, place_of, KeptBy, LoadKeptBy}
use Rattle.controller.specs.Loading.{LoadPlace}
use Rattle.controller.specs.Shots.{held}
use Rattle.controller.specs.declared.control.Controller.{Controller}
use Rattle.controller.specs.declared.shot.Shot.{Shot}
use Rattle.controller.specs.declared.faults.Refusal.{Refusal}
use Rattle.controller.specs.declared.faults.Stop.{Stop}
use Rattle.controller.specs.declared.faults.Stop.TheVariants.{Value, Budget, Refused}

module _ {R : Type 0} (kind : Ghosts R) where
  abbrev pub IsKept : Controller R kind → Type 0
  IsKept c = Kept kind.changes (held c.shot) (kind.meaning c.register)

  -- a call, of which it is said whether it is refused
  abbrev pub CallKeeps : Member → Controller R kind → Controller R kind → Bool → Type 0
  CallKeeps x c c' refused =
      KeptBy kind.changes kind.meaning x c.shot c.register c'.shot c'.register refused

  -- a load of a program's tables
  abbrev pub LoadKeeps : List TypeCell → List TermCell
      → Controller R kind → Controller R kind → Bool → Type 0
  LoadKeeps types terms c c' refused =
      LoadKeptBy kind.changes kind.meaning types terms
      c.shot c.register c'.shot c'.register refused

  -- Wherever the controller is at a place of a row: the number of the call's refusal is the lowest
  -- whose row holds for the member, and no row holds where the call is not refused.
  abbrev pub CallAnswers : {A : Type 0} → Member → Controller R kind → Result A Refusal → Type 0
  CallAnswers x c result = (k : IsKept c) → Answers (place_of k) x (number_refused result)

  -- the same of a load of a program's tables
  abbrev pub LoadAnswers : List TypeCell → List TermCell → Controller R kind → Result ℕ Refusal
      → Type 0
  LoadAnswers types terms c result =
      (x : Program) × (x.term ≡ term_meant types terms 0) × CallAnswers (load x) c result

  -- the place that a refused load carries
  abbrev pub LoadCarries : List TypeCell → List TermCell → Controller R kind → Result ℕ Refusal
      → Type 0
  LoadCarries types terms c result =
      LoadPlace (kind.meaning c.register).makes (held c.shot) (term_meant types terms 0) result

  -- The step at which a run has stopped is refused by the lowest row that holds for it.
  abbrev pub StopAnsweredBy : Shot → R → Result (ℕ × Stop) Refusal → Type 0
  StopAnsweredBy shot register (Ok (made, Value)) = Unit {0}
  StopAnsweredBy shot register (Ok (made, Budget)) = Unit {0}
  StopAnsweredBy shot register (Ok (made, Refused fault steps)) =
      (k : Kept kind.changes (held shot) (kind.meaning register))
      → Answers (place_of k) (step most_cells) (Some (fault_number fault))
  StopAnsweredBy shot register (Err f) = Unit {0}

  abbrev pub StopAnswers : Controller R kind → Result (ℕ × Stop) Refusal → Type 0
  StopAnswers c result = StopAnsweredBy c.shot c.register result

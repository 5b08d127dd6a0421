-- A controller as a place of a row, and the invariant that every call keeps.
use Rattle.std.specs.Prelude.{◌≡◌, ◌↔◌, Bool, true, List, Some, None, Option}
use Rattle.calculus.specs.declared.cells.TermCell.{TermCell}
use Rattle.calculus.specs.declared.cells.TypeCell.{TypeCell}
use Rattle.calculus.specs.Types.{Ty}
use Rattle.calculus.specs.Terms.{Running}
use Rattle.calculus.specs.Cells.{type_cells, unclaimed}
use Rattle.checker.specs.Meaning.{meaning as term_meant}
use Rattle.finder.specs.Laws.{Means}
use Rattle.registers.specs.Meaning.{Meaning, Changes}
use Rattle.rows.specs.Members.{Program, Member, load}
use Rattle.rows.specs.Places.{Place, New}
use Rattle.rows.specs.Refusing.{Refused}
use Rattle.rows.specs.Doing.{Does}
use Rattle.rows.specs.Rows.{Reached}
use Rattle.controller.specs.Counting.{steps_since_load}
use Rattle.controller.specs.Shots.{Held, held, nothing_held}
use Rattle.controller.specs.declared.shot.Shot.{Shot}

-- Cells that mean the running term and claim nothing, beside those of its loaded type.
pub record Holds (h : Held) (m : Running) (a : Ty) : Type 0 where
  pub means : Means h.cells m
  pub claim_nothing : unclaimed h.cells ≡ h.cells
  pub kinds : h.kinds ≡ type_cells a

-- What is held is nothing, or a running term with its loaded type.
abbrev pub Stands : Held → Option (Running × Ty) → Type 0
Stands h None = h ≡ nothing_held
Stands h (Some (m, a)) = Holds h m a

abbrev pub place : {C : Type 0} → Option (Running × Ty) → Meaning C → Place C
place loaded register = record { loaded = loaded; register = register }

-- The invariant: what is held and what the register means are a place that some row leads to from a
-- new controller. The steps that are held are those of the row since its last load.
pub record Kept {C : Type 0} (changes : Changes C) (h : Held) (r : Meaning C) : Type 0 where
  pub loaded : Option (Running × Ty)
  pub stands : Stands h loaded
  pub start : Place C
  pub is_new : New changes start
  pub reached : Reached changes start (place loaded r)
  pub counts : h.steps ≡ steps_since_load reached

abbrev pub place_of : {C : Type 0} {changes : Changes C} {h : Held} {r : Meaning C}
    → Kept changes h r → Place C
place_of {r = r} k = place k.loaded r

-- A call keeps the invariant. It leads from place to place as the member of a row does, and is
-- refused exactly where the member is.
pub record Keeps {C : Type 0} (changes : Changes C) (x : Member) (h : Held) (r : Meaning C)
    (h' : Held) (r' : Meaning C) (refused : Bool) (k : Kept changes h r) : Type 0 where
  pub after : Kept changes h' r'
  pub does : Does changes (place_of k) x (place_of after)
  pub refusal : (refused ≡ true) ↔ Refused (place_of k) x

-- The same of a controller's shot and register. Wherever it is at a place of a row, the call is the
-- row's next member.
abbrev pub KeptBy : {R C : Type 0} → Changes C → (R → Meaning C) → Member
    → Shot → R → Shot → R → Bool → Type 0
KeptBy changes meaning x shot register shot' register' refused =
    (k : Kept changes (held shot) (meaning register))
    → Keeps changes x (held shot) (meaning register) (held shot') (meaning register') refused k

-- The same of a load: its tables store the program that is loaded.
abbrev pub LoadKeptBy : {R C : Type 0} → Changes C → (R → Meaning C)
    → List TypeCell → List TermCell → Shot → R → Shot → R → Bool → Type 0
LoadKeptBy changes meaning types terms shot register shot' register' refused =
    (x : Program) × (x.term ≡ term_meant types terms 0)
    × KeptBy changes meaning (load x) shot register shot' register' refused

-- What a turn is: a member of a row, or a program that is not accepted.
use Rattle.std.specs.Prelude.{◌≡◌, ℕ, ◌⊎◌, Bool, true, false, List, min, Ok, Err}
use Rattle.calculus.specs.declared.cells.TermCell.{TermCell}
use Rattle.calculus.specs.declared.cells.TypeCell.{TypeCell}
use Rattle.verdict.specs.declared.faults.CheckFault.{CheckFault}
use Rattle.verdict.specs.Faults.{accepted}
use Rattle.checker.specs.Accepting.{program_verdict}
use Rattle.checker.specs.Meaning.{meaning}
use Rattle.registers.specs.declared.register.Register.{Ghosts}
use Rattle.rows.specs.Members.{Program, Member, load, step, run, collect, abandon}
use Rattle.controller.specs.declared.control.Controller.{Controller}
use Rattle.controller.specs.Calls.{CallKeeps, LoadKeeps}
use Rattle.player.specs.declared.turns.Turn.{Turn}
use Rattle.player.specs.declared.turns.Turn.TheVariants.{Load, Step, Run, Collect, Abandon}
use Rattle.player.specs.Stages.{Reply}
use Rattle.player.specs.declared.turns.TurnFault.TheVariants.{NotAccepted, Refused}

-- The lengths of the tables that the turns take their cells from.
pub record Rooms : Type 0 where
  pub work : ℕ
  pub value : ℕ
  pub kinds : ℕ

abbrev pub rooms : ℕ → ℕ → ℕ → Rooms
rooms work value kinds = record { work = work; value = value; kinds = kinds }

-- The turn is this member of a row. A load is of the accepted program that its tables store. No
-- table is longer than its room.
abbrev pub IsMember : Rooms → Turn → Member → Type 0
IsMember r (Load types terms) x =
    (program_verdict types.now terms.now ≡ accepted)
    × (p : Program) × (p.term ≡ meaning types.now terms.now 0) × (x ≡ load p)
IsMember r (Step room) x = x ≡ step (min room r.work)
IsMember r (Run budget room) x = x ≡ run budget (min room r.work)
IsMember r (Collect room kind_room) x = x ≡ collect (min room r.value) (min kind_room r.kinds)
IsMember r Abandon x = x ≡ abandon

-- The program is not accepted, and the reply is the checker's fault.
abbrev pub Unaccepted : List TypeCell → List TermCell → Reply → Type 0
Unaccepted types terms y =
    (f : CheckFault) × (program_verdict types terms ≡ Err f) × (y ≡ Err (NotAccepted f))

-- The turn is no member: it loads a program that is not accepted.
abbrev pub NotPlayed : Turn → Reply → Type 0
NotPlayed (Load types terms) y = Unaccepted types.now terms.now y
NotPlayed (Step room) y = ⊥
NotPlayed (Run budget room) y = ⊥
NotPlayed (Collect room kind_room) y = ⊥
NotPlayed Abandon y = ⊥

-- the reply is that the call was refused
abbrev pub is_refused : Reply → Bool
is_refused (Ok d) = false
is_refused (Err (NotAccepted f)) = false
is_refused (Err (Refused f)) = true

module _ {R : Type 0} (kind : Ghosts R) where
  -- A load by its tables is played: as a member of a row, or nothing is called.
  abbrev pub LoadPlayed : List TypeCell → List TermCell → Controller R kind → Controller R kind
      → Reply → Type 0
  LoadPlayed types terms c c' y =
      ((program_verdict types terms ≡ accepted) × LoadKeeps kind types terms c c' (is_refused y))
      ⊎ (Unaccepted types terms y × (c'.shot ≡ c.shot) × (c'.register ≡ c.register))

  -- A turn is played: as the member that it is, or nothing is called.
  abbrev pub TurnPlayed : Rooms → Turn → Controller R kind → Controller R kind → Reply → Type 0
  TurnPlayed r turn c c' y =
      ((x : Member) × IsMember r turn x × CallKeeps kind x c c' (is_refused y))
      ⊎ (NotPlayed turn y × (c'.shot ≡ c.shot) × (c'.register ≡ c.register))

-- What playing a shot comes to: its text is read, its row is played on a new tape, and the shot is
-- what the replies report.
use Rattle.std.specs.Prelude.{◌≡◌, ℕ, ◌%◌, List, [], ◌∷◌, map, replicate, take, None, Ok, Err}
use Rattle.std.specs.Prelude.{Option, Result}
use Rattle.std.specs.List.{range_with_len}
use Rattle.calculus.specs.declared.limits.TheConstants.{MOST_TYPE_CELLS, MOST_TERM_CELLS}
use Rattle.calculus.specs.declared.limits.TheConstants.{MOST_RUNNING_CELLS}
use Rattle.calculus.specs.Cells.{blank, kind_cell}
use Rattle.calculus.specs.declared.cells.TermCell.{TermCell}
use Rattle.calculus.specs.declared.cells.TypeCell.{TypeCell}
use Rattle.registers.specs.Journal.{new_tape, tape_meaning, tape_reel}
use Rattle.registers.specs.declared.register.Register.{Ghosts}
use Rattle.registers.specs.declared.tape.Tape.{Tape}
use Rattle.registers.specs.declared.journal.Entry.TheVariants.{Empty}
use Rattle.reader.specs.Faults.{number_of as read_number}
use Rattle.reader.specs.Reading.{reading_of}
use Rattle.reader.specs.declared.faults.ReadFault.{ReadFault}
use Rattle.controller.specs.Faults.{fault_number}
use Rattle.controller.specs.Shots.{nothing_held}
use Rattle.verdict.specs.Faults.{number_of as check_number}
use Rattle.player.specs.Playing.{RowPlayed}
use Rattle.player.specs.Stages.{Reply, Stage, stage}
use Rattle.player.specs.declared.turns.Turn.{Turn}
use Rattle.player.specs.declared.turns.Turn.TheVariants.{Load, Run, Collect}
use Rattle.player.specs.declared.turns.TurnFault.{TurnFault}
use Rattle.player.specs.declared.turns.TurnFault.TheVariants.{NotAccepted, Refused as RefusedCall}
use Rattle.listing.specs.Replies.{Reports}
use Rattle.listing.specs.declared.replies.RunReport.{RunReport}
use Rattle.listing.specs.declared.shots.Shot.{Shot}
use Rattle.listing.specs.declared.shots.Shot.TheVariants.{Refused, Ran}

-- how many qubits a shot's tape holds at most, how many pulses it has, and how many steps a shot
-- makes at most
abbrev pub most_qubits : ℕ
most_qubits = 8

abbrev pub most_pulses : ℕ
most_pulses = 64

abbrev pub most_steps : ℕ
most_steps = 1000

-- outcome k is k mod 2
abbrev pub alternating : ℕ → List ℕ
alternating count = map (λ k. k % 2) (range_with_len 0 count)

-- refused by the checker, at a cell, or by a call
abbrev pub shot_of_fault : TurnFault → Shot
shot_of_fault (NotAccepted f) = Refused (check_number f.reason) f.cell
shot_of_fault (RefusedCall r) = Refused (fault_number r.fault) r.place

-- The turn is the load of these cells.
abbrev pub Loads : List TypeCell → List TermCell → Turn → Type 0
Loads types terms (Load t m) = (t.now ≡ types) × (m.now ≡ terms)
Loads types terms other = ⊥

-- The shot that the replies report, from where they led: the value and its type are at the front of
-- their tables, as many cells as were collected.
abbrev pub shot_of_report : Result RunReport TurnFault → Stage Tape → Shot
shot_of_report (Err f) end = shot_of_fault f
shot_of_report (Ok r) end =
    Ran r.steps r.stop (record { items = take r.cells end.value })
    (record { items = take r.kind_cells end.kinds }) (tape_reel end.register).entries

-- a tape and tables as a shot begins with them
abbrev pub fresh_stage : Tape → Stage Tape
fresh_stage tape =
    stage nothing_held tape (replicate MOST_RUNNING_CELLS blank)
    (replicate MOST_RUNNING_CELLS blank) (replicate MOST_TYPE_CELLS (kind_cell 0))

module _ (kind : Ghosts Tape) where
  -- A load, a run of at most 1,000 steps and a collect are played on a tape, with these replies.
  abbrev pub RowOfShot : Tape → Turn → List (Option Reply) → Stage Tape → Type 0
  RowOfShot tape load replies end =
      RowPlayed kind (fresh_stage tape) (load ∷ Run most_steps MOST_RUNNING_CELLS
      ∷ Collect MOST_RUNNING_CELLS MOST_TYPE_CELLS ∷ [])
      (replicate 3 None) replies end

  -- The row of these cells is played on a new tape of eight qubits and 64 pulses, and the shot is
  -- what its replies report.
  pub record CellsPlayed (types : List TypeCell) (terms : List TermCell) (s : Shot) : Type 0 where
    pub load : Turn
    pub loads : Loads types terms load
    pub tape : Tape
    pub is_new : tape_meaning tape
        ≡ new_tape most_qubits (alternating most_pulses) (replicate most_pulses Empty)
    pub loaded : Option Reply
    pub run : Option Reply
    pub collected : Option Reply
    pub end : Stage Tape
    pub played : RowOfShot tape load (loaded ∷ run ∷ collected ∷ []) end
    pub report : Result RunReport TurnFault
    pub reports : Reports loaded run collected report
    pub shot : s ≡ shot_of_report report end

  -- A text that is no stored program is refused by the reader; the cells of any other are played.
  abbrev pub ReadAndPlayed : Result (ℕ × ℕ) ReadFault → List TypeCell → List TermCell → Shot
      → Type 0
  ReadAndPlayed (Err f) types terms s = s ≡ Refused (read_number f.reason) f.line
  ReadAndPlayed (Ok n) types terms s = CellsPlayed (take n.0 types) (take n.1 terms) s

  abbrev pub TextPlayed : List ℕ → Shot → Type 0
  TextPlayed text s = let r = reading_of text in ReadAndPlayed r.answer r.types r.terms s

-- The listing of a text, as a function: the text is read, and its program is checked, loaded on a
-- new tape and run.
use Rattle.std.specs.Prelude.{ℕ, List, [], ◌∷◌, replicate, take, Ok, Err, Result}
use Rattle.calculus.specs.declared.limits.TheConstants.{MOST_RUNNING_CELLS}
use Rattle.calculus.specs.Cells.{blank}
use Rattle.calculus.specs.declared.cells.TermCell.{TermCell}
use Rattle.calculus.specs.declared.cells.TypeCell.{TypeCell}
use Rattle.reader.specs.Faults.{number_of as read_number}
use Rattle.reader.specs.declared.faults.ReadFault.{ReadFault}
use Rattle.verdict.specs.Faults.{number_of as check_number}
use Rattle.verdict.specs.declared.faults.CheckFault.{CheckFault}
use Rattle.checker.specs.Accepting.{program_verdict}
use Rattle.registers.specs.Meaning.{after_clear}
use Rattle.registers.specs.Journal.{Reel, new_tape, tape_changes, tape_makes}
use Rattle.registers.specs.Telling.{tape_tells}
use Rattle.registers.specs.declared.journal.Entry.{Entry}
use Rattle.registers.specs.declared.journal.Entry.TheVariants.{Empty}
use Rattle.controller.specs.declared.faults.Refusal.{Refusal}
use Rattle.controller.specs.declared.faults.Stop.{Stop}
use Rattle.controller.specs.declared.faults.Stop.TheVariants.{Value, Budget, Refused}
use Rattle.controller.specs.Faults.{fault_number}
use Rattle.controller.specs.Loading.{load_answer}
use Rattle.controller.specs.Meant.{Standing}
use Rattle.controller.specs.Settled.{run_of}
use Rattle.controller.specs.Shots.{nothing_held, program_held}
use Rattle.listing.specs.Lines.{text_of}
use Rattle.listing.specs.Listing.{before_empty, refusal_line, run_lines}
use Rattle.reader.specs.Reading.{reading_of}
use Rattle.listing.specs.Playing.{alternating, most_qubits, most_pulses, most_steps}

-- the lines of a listing, each by its fields
abbrev pub Lines : Type 0
Lines = List (List (List ℕ))

-- Where a run begins: the program is loaded on a new tape of eight qubits and 64 pulses, whose
-- outcomes alternate, and the work table is new.
abbrev pub start_of_run : List TypeCell → List TermCell → Standing Reel
start_of_run types terms = record {
  shot = program_held types terms;
  register = after_clear tape_changes
      (new_tape most_qubits (alternating most_pulses) (replicate most_pulses Empty));
  work = replicate MOST_RUNNING_CELLS blank;
}

-- the pulses that were spent
abbrev pub pulses_of : Standing Reel → List Entry
pulses_of last = before_empty last.register.content.entries

abbrev pub lines_of_refusal : Refusal → Lines
lines_of_refusal f = refusal_line (fault_number f.fault) f.place ∷ []

-- The lines of a run, by where it ends: the cells of the loaded type and of the term are told only
-- of a value.
abbrev pub lines_of_run : Result (ℕ × Stop) Refusal × Standing Reel → Lines
lines_of_run (Ok (steps, Value), last) =
    run_lines steps Value last.shot.kinds last.shot.cells (pulses_of last)
lines_of_run (Ok (steps, Budget), last) = run_lines steps Budget [] [] (pulses_of last)
lines_of_run (Ok (steps, Refused fault place), last) =
    run_lines steps (Refused fault place) [] [] (pulses_of last)
lines_of_run (Err f, last) = lines_of_refusal f

module _ (types : List TypeCell) (terms : List TermCell) where
  -- the lines of a program that is loaded, of one that is checked, and of one in cells
  abbrev pub lines_after_load : Result ℕ Refusal → Lines
  lines_after_load (Ok n) =
      lines_of_run (run_of tape_changes tape_tells most_steps (start_of_run types terms))
  lines_after_load (Err f) = lines_of_refusal f

  abbrev pub lines_after_check : Result (Unit {0}) CheckFault → Lines
  lines_after_check (Ok u) = lines_after_load (load_answer tape_makes nothing_held terms)
  lines_after_check (Err f) = refusal_line (check_number f.reason) f.cell ∷ []

  abbrev pub lines_of_cells : Lines
  lines_of_cells = lines_after_check (program_verdict types terms)

-- the lines of a text that is read, and of any
abbrev pub lines_after_read : Result (ℕ × ℕ) ReadFault → List TypeCell → List TermCell → Lines
lines_after_read (Ok n) types terms = lines_of_cells (take n.0 types) (take n.1 terms)
lines_after_read (Err f) types terms = refusal_line (read_number f.reason) f.line ∷ []

abbrev pub lines_of_text : List ℕ → Lines
lines_of_text text = let r = reading_of text in lines_after_read r.answer r.types r.terms

-- the listing of a text
abbrev pub listing_of : List ℕ → List ℕ
listing_of text = text_of (lines_of_text text)

-- the listing of an input, of which no byte after the 16,384th is read
abbrev pub most_bytes : ℕ
most_bytes = 16384

abbrev pub listing_of_input : List ℕ → List ℕ
listing_of_input all = listing_of (take most_bytes all)

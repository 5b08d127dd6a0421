-- A listing read back: cut at byte 10 and at blanks, its text gives its lines and their fields.
use Rattle.std.specs.Prelude.{◌≡◌, ℕ, ◌^◌, ◌<◌, List, [], ◌∷◌, ◌++◌, map, length}
use Rattle.std.specs.List.{AllByRecursion}
use Rattle.calculus.specs.declared.cells.TermCell.{TermCell}
use Rattle.calculus.specs.declared.cells.TypeCell.{TypeCell}
use Rattle.controller.specs.declared.faults.Stop.{Stop}
use Rattle.controller.specs.declared.faults.Stop.TheVariants.{Value, Budget, Refused}
use Rattle.reader.specs.Pieces.{pieces}
use Rattle.reader.specs.Stored.{KindKnown, OpKnown}
use Rattle.registers.specs.declared.journal.Entry.{Entry}
use Rattle.registers.specs.declared.journal.Entry.TheVariants.{Empty, Prepare, Gate, Read}
use Rattle.listing.specs.Lines.{text_of}
use Rattle.listing.specs.Listing.{run_lines, refusal_line}

-- the lines of a text and their fields, with what follows the last byte 10 as one more
abbrev pub cut : List ℕ → List (List (List ℕ))
cut text = map (pieces 32) (pieces 10 text)

-- a number of 64 bits
abbrev pub Small : ℕ → Type 0
Small n = n < 2 ^ 64

abbrev pub EntrySmall : Entry → Type 0
EntrySmall Empty = Unit {0}
EntrySmall (Prepare handle bit) = Small handle
EntrySmall (Gate gate on) = AllByRecursion Small on
EntrySmall (Read handle outcome) = Small handle

abbrev pub StopSmall : Stop → Type 0
StopSmall Value = Unit {0}
StopSmall Budget = Unit {0}
StopSmall (Refused fault steps) = Small steps

-- letters of the calculus, and numbers of 64 bits
pub record Spelled (steps : ℕ) (stop : Stop) (kinds : List TypeCell) (value : List TermCell)
    (journal : List Entry) : Type 0 where
  pub steps_small : Small steps
  pub stop_small : StopSmall stop
  pub kinds_known : AllByRecursion KindKnown kinds
  pub value_known : AllByRecursion OpKnown value
  pub entries_small : AllByRecursion EntrySmall journal
  pub pulses_small : Small (length journal)

pub record ReadBack : Type 0 where
  -- nothing follows the last line
  pub runs : (steps : ℕ) (stop : Stop) (kinds : List TypeCell) (value : List TermCell)
      (journal : List Entry) → Spelled steps stop kinds value journal
      → let lines = run_lines steps stop kinds value journal in
      cut (text_of lines) ≡ lines ++ (([] ∷ []) ∷ [])
  pub refusals : (number place : ℕ) → Small number → Small place
      → let line = refusal_line number place in
      cut (text_of (line ∷ [])) ≡ line ∷ (([] ∷ []) ∷ [])

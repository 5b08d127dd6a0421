-- The lines of a listing: steps and stop, the value with its type, the pulses in order, and a
-- refusal last.
use Rattle.std.specs.Prelude.{ℕ, ◌-◌, Bool, true, false, List, [], ◌∷◌, ◌++◌, map, length, take}
use Rattle.std.specs.Prelude.{replicate, codes, decimal}
use Rattle.std.specs.Char.{encode_utf8}
use Rattle.std.specs.List.{enumerate_from}
use Rattle.calculus.specs.Gates.{number_of, operands_of}
use Rattle.calculus.specs.declared.cells.TermCell.{TermCell}
use Rattle.calculus.specs.declared.cells.TypeCell.{TypeCell}
use Rattle.controller.specs.Faults.{fault_number}
use Rattle.controller.specs.declared.faults.Stop.{Stop}
use Rattle.controller.specs.declared.faults.Stop.TheVariants.{Value, Budget, Refused as StepRefused}
use Rattle.registers.specs.declared.journal.Entry.{Entry}
use Rattle.registers.specs.declared.journal.Entry.TheVariants.{Empty, Prepare, Gate, Read}
use Rattle.listing.specs.declared.shots.Shot.{Shot}
use Rattle.listing.specs.declared.shots.Shot.TheVariants.{Refused, Ran}
use Rattle.listing.specs.Lines.{text_of}

abbrev pub code_of : Stop → ℕ
code_of Value = 0
code_of Budget = 1
code_of (StepRefused fault steps) = 2

-- S: the steps made, and why the run stopped
abbrev pub steps_line : ℕ → Stop → List (List ℕ)
steps_line steps stop = codes "S" ∷ decimal steps ∷ decimal (code_of stop) ∷ []

-- T: a kind
abbrev pub kind_line : TypeCell → List (List ℕ)
kind_line c = codes "T" ∷ encode_utf8 c.kind ∷ []

-- M: an op and its argument
abbrev pub op_line : TermCell → List (List ℕ)
op_line c = codes "M" ∷ encode_utf8 c.op ∷ decimal c.argument ∷ []

-- X: the number of a refusal, and its place
abbrev pub refusal_line : ℕ → ℕ → List (List ℕ)
refusal_line number place = codes "X" ∷ decimal number ∷ decimal place ∷ []

abbrev pub digit_of : Bool → ℕ
digit_of true = 1
digit_of false = 0

-- what a pulse did: the call's letter and its numbers, of a gate as many handles as it takes
abbrev pub call : Entry → List (List ℕ)
call Empty = []
call (Prepare handle bit) = codes "P" ∷ decimal handle ∷ decimal (digit_of bit) ∷ []
call (Gate gate on) =
    codes "G" ∷ decimal (number_of gate) ∷ map decimal (take (operands_of gate) on)
call (Read handle outcome) = codes "R" ∷ decimal handle ∷ decimal (digit_of outcome) ∷ []

-- a dash fills each of the five fields of a call that is empty
abbrev pub with_dashes : List (List ℕ) → List (List ℕ)
with_dashes fields = fields ++ replicate (5 - length fields) (codes "-")

-- J: a pulse, and its call
abbrev pub pulse_line : ℕ → Entry → List (List ℕ)
pulse_line pulse entry = codes "J" ∷ decimal pulse ∷ with_dashes (call entry)

-- pulses count from 0
abbrev pub pulse_lines : List Entry → List (List (List ℕ))
pulse_lines entries = map (λ p. pulse_line p.0 p.1) (enumerate_from 0 entries)

-- a refused step ends the listing
abbrev pub stop_lines : Stop → List (List (List ℕ))
stop_lines Value = []
stop_lines Budget = []
stop_lines (StepRefused fault steps) = refusal_line (fault_number fault) steps ∷ []

-- the lines of a run
abbrev pub run_lines : ℕ → Stop → List TypeCell → List TermCell → List Entry
    → List (List (List ℕ))
run_lines steps stop kinds value pulses =
    steps_line steps stop ∷ (map kind_line kinds
    ++ (map op_line value ++ (pulse_lines pulses ++ stop_lines stop)))

-- the entries before the first that no pulse filled
abbrev pub before_empty : List Entry → List Entry
before_empty [] = []
before_empty (Empty ∷ es) = []
before_empty (e ∷ es) = e ∷ before_empty es

-- a refusal before the load stands alone
abbrev pub listing_lines : Shot → List (List (List ℕ))
listing_lines (Refused number place) = refusal_line number place ∷ []
listing_lines (Ran steps stop value kinds journal) =
    run_lines steps stop kinds.items value.items (before_empty journal)

abbrev pub listing_text : Shot → List ℕ
listing_text shot = text_of (listing_lines shot)

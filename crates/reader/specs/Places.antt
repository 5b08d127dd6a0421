-- Where a read stands, from what the reader keeps of it.
use Rattle.std.specs.Prelude.{ℕ, List, Ok, Err, Result}
use Rattle.calculus.specs.declared.cells.TermCell.{TermCell}
use Rattle.calculus.specs.declared.cells.TypeCell.{TypeCell}
use Rattle.reader.specs.declared.cells.Front.{Front}
use Rattle.reader.specs.declared.faults.ReadReason.{ReadReason}
use Rattle.reader.specs.declared.sections.Section.{Section}
use Rattle.reader.specs.Lines.{said}
use Rattle.reader.specs.Reading.{Left, Place, line_read}

-- its section, and the counts of the cells
abbrev pub place_of : {m n : ℕ} → Section → Front TypeCell m → Front TermCell n → Place
place_of s ts ms = record { section = s; kinds = ts.count; ops = ms.count }

-- what a line leaves, read where s stands
abbrev pub line_after : {m n : ℕ} → Section → Front TypeCell m → Front TermCell n → List ℕ
    → Left (Result Place ReadReason)
line_after s ts ms line = line_read (place_of s ts ms) (said line) ts.cells.now ms.cells.now

-- the place after an accepted line, or why it is refused
abbrev pub place_after : {m n : ℕ} → Result Section ReadReason → Front TypeCell m
    → Front TermCell n → Result Place ReadReason
place_after (Ok s) ts ms = Ok (place_of s ts ms)
place_after (Err e) ts ms = Err e

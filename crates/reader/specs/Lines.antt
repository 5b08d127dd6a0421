-- What a line is, by its fields, and in which section it is allowed.
use Rattle.std.specs.Prelude.{ℕ, cond, List, [], ◌∷◌, Ok, Err, Result}
use Rattle.std.specs.Str.{bytes_eq}
use Rattle.reader.specs.declared.faults.ReadReason.{ReadReason}
use Rattle.reader.specs.declared.faults.ReadReason.TheVariants as reason
use Rattle.reader.specs.declared.lines.Record.{Record}
use Rattle.reader.specs.declared.lines.Record.TheVariants.{Header, Kind, Term, Counts, Other}
use Rattle.reader.specs.declared.sections.Section.{Section}
use Rattle.reader.specs.declared.sections.Section.TheVariants as section
use Rattle.reader.specs.Cells.{two_numbers}
use Rattle.reader.specs.Pieces.{pieces}

-- `QL`, byte 9, `1`
abbrev pub header_line : List ℕ
header_line = 81 ∷ 76 ∷ 9 ∷ 49 ∷ []

-- a line by its form: the header, a letter with the right number of fields, or none of these
pub data Said : Type 0 where
  header : Said
  kind : List ℕ → Said
  term : List ℕ → List ℕ → List ℕ → Said
  counts : List ℕ → List ℕ → Said
  other : Said

-- `T` has one field more, `E` two and `M` three
abbrev pub said_fields : List (List ℕ) → Said
said_fields [] = other
said_fields (l ∷ []) = other
said_fields (l ∷ f ∷ []) = cond (bytes_eq l (84 ∷ [])) (kind f) other
said_fields (l ∷ f ∷ g ∷ []) = cond (bytes_eq l (69 ∷ [])) (counts f g) other
said_fields (l ∷ f ∷ g ∷ h ∷ []) = cond (bytes_eq l (77 ∷ [])) (term f g h) other
said_fields (l ∷ f ∷ g ∷ h ∷ i ∷ more) = other

-- what a line is, byte 9 parting its fields
abbrev pub said : List ℕ → Said
said line = cond (bytes_eq line header_line) header (said_fields (pieces 9 line))

-- the same of a record, whose fields are parts of the text
abbrev pub said_by : Record → Said
said_by Header = header
said_by (Kind f) = kind f.now
said_by (Term f g h) = term f.now g.now h.now
said_by (Counts f g) = counts f.now g.now
said_by Other = other

-- the section past an end line, from its counts
abbrev pub ended : Result (ℕ × ℕ) ReadReason → Result Section ReadReason
ended (Err e) = Err e
ended (Ok n) = Ok (section.End n.0 n.1)

-- kinds come before ops, then the end line, and after it nothing
abbrev pub section_after : Section → Said → Result Section ReadReason
section_after section.Header header = Ok section.Types
section_after section.Header (kind f) = Err reason.Header
section_after section.Header (term f g h) = Err reason.Header
section_after section.Header (counts f g) = Err reason.Header
section_after section.Header other = Err reason.Header
section_after section.Types header = Err reason.Line
section_after section.Types (kind f) = Ok section.Types
section_after section.Types (term f g h) = Ok section.Terms
section_after section.Types (counts f g) = ended (two_numbers f g)
section_after section.Types other = Err reason.Line
section_after section.Terms header = Err reason.Line
section_after section.Terms (kind f) = Err reason.Line
section_after section.Terms (term f g h) = Ok section.Terms
section_after section.Terms (counts f g) = ended (two_numbers f g)
section_after section.Terms other = Err reason.Line
section_after (section.End k o) s = Err reason.Line

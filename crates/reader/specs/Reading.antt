-- How a stored program is read: line by line, to an answer and both tables.
use Rattle.std.specs.Prelude.{ℕ, ◌+◌, ◌-◌, Bool, cond, ◌&&◌, List, [], ◌∷◌, replicate, ◌==◌}
use Rattle.std.specs.Prelude.{Ok, Err, Result}
use Rattle.calculus.specs.declared.limits.TheConstants.{MOST_TYPE_CELLS, MOST_TERM_CELLS}
use Rattle.calculus.specs.Cells.{blank}
use Rattle.calculus.specs.declared.cells.TermCell.{TermCell}
use Rattle.calculus.specs.declared.cells.TypeCell.{TypeCell}
use Rattle.reader.specs.declared.faults.ReadFault.{ReadFault}
use Rattle.reader.specs.declared.faults.ReadReason.{ReadReason}
use Rattle.reader.specs.declared.faults.ReadReason.TheVariants as reason
use Rattle.reader.specs.declared.sections.Section.{Section}
use Rattle.reader.specs.declared.sections.Section.TheVariants as section
use Rattle.reader.specs.Cells.{kind_cell, op_cell, next_place, with_cell}
use Rattle.reader.specs.Lines.{Said, header, kind, term, counts, other, said, section_after}
use Rattle.reader.specs.Pieces.{pieces}

-- what a call leaves: its answer and both tables
pub record Left (X : Type 0) : Type 0 where
  pub answer : X
  pub types : List TypeCell
  pub terms : List TermCell

-- the same, from its parts
abbrev pub left : {X : Type 0} → X → List TypeCell → List TermCell → Left X
left x ts ms = record { answer = x; types = ts; terms = ms }

-- where a read stands: its section and the cells so far
pub record Place : Type 0 where
  pub section : Section
  pub kinds : ℕ
  pub ops : ℕ

-- a read begins in the header section, with no cell
abbrev pub start : Place
start = record { section = section.Header; kinds = 0; ops = 0 }

-- the place, once a kind cell has its own
abbrev pub to_kinds : Place → Result ℕ ReadReason → Result Place ReadReason
to_kinds p (Err e) = Err e
to_kinds p (Ok n) = Ok (record { section = p.section; kinds = n; ops = p.ops })

-- a kind line's cell goes to the place after the earlier ones, if there is room
abbrev pub with_kind : Place → Result TypeCell ReadReason → List TypeCell → List TermCell
    → Left (Result Place ReadReason)
with_kind p (Err e) ts ms = left (Err e) ts ms
with_kind p (Ok c) ts ms =
    left (to_kinds p (next_place MOST_TYPE_CELLS ts p.kinds))
    (with_cell MOST_TYPE_CELLS ts p.kinds c) ms

-- the place, once an op cell has its own
abbrev pub to_ops : Place → Result ℕ ReadReason → Result Place ReadReason
to_ops p (Err e) = Err e
to_ops p (Ok n) = Ok (record { section = p.section; kinds = p.kinds; ops = n })

-- and so does an op line's
abbrev pub with_op : Place → Result TermCell ReadReason → List TypeCell → List TermCell
    → Left (Result Place ReadReason)
with_op p (Err e) ts ms = left (Err e) ts ms
with_op p (Ok c) ts ms =
    left (to_ops p (next_place MOST_TERM_CELLS ms p.ops)) ts
    (with_cell MOST_TERM_CELLS ms p.ops c)

-- a line that its section allows
abbrev pub allowed_line : Place → Said → List TypeCell → List TermCell
    → Left (Result Place ReadReason)
allowed_line p header ts ms = left (Ok p) ts ms
allowed_line p (kind f) ts ms = with_kind p (kind_cell f) ts ms
allowed_line p (term f g h) ts ms = with_op p (op_cell f g h) ts ms
allowed_line p (counts f g) ts ms = left (Ok p) ts ms
allowed_line p other ts ms = left (Ok p) ts ms

-- a line in a section that allows it, or not
abbrev pub line_in : Place → Result Section ReadReason → Said → List TypeCell → List TermCell
    → Left (Result Place ReadReason)
line_in p (Err e) s ts ms = left (Err e) ts ms
line_in p (Ok sec) s ts ms =
    allowed_line (record { section = sec; kinds = p.kinds; ops = p.ops }) s ts ms

-- a line, ended by byte 10
abbrev pub line_read : Place → Said → List TypeCell → List TermCell → Left (Result Place ReadReason)
line_read p s ts ms = line_in p (section_after p.section s) s ts ms

-- a refusal at a line
abbrev pub fault : {X : Type 0} → ReadReason → ℕ → Result X ReadFault
fault e line = Err (record { reason = e; line = line })

-- whether these are the counts of the cells
abbrev pub agreeing : ℕ → ℕ → Place → Bool
agreeing k o p = k == p.kinds && o == p.ops

-- after the end line: nothing more, and its counts are those of the cells
abbrev closed_by : ℕ → ℕ → List ℕ → ℕ → Place → Result (ℕ × ℕ) ReadFault
closed_by k o [] due p = cond (agreeing k o p) (Ok (p.kinds, p.ops)) (fault reason.End (due - 1))
closed_by k o (b ∷ bs) due p = fault reason.Line due

-- the same, by the section: only after the end line may the text end
abbrev closed_in : Section → List ℕ → ℕ → Place → Result (ℕ × ℕ) ReadFault
closed_in section.Header rest due p = fault reason.End due
closed_in section.Types rest due p = fault reason.End due
closed_in section.Terms rest due p = fault reason.End due
closed_in (section.End k o) rest due p = closed_by k o rest due p

-- the verdict on what stands after the last byte 10, where this line would be due
abbrev pub closed : List ℕ → ℕ → Place → Result (ℕ × ℕ) ReadFault
closed rest due p = closed_in p.section rest due p

-- what a read leaves
abbrev pub Outcome : Type 0
Outcome = Left (Result (ℕ × ℕ) ReadFault)

-- the end of a read at a fault, or more of it
abbrev pub by_answer : ℕ → Result Place ReadReason → List TypeCell → List TermCell
    → (Place → List TypeCell → List TermCell → Outcome) → Outcome
by_answer due (Err e) ts ms more = left (fault e due) ts ms
by_answer due (Ok p) ts ms more = more p ts ms

-- a refused line ends the read, any other leads to the next
abbrev pub after_line : ℕ → Left (Result Place ReadReason)
    → (Place → List TypeCell → List TermCell → Outcome) → Outcome
after_line due l more = by_answer due l.answer l.types l.terms more

-- the ended lines, from the line that is due, and what stands after them
abbrev pub reads : List (List ℕ) → ℕ → Place → List TypeCell → List TermCell → Outcome
reads [] due p ts ms = left (closed [] due p) ts ms
reads (rest ∷ []) due p ts ms = left (closed rest due p) ts ms
reads (line ∷ next ∷ lines) due p ts ms =
    after_line due (line_read p (said line) ts ms) (reads (next ∷ lines) (due + 1))

-- what reading a text leaves
abbrev pub reading : List ℕ → List TypeCell → List TermCell → Outcome
reading text ts ms = reads (pieces 10 text) 1 start ts ms

-- what is read of a text into new tables
abbrev pub reading_of : List ℕ → Outcome
reading_of text =
    reading text (replicate MOST_TYPE_CELLS (record { kind = 0 }))
    (replicate MOST_TERM_CELLS blank)

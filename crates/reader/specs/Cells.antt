-- The cells that fields say, and the room for them.
use Rattle.std.specs.Prelude.{ℕ, ◌+◌, Bool, cond, ◌&&◌, nat_lt, List, [], ◌∷◌, length, slice_set}
use Rattle.std.specs.Prelude.{is_some, Some, None, Ok, Err, Option, Result}
use Rattle.calculus.specs.declared.cells.TermCell.{TermCell}
use Rattle.calculus.specs.declared.cells.TypeCell.{TypeCell}
use Rattle.calculus.specs.Letters.{letter, shape_of, kind_parts_of}
use Rattle.reader.specs.declared.faults.ReadReason.{ReadReason}
use Rattle.reader.specs.declared.faults.ReadReason.TheVariants.{Line, Number, Full}
use Rattle.reader.specs.Numbers.{number_in}

-- the letters of the calculus
abbrev pub is_kind : ℕ → Bool
is_kind k = is_some (kind_parts_of k)

-- an op letter, `q` among them
abbrev pub is_op : ℕ → Bool
is_op o = is_some (shape_of (letter o))

-- the letter that a field of one byte is
abbrev pub letter_in : List ℕ → Option ℕ
letter_in [] = None
letter_in (b ∷ []) = Some b
letter_in (b ∷ c ∷ bs) = None

-- the cell of a letter that is a kind
abbrev pub kind_with : Option ℕ → Result TypeCell ReadReason
kind_with None = Err Line
kind_with (Some k) = cond (is_kind k) (Ok (record { kind = k })) (Err Line)

-- the cell of a kind field
abbrev pub kind_cell : List ℕ → Result TypeCell ReadReason
kind_cell f = kind_with (letter_in f)

-- two numbers, where both fields are some
abbrev pub both : Option ℕ → Option ℕ → Result (ℕ × ℕ) ReadReason
both None n = Err Number
both (Some m) None = Err Number
both (Some m) (Some n) = Ok (m, n)

-- the numbers of two fields
abbrev pub two_numbers : List ℕ → List ℕ → Result (ℕ × ℕ) ReadReason
two_numbers f g = both (number_in f) (number_in g)

-- the cell of an op with its numbers
abbrev pub op_at : ℕ → Result (ℕ × ℕ) ReadReason → Result TermCell ReadReason
op_at o (Err e) = Err e
op_at o (Ok n) = Ok (record { op = o; argument = n.0; claim = n.1 })

-- the same of a letter that is an op
abbrev pub op_with : Option ℕ → Result (ℕ × ℕ) ReadReason → Result TermCell ReadReason
op_with None n = Err Line
op_with (Some o) n = cond (is_op o) (op_at o n) (Err Line)

-- the cell of an op field, an argument and a claim
abbrev pub op_cell : List ℕ → List ℕ → List ℕ → Result TermCell ReadReason
op_cell f g h = op_with (letter_in f) (two_numbers g h)

-- whether a place is within a table and below a limit
abbrev pub has_room : {T : Type 0} → ℕ → List T → ℕ → Bool
has_room most table at = nat_lt at most && nat_lt at (length table)

-- the place after that of a cell which goes into a table
abbrev pub next_place : {T : Type 0} → ℕ → List T → ℕ → Result ℕ ReadReason
next_place most table at = cond (has_room most table at) (Ok (at + 1)) (Err Full)

-- the table with the cell, if there is room
abbrev pub with_cell : {T : Type 0} → ℕ → List T → ℕ → T → List T
with_cell most table at cell = cond (has_room most table at) (slice_set table at cell) table

-- the count after an accepted cell, or why it is refused
abbrev pub count_after : Result (Unit {0}) ReadReason → ℕ → Result ℕ ReadReason
count_after (Ok u) n = Ok n
count_after (Err e) n = Err e

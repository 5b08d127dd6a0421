-- The sheet of the reader's refusals by lines, one constructor to a case, and the order in which
-- they are tried.
use Rattle.std.specs.Prelude.{◌≡◌, ◌≢◌, ℕ, ◌+◌, ◌<◌, ◌≤◌, Bool, true, false, ◌⊎◌, ◌↔◌}
use Rattle.std.specs.Prelude.{List, [], ◌∷◌, length, take, Some, None, Ok, Err, Result}
use Rattle.std.specs.List.{count_by, slice_get}
use Rattle.calculus.specs.declared.limits.TheConstants.{MOST_TYPE_CELLS, MOST_TERM_CELLS}
use Rattle.calculus.specs.declared.cells.TermCell.{TermCell}
use Rattle.calculus.specs.declared.cells.TypeCell.{TypeCell}
use Rattle.reader.specs.Cells.{is_kind, is_op}
use Rattle.reader.specs.Lines.{Said, header, kind, term, counts, other, said, header_line}
use Rattle.reader.specs.Numbers.{number_in}
use Rattle.reader.specs.Pieces.{pieces}
use Rattle.reader.specs.Reading.{reading}
use Rattle.reader.specs.declared.faults.ReadFault.{ReadFault}
use Rattle.reader.specs.declared.faults.ReadReason.{ReadReason}
use Rattle.reader.specs.declared.faults.ReadReason.TheVariants as reason

-- What is tested of a line, in the reader's order: 15, 11, 12, 13 and 14, and 15 again for the
-- counts.
pub data Test : Type 0 where
  line_end whole_header form numbers room agreement : Test

abbrev pub reason_of : Test → ReadReason
reason_of line_end = reason.End
reason_of whole_header = reason.Header
reason_of form = reason.Line
reason_of numbers = reason.Number
reason_of room = reason.Full
reason_of agreement = reason.End

abbrev pub order_of : Test → ℕ
order_of line_end = 0
order_of whole_header = 1
order_of form = 2
order_of numbers = 3
order_of room = 4
order_of agreement = 5

abbrev pub says_kind : Said → Bool
says_kind header = false
says_kind (kind f) = true
says_kind (term f g h) = false
says_kind (counts f g) = false
says_kind other = false

abbrev pub says_term : Said → Bool
says_term header = false
says_term (kind f) = false
says_term (term f g h) = true
says_term (counts f g) = false
says_term other = false

abbrev pub says_counts : Said → Bool
says_counts header = false
says_counts (kind f) = false
says_counts (term f g h) = false
says_counts (counts f g) = true
says_counts other = false

-- The text is cut into these pieces at its bytes 10, and lines are counted from 0.
module _ (ls : List (List ℕ)) where
  -- the line k is l, and is ended
  abbrev pub Ended : ℕ → List ℕ → Type 0
  Ended k l = (slice_get ls k ≡ Some l) × (k + 1 < length ls)

  -- l is what stands after the last byte 10, where the line k would be
  abbrev pub Rest : ℕ → List ℕ → Type 0
  Rest k l = (slice_get ls k ≡ Some l) × (k + 1 ≡ length ls)

  -- a line before the line k has the form
  abbrev pub Earlier : (Said → Bool) → ℕ → Type 0
  Earlier test k = (j : ℕ) × (l : List ℕ) × (j < k) × (slice_get ls j ≡ Some l)
      × (test (said l) ≡ true)

  -- how many lines before the line k have the form
  abbrev pub before : (Said → Bool) → ℕ → ℕ
  before test k = count_by (λ l. test (said l)) (take k ls)

  -- A line is refused by the test, where so many types and terms find room.
  pub data Row (types terms : ℕ) : Test → ℕ → Type 0 where
    not_ended : {k : ℕ} (l : List ℕ) → Rest k l → (Earlier says_counts k → ⊥)
        → Row types terms line_end k
    no_header : (l : List ℕ) → Ended 0 l → l ≢ header_line → Row types terms whole_header 0
    line_after_the_end : {k : ℕ} (l : List ℕ) → Ended k l → Earlier says_counts k
        → Row types terms form k
    bytes_after_the_end : {k : ℕ} (l : List ℕ) → Rest k l → l ≢ [] → Earlier says_counts k
        → Row types terms form k
    no_form : {k : ℕ} (l : List ℕ) → Ended k l → 0 < k → (said l ≡ header) ⊎ (said l ≡ other)
        → Row types terms form k
    kind_after_term : {k : ℕ} (l f : List ℕ) → Ended k l → said l ≡ kind f → Earlier says_term k
        → Row types terms form k
    no_kind : {k : ℕ} (l f : List ℕ) → Ended k l → said l ≡ kind f
        → ((c : ℕ) → f ≡ c ∷ [] → is_kind c ≡ true → ⊥) → Row types terms form k
    no_op : {k : ℕ} (l f g h : List ℕ) → Ended k l → said l ≡ term f g h
        → ((c : ℕ) → f ≡ c ∷ [] → is_op c ≡ true → ⊥) → Row types terms form k
    no_number : {k : ℕ} (l f g h : List ℕ) → Ended k l → said l ≡ term f g h
        → (number_in g ≡ None) ⊎ (number_in h ≡ None) → Row types terms numbers k
    no_count : {k : ℕ} (l f g : List ℕ) → Ended k l → said l ≡ counts f g
        → (number_in f ≡ None) ⊎ (number_in g ≡ None) → Row types terms numbers k
    no_room_for_type : {k : ℕ} (l f : List ℕ) → Ended k l → said l ≡ kind f
        → (MOST_TYPE_CELLS ≤ before says_kind k) ⊎ (types ≤ before says_kind k)
        → Row types terms room k
    no_room_for_term : {k : ℕ} (l f g h : List ℕ) → Ended k l → said l ≡ term f g h
        → (MOST_TERM_CELLS ≤ before says_term k) ⊎ (terms ≤ before says_term k)
        → Row types terms room k
    other_counts : {k : ℕ} (l f g : List ℕ) (m n : ℕ) → Ended k l → said l ≡ counts f g
        → number_in f ≡ Some m → number_in g ≡ Some n → Rest (k + 1) []
        → (m ≢ before says_kind k) ⊎ (n ≢ before says_term k) → Row types terms agreement k

-- the first line goes first, and of one line the tests in their order
abbrev pub Before : Test → ℕ → Test → ℕ → Type 0
Before t k u j = (k < j) ⊎ ((k ≡ j) × (order_of t < order_of u))

-- The fault is of a line that is refused by a test, before which none is: the place of a fault
-- counts lines from 1.
abbrev pub IsFirst : List (List ℕ) → ℕ → ℕ → ReadFault → Type 0
IsFirst ls types terms f =
    (t : Test) × (k : ℕ) × Row ls types terms t k
    × (f ≡ record { reason = reason_of t; line = k + 1 })
    × ((u : Test) (j : ℕ) → Row ls types terms u j → Before u j t k → ⊥)

-- the answer that the sheet gives: a fault where it is the first line's, and none where a row holds
abbrev pub Answers : List (List ℕ) → ℕ → ℕ → Result (ℕ × ℕ) ReadFault → Type 0
Answers ls types terms (Ok n) = (t : Test) (k : ℕ) → Row ls types terms t k → ⊥
Answers ls types terms (Err f) = IsFirst ls types terms f

-- A text is refused at the first line that is, for the first test there, and accepted exactly where
-- none is.
pub record FirstLineAnswers : Type 0 where
  pub refused : (text : List ℕ) (ts : List TypeCell) (ms : List TermCell) (f : ReadFault)
      → IsFirst (pieces 10 text) (length ts) (length ms) f ↔ ((reading text ts ms).answer ≡ Err f)
  pub accepted : (text : List ℕ) (ts : List TypeCell) (ms : List TermCell)
      → ((t : Test) (k : ℕ) → Row (pieces 10 text) (length ts) (length ms) t k → ⊥)
      ↔ ((n : ℕ × ℕ) × ((reading text ts ms).answer ≡ Ok n))

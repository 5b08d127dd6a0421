-- The table: a row for each cell.
use Rattle.std.specs.Prelude.{ℕ, zero, suc, ◌+◌, Bool, true, false, cond, ◌||◌, List, [], ◌++◌}
use Rattle.std.specs.Prelude.{Option, Some, None, codes, decimal, drop, encode_utf8, get_or, length}
use Rattle.std.specs.Prelude.{nat_lt, ◌==◌}
use Rattle.std.specs.List.{flat_map}
use Rattle.calculus.specs.Alphabet.{op_variable, op_qubit, op_gate}
use Rattle.calculus.specs.Cells.{blank}
use Rattle.calculus.specs.Reading.{top}
use Rattle.calculus.specs.declared.cells.TermCell.{TermCell}
use Rattle.calculus.specs.declared.cells.TypeCell.{TypeCell}
use Rattle.notation.specs.declared.brackets.Around.TheVariants.{Open}
use Rattle.notation.specs.Terms.{no_term, term_text, term_trees}
use Rattle.notation.specs.Types.{no_type, type_text, type_trees}
use Rattle.termview.specs.Bytes.{cut, left, right}
use Rattle.termview.specs.Depths.{depths_in}
use Rattle.termview.specs.declared.rows.TheConstants.{CELL_WIDTH, LINE_WIDTH, LETTER_WIDTH}
use Rattle.termview.specs.declared.rows.TheConstants.{TERM_WIDTH}

-- a letter, with its argument where it has one: v, g, q
abbrev pub letter_text : TermCell → List ℕ
letter_text c =
    encode_utf8 c.op
    ++ cond (nat_lt 0 c.argument || (c.op == op_variable || (c.op == op_gate || c.op == op_qubit)))
    (codes " " ++ decimal c.argument) []

abbrev pub mark_text : Bool → List ℕ
mark_text true = codes ">>>"
mark_text false = codes "   "

-- the mark of a row, and the number and the line of its cell
abbrev pub place_text : ℕ → ℕ → Bool → List ℕ
place_text cell line marked =
    mark_text marked ++ (right CELL_WIDTH cell ++ (right LINE_WIDTH line ++ codes "  "))

-- the term that cells begin with, under so many binders
abbrev pub term_shown : List TermCell → ℕ → List ℕ
term_shown cells binders = term_text binders Open (top no_term (term_trees cells))

-- the type that begins at a place
abbrev pub claim_text : List TypeCell → ℕ → List ℕ
claim_text types claim = type_text Open (top no_type (type_trees (drop claim types)))

-- whether this is the cell that is marked
abbrev pub is_marked : Option ℕ → ℕ → Bool
is_marked None at = false
is_marked (Some k) at = k == at

module _ (types : List TypeCell) (terms : List TermCell) where
  -- a cell's number, line and letter, the term that begins there, and the type that it claims
  abbrev pub row_text : ℕ → ℕ → Bool → List ℕ
  row_text at binders marked =
      let c = get_or terms at blank in
      place_text at (at + 2 + length types) marked
      ++ (left LETTER_WIDTH (letter_text c)
      ++ (cut TERM_WIDTH (term_shown (drop at terms) binders) ++ (codes "  "
      ++ (claim_text types c.claim ++ codes "\n"))))

  -- the binders around each cell, each tree by itself
  abbrev pub depths : List ℕ
  depths = flat_map (depths_in 0) (term_trees terms)

  -- the rows of so many cells from the first on
  abbrev pub rows_before : ℕ → Option ℕ → List ℕ
  rows_before zero marked = []
  rows_before (suc at) marked =
      rows_before at marked ++ row_text at (get_or depths at 0) (is_marked marked at)

  abbrev pub rows_text : Option ℕ → List ℕ
  rows_text marked = rows_before (length terms) marked

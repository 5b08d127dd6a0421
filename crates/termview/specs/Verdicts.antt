-- The verdict as it is printed.
use Rattle.std.specs.Prelude.{ℕ, ◌+◌, ◌-◌, Bool, false, cond, ◌||◌, List, [], ◌∷◌, ◌++◌, Option}
use Rattle.std.specs.Prelude.{Some, None, codes, decimal, is_none, length, nat_le}
use Rattle.calculus.specs.Letters.{kind_arity}
use Rattle.calculus.specs.declared.cells.TermCell.{TermCell}
use Rattle.calculus.specs.declared.cells.TypeCell.{TypeCell}
use Rattle.reader.specs.Faults.{number_of as read_number}
use Rattle.reader.specs.Pieces.{pieces}
use Rattle.reader.specs.declared.faults.ReadFault.{ReadFault}
use Rattle.trees.specs.Whole.{counted}
use Rattle.verdict.specs.Faults.{number_of as check_number}
use Rattle.verdict.specs.declared.faults.CheckFault.{CheckFault}
use Rattle.verdict.specs.declared.faults.CheckReason.{CheckReason}
use Rattle.verdict.specs.declared.faults.CheckReason.TheVariants.{TooManyCells, BadCell, NotWhole}
use Rattle.verdict.specs.declared.faults.CheckReason.TheVariants.{ClaimOutside, TooDeep, NoBinder}
use Rattle.verdict.specs.declared.faults.CheckReason.TheVariants.{WrongClaim, UsedTwice, Captures}
use Rattle.termview.specs.Bytes.{front}
use Rattle.termview.specs.Lines.{line_in}
use Rattle.termview.specs.Rows.{claim_text}
use Rattle.termview.specs.declared.judged.Verdict.{Verdict}
use Rattle.termview.specs.declared.judged.Verdict.TheVariants.{Unread, Refused, Accepted}
use Rattle.termview.specs.declared.verdicts.TheConstants.{MOST_SHOWN}

-- 22 is of the type table where its types are not whole
abbrev pub of_types : CheckReason → List TypeCell → Bool
of_types TooManyCells types = false
of_types BadCell types = false
of_types NotWhole types = is_none (counted kind_arity types)
of_types ClaimOutside types = false
of_types TooDeep types = false
of_types NoBinder types = false
of_types WrongClaim types = false
of_types UsedTwice types = false
of_types Captures types = false

abbrev pub is_of_types : CheckFault → List TypeCell → Bool
is_of_types f types = of_types f.reason types

-- the cell of the term that is refused, if it is one that was read
abbrev pub refused_cell : Verdict → List TypeCell → List TermCell → Option ℕ
refused_cell (Unread f) types terms = None
refused_cell (Refused f) types terms =
    cond (is_of_types f types || nat_le (length terms) f.cell) None (Some f.cell)
refused_cell Accepted types terms = None

-- the line of a cell
abbrev pub place_of : List TypeCell → Option ℕ → List ℕ
place_of types None = []
place_of types (Some cell) = codes ", line " ++ decimal (cell + 2 + length types)

abbrev pub refused_text : CheckFault → List TypeCell → List TermCell → List ℕ
refused_text f types terms =
    codes "refused by " ++ (decimal (check_number f.reason) ++ (codes " at cell "
    ++ (decimal f.cell ++ (place_of types (refused_cell (Refused f) types terms) ++ codes "\n"))))

-- the line at fault stands below
abbrev pub unread_text : ReadFault → List ℕ → List ℕ
unread_text f text =
    codes "refused by " ++ (decimal (read_number f.reason) ++ (codes " at line "
    ++ (decimal f.line ++ (codes "\n>>> "
    ++ (front MOST_SHOWN (line_in (f.line - 1) (pieces 10 text)).0 ++ codes "\n")))))

-- the claim of the root
abbrev pub root_claim : List TermCell → ℕ
root_claim [] = 0
root_claim (c ∷ cs) = c.claim

abbrev pub accepted_text : List TypeCell → List TermCell → List ℕ
accepted_text types terms =
    codes "accepted: the program has the type "
    ++ (claim_text types (root_claim terms) ++ codes "\n")

abbrev pub verdict_text : Verdict → List ℕ → List TypeCell → List TermCell → List ℕ
verdict_text Accepted text types terms = accepted_text types terms
verdict_text (Refused f) text types terms = refused_text f types terms
verdict_text (Unread f) text types terms = unread_text f text

-- The texts that store programs.
use Rattle.std.specs.Prelude.{ℕ, ◌-◌, List, [], ◌∷◌, ◌++◌, length, codes, decimal, encode_utf8}
use Rattle.std.specs.List.{flat_map, repeat}
use Rattle.calculus.specs.declared.cells.TypeCell.{TypeCell}
use Rattle.calculus.specs.declared.cells.TermCell.{TermCell}

-- a tab, and the end of a line
abbrev pub tab : ℕ
tab = 9

abbrev pub newline : ℕ
newline = 10

-- the first line, QL and the version
abbrev pub first_line : List ℕ
first_line = codes "QL" ++ (tab ∷ codes "1" ++ (newline ∷ []))

-- the line of a type cell, and that of a term cell: a letter, and the fields
abbrev pub type_line : TypeCell → List ℕ
type_line c = codes "T" ++ (tab ∷ encode_utf8 c.kind ++ (newline ∷ []))

abbrev pub term_line : TermCell → List ℕ
term_line c = codes "M" ++ (tab ∷ encode_utf8 c.op
    ++ (tab ∷ decimal c.argument ++ (tab ∷ decimal c.claim ++ (newline ∷ []))))

-- the last line, with how many cells of both kinds there are
abbrev pub last_line : ℕ → ℕ → List ℕ
last_line types terms =
    codes "E" ++ (tab ∷ decimal types ++ (tab ∷ decimal terms ++ (newline ∷ [])))

-- the lines of a program: the first, one for each type cell and each term cell, and the last
abbrev pub stored_text : List TypeCell → List TermCell → List ℕ
stored_text types terms = first_line ++ (flat_map type_line types
    ++ (flat_map term_line terms ++ last_line (length types) (length terms)))

-- a text of so many bytes, the second of whose two lines is a type line of many letters b
abbrev pub long_text : ℕ → List ℕ
long_text n = first_line ++ (codes "T" ++ (tab ∷ repeat (n - 8) (codes "b") ++ (newline ∷ [])))

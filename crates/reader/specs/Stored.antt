-- The text of a stored program, written from the cells that its lines say.
use Rattle.std.specs.Prelude.{◌≡◌, ◌≢◌, ℕ, ◌-◌, ◌≤◌, true, ◌⊎◌, Some, Ok, Err, Result}
use Rattle.std.specs.Prelude.{List, [], ◌∷◌, ◌++◌, map, length, take, drop, decimal}
use Rattle.std.specs.List.{flat_map, AllByRecursion}
use Rattle.calculus.specs.declared.limits.TheConstants.{MOST_TYPE_CELLS, MOST_TERM_CELLS}
use Rattle.calculus.specs.declared.cells.TermCell.{TermCell}
use Rattle.calculus.specs.declared.cells.TypeCell.{TypeCell}
use Rattle.reader.specs.declared.faults.ReadFault.{ReadFault}
use Rattle.reader.specs.Cells.{is_kind, is_op}
use Rattle.reader.specs.Lines.{header_line}
use Rattle.reader.specs.Numbers.{number_in}
use Rattle.reader.specs.Pieces.{pieces}
use Rattle.reader.specs.Reading.{Outcome, left, reading}

-- `T`, kind
abbrev pub kind_line : TypeCell → List ℕ
kind_line c = 84 ∷ 9 ∷ c.kind ∷ []

-- `M`, op, argument, claim
abbrev pub op_line : TermCell → List ℕ
op_line c = 77 ∷ 9 ∷ c.op ∷ 9 ∷ (decimal c.argument ++ (9 ∷ decimal c.claim))

-- `E`, the count of kinds, the count of ops
abbrev pub end_line : ℕ → ℕ → List ℕ
end_line k o = 69 ∷ 9 ∷ (decimal k ++ (9 ∷ decimal o))

-- the lines before the end line: the header, a line for each kind, a line for each op
abbrev pub cell_lines : List TypeCell → List TermCell → List (List ℕ)
cell_lines ks os = header_line ∷ (map kind_line ks ++ map op_line os)

-- byte 10 ends each line
abbrev pub text_of : List (List ℕ) → List ℕ
text_of ls = flat_map (λ l. l ++ (10 ∷ [])) ls

-- the writer: the text of a program with these cells
abbrev pub written : List TypeCell → List TermCell → List ℕ
written ks os = text_of (cell_lines ks os ++ (end_line (length ks) (length os) ∷ []))

-- the letter is a kind
abbrev pub KindKnown : TypeCell → Type 0
KindKnown c = is_kind c.kind ≡ true

-- the letter is an op, and the numbers fit
abbrev pub OpKnown : TermCell → Type 0
OpKnown c = (is_op c.op ≡ true) × (c.argument ≤ 65535) × (c.claim ≤ 65535)

-- letters of the calculus and numbers up to 65,535, no more than the limits and the tables allow
pub record Fitting (ks : List TypeCell) (os : List TermCell)
    (ts : List TypeCell) (ms : List TermCell) : Type 0 where
  pub kinds_known : AllByRecursion KindKnown ks
  pub ops_known : AllByRecursion OpKnown os
  pub kinds_within : (length ks ≤ MOST_TYPE_CELLS) × (length ks ≤ length ts)
  pub ops_within : (length os ≤ MOST_TERM_CELLS) × (length os ≤ length ms)

-- a table that begins with these cells, its rest as it was
abbrev pub fronted : {T : Type 0} → List T → List T → List T
fronted cs table = cs ++ drop (length cs) table

-- an accepted read of these cells
abbrev pub holding : List TypeCell → List TermCell → List TypeCell → List TermCell → Outcome
holding ks os ts ms = left (Ok (length ks, length os)) (fronted ks ts) (fronted os ms)

-- lines at the start of a program, with the cells that they say: none, some up to the end line, or
-- this one too
abbrev pub Begins : List (List ℕ) → List TypeCell → List TermCell → Type 0
Begins ls ks os =
    ((ls ≡ []) × (ks ≡ []) × (os ≡ []))
    ⊎ ((ls ≡ cell_lines ks os)
    ⊎ ((m : ℕ) × (n : ℕ) × (ls ≡ cell_lines ks os ++ (end_line m n ∷ []))))

-- What a read has done, by its answer.
abbrev pub Done : List ℕ → List TypeCell → List TermCell → Result (ℕ × ℕ) ReadFault
    → List TypeCell → List TermCell → Type 0
-- the text is that of a program, and the tables hold its cells
Done text ts ms (Ok n) us ns =
    (ks : List TypeCell) × (os : List TermCell) × (text ≡ written ks os) × Fitting ks os ts ms
    × (n ≡ (length ks, length os)) × (us ≡ fronted ks ts) × (ns ≡ fronted os ms)
-- the text is that of no program that fits, and the tables hold the cells of the lines before the
-- one at fault
Done text ts ms (Err f) us ns =
    ((ks : List TypeCell) (os : List TermCell) → Fitting ks os ts ms → text ≢ written ks os)
    × ((ks : List TypeCell) × (os : List TermCell)
    × Begins (take (f.line - 1) (pieces 10 text)) ks os
    × (us ≡ fronted ks ts) × (ns ≡ fronted os ms))

-- the counts of an accepted read are within the limits and the tables
abbrev pub Bounded : Result (ℕ × ℕ) ReadFault → List TypeCell → List TermCell → Type 0
Bounded (Ok n) ts ms = (n.0 ≤ MOST_TYPE_CELLS) × (n.0 ≤ length ts)
    × (n.1 ≤ MOST_TERM_CELLS) × (n.1 ≤ length ms)
Bounded (Err f) ts ms = Unit {0}

-- What holds of every read.
pub record Exact : Type 0 where
  -- every read is done so
  pub done : (text : List ℕ) (ts : List TypeCell) (ms : List TermCell)
      → Done text ts ms (reading text ts ms).answer
      (reading text ts ms).types (reading text ts ms).terms
  -- the text of a program that fits is accepted, and read back to the same cells
  pub read_back : (ks : List TypeCell) (os : List TermCell)
      (ts : List TypeCell) (ms : List TermCell) → Fitting ks os ts ms
      → reading (written ks os) ts ms ≡ holding ks os ts ms
  -- a number field is what is written of its number, which is at most 65,535
  pub numbers : (field : List ℕ) (n : ℕ) → number_in field ≡ Some n
      → (field ≡ decimal n) × (n ≤ 65535)
  pub numbers_back : (n : ℕ) → n ≤ 65535 → number_in (decimal n) ≡ Some n

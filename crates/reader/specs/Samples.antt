-- Texts with the answers that they get and the tables that they leave, `/` standing for byte 10 and
-- a blank for byte 9.
use Rattle.std.specs.Prelude.{◌≡◌, ℕ, cond, List, [], ◌∷◌, map, replicate, Ok, codes, Result, ◌==◌}
use Rattle.calculus.specs.declared.cells.TermCell.{TermCell}
use Rattle.calculus.specs.declared.cells.TypeCell.{TypeCell}
use Rattle.calculus.specs.Cells.{kind_cell, cell_of}
use Rattle.reader.specs.declared.faults.ReadFault.{ReadFault}
use Rattle.reader.specs.declared.faults.ReadReason.TheVariants.{Header, Line, Number, Full, End}
use Rattle.reader.specs.Lines.{header_line}
use Rattle.reader.specs.Reading.{fault, left, reading}
use Rattle.reader.specs.Stored.{text_of}

-- the bytes of a sample
abbrev spelled_out : List ℕ → List ℕ
spelled_out text = map (λ b. cond (b == 47) 10 (cond (b == 32) 9 b)) text

-- what the tables hold before
abbrev a_kind : TypeCell
a_kind = record { kind = 98 }

-- the same for ops
abbrev an_op : TermCell
an_op = record { op = 48; argument = 0; claim = 0 }

pub record Sample : Type 0 where
  pub text : List ℕ
  pub answer : Result (ℕ × ℕ) ReadFault
  pub types : List TypeCell
  pub terms : List TermCell

-- a text, and the answer that it gets, where the tables are afterwards as they were
abbrev gets : List ℕ → Result (ℕ × ℕ) ReadFault → Sample
gets text answer = record {
  text = spelled_out text;
  answer = answer;
  types = replicate 3 a_kind;
  terms = replicate 2 an_op;
}

-- the same where the type table has these kinds afterwards, and the term table begins so
abbrev leaves : List ℕ → Result (ℕ × ℕ) ReadFault → List ℕ → TermCell → Sample
leaves text answer kinds op = record {
  text = spelled_out text;
  answer = answer;
  types = map kind_cell kinds;
  terms = op ∷ an_op ∷ [];
}

-- read into tables of three kinds and two ops
abbrev samples : List Sample
samples =
    gets (codes "") (fault End 1)
    ∷ gets (codes "Q") (fault End 1)
    ∷ gets (codes "QL 2/") (fault Header 1)
    ∷ gets (codes "QL 1") (fault End 1)
    ∷ gets (codes "QL 1/") (fault End 2)
    ∷ gets (codes "QL 1/T b") (fault End 2)
    ∷ gets (codes "QL 1//") (fault Line 2)
    ∷ gets (codes "QL 1/T x/") (fault Line 2)
    ∷ gets (codes "QL 1/T b /") (fault Line 2)
    ∷ gets (codes "QL 1/T/") (fault Line 2)
    ∷ gets (codes "QL 1/M 0 0 0/T b/E 1 1/") (fault Line 3)
    ∷ gets (codes "QL 1/M x 00 0/") (fault Line 2)
    ∷ gets (codes "QL 1/M 0 00 0/") (fault Number 2)
    ∷ gets (codes "QL 1/M 0 0 65536/") (fault Number 2)
    ∷ leaves (codes "QL 1/M q 65535 0/E 0 1/") (Ok (0, 1)) (codes "bbb") (cell_of 113 65535 0)
    ∷ gets (codes "QL 1/T b/T b/T b/T b/") (fault Full 5)
    ∷ gets (codes "QL 1/T b/T b/T b/T x/") (fault Line 5)
    ∷ gets (codes "QL 1/T b/T b/T b/E 3 0/") (Ok (3, 0))
    ∷ gets (codes "QL 1/M 0 0 0/M 0 0 0/M 0 0 0/") (fault Full 4)
    ∷ gets (codes "QL 1/E 0/") (fault Line 2)
    ∷ gets (codes "QL 1/E 0 /") (fault Number 2)
    ∷ gets (codes "QL 1/E 1 0/") (fault End 2)
    ∷ gets (codes "QL 1/E 1 0/x") (fault Line 3)
    ∷ gets (codes "QL 1/E 0 0//") (fault Line 3)
    ∷ gets (codes "QL 1/E 0 0/") (Ok (0, 0))
    ∷ leaves (codes "QL 1/T >/T q/T !/T b/E 4 0/") (fault Full 5) (codes ">q!") an_op
    ∷ leaves (codes "QL 1/T !/T b/M 1 0 0/E 2 1/") (Ok (2, 1)) (codes "!bb") (cell_of 49 0 0)
    ∷ leaves (codes "QL 1/T q/M m 0 1/T b/E 2 1/") (fault Line 4) (codes "qbb") (cell_of 109 0 1)
    ∷ []

pub record SamplesHold : Type 0 where
  pub each : map (λ s. reading s.text (replicate 3 a_kind) (replicate 2 an_op)) samples
      ≡ map (λ s. left s.answer s.types s.terms) samples
  -- a longer table does not lift a limit
  pub kinds_end :
      let text = text_of (header_line ∷ replicate 257 (spelled_out (codes "T b"))) in
      (reading text (replicate 300 a_kind) []).answer ≡ fault Full 258
  pub ops_end :
      let text = text_of (header_line ∷ replicate 513 (spelled_out (codes "M 0 0 0"))) in
      (reading text [] (replicate 600 an_op)).answer ≡ fault Full 514

-- What the product says of a text: the answers of its reader and of its checker.
use Rattle.std.specs.Prelude.{◌≡◌, ℕ, ◌==◌, not, List, length, take}
use Rattle.std.specs.Prelude.{Ok, Err, Result, Option, Some, None}
use Rattle.calculus.specs.declared.cells.TermCell.{TermCell}
use Rattle.calculus.specs.declared.cells.TypeCell.{TypeCell}
use Rattle.reader.specs.Reading.{reading_of}
use Rattle.reader.specs.declared.faults.ReadFault.{ReadFault}
use Rattle.checker.specs.Accepting.{program_verdict}
use Rattle.trees.specs.Failing.{first_failing}
use Rattle.verdict.specs.Faults.{Verdict as CheckVerdict}
use Rattle.termview.specs.declared.judged.Judged.{Judged}
use Rattle.termview.specs.declared.judged.Verdict.{Verdict}
use Rattle.termview.specs.declared.judged.Verdict.TheVariants.{Unread, Refused, Accepted}

-- the place that was found, or the length
abbrev pub or_length : ℕ → Option ℕ → ℕ
or_length n None = n
or_length n (Some k) = k

-- how many cells there are before the first that no line filled
abbrev pub kinds_there : List TypeCell → ℕ
kinds_there types = or_length (length types) (first_failing (λ c. not (c.kind == 0)) types 0)

abbrev pub ops_there : List TermCell → ℕ
ops_there terms = or_length (length terms) (first_failing (λ c. not (c.op == 0)) terms 0)

-- how many cells of each table were read
abbrev pub kinds_by : Result (ℕ × ℕ) ReadFault → List TypeCell → ℕ
kinds_by (Ok n) types = n.0
kinds_by (Err f) types = kinds_there types

abbrev pub ops_by : Result (ℕ × ℕ) ReadFault → List TermCell → ℕ
ops_by (Ok n) terms = n.1
ops_by (Err f) terms = ops_there terms

-- the cells that were read of a text
abbrev pub types_read : List ℕ → List TypeCell
types_read text = let r = reading_of text in take (kinds_by r.answer r.types) r.types

abbrev pub terms_read : List ℕ → List TermCell
terms_read text = let r = reading_of text in take (ops_by r.answer r.terms) r.terms

-- the verdict by the checker's
abbrev pub verdict_by : CheckVerdict → Verdict
verdict_by (Ok u) = Accepted
verdict_by (Err f) = Refused f

-- the reader's refusal, or the checker's verdict on the program that was read
abbrev pub verdict_after : Result (ℕ × ℕ) ReadFault → List TypeCell → List TermCell → Verdict
verdict_after (Err f) types terms = Unread f
verdict_after (Ok n) types terms =
    verdict_by (program_verdict (take n.0 types) (take n.1 terms))

abbrev pub verdict_on : List ℕ → Verdict
verdict_on text = let r = reading_of text in verdict_after r.answer r.types r.terms

-- A text is judged: the verdict is the product's, and the tables hold what was read.
pub record JudgedAs (text : List ℕ) (j : Judged) : Type 0 where
  pub verdict : j.verdict ≡ verdict_on text
  pub types : take j.kinds j.types ≡ types_read text
  pub terms : take j.ops j.terms ≡ terms_read text

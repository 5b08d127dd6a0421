-- A turn of the reader: the first of the lines that are left.
use Rattle.std.proofs.Common.{Ok, Err, MatchResult, ◌≡◌, ℕ, ◌+◌, ◌<◌, List, [], ◌∷◌, length, Result, sym, refl, ap, ◌∙◌, arith}
use Rattle.calculus.specs.declared.cells.TermCell.{TermCell}
use Rattle.calculus.specs.declared.cells.TypeCell.{TypeCell}
use Rattle.std.specs.Result.{IsErrAnd}
use Rattle.reader.specs.declared.faults.ReadFault.{ReadFault}
use Rattle.reader.specs.declared.faults.ReadReason.{ReadReason}
use Rattle.reader.specs.Lines.{said}
use Rattle.reader.specs.Pieces.{pieces}
use Rattle.reader.specs.Reading.{Place, Left, Outcome, left, line_read, by_answer, after_line, closed, reads}
use Rattle.reader.proofs.Cuts.{some_piece}

-- a line that others follow
pub next_line : (line : List ℕ) (rest : List (List ℕ)) (due : ℕ) (p : Place) (ts : List TypeCell) (ms : List TermCell) → 0 < length rest
    → reads (line ∷ rest) due p ts ms ≡ after_line due (line_read p (said line) ts ms) (reads rest (due + 1))
next_line line [] due p ts ms h = absurd (omega arith)
next_line line (next ∷ lines) due p ts ms h = refl

module _ (rest line after : List ℕ) (due : ℕ) (p : Place) (ts : List TypeCell) (ms : List TermCell) (cut : pieces 10 rest ≡ line ∷ pieces 10 after) where
  turn : reads (pieces 10 rest) due p ts ms ≡ after_line due (line_read p (said line) ts ms) (reads (pieces 10 after) (due + 1))
  turn =
      let (q, qs, e) = some_piece 10 after in
      ap (λ ls. reads ls due p ts ms) cut ∙ next_line line (pieces 10 after) due p ts ms (omega (arith, ap length e))

  abbrev more : Place → List TypeCell → List TermCell → Outcome
  more = reads (pieces 10 after) (due + 1)

  -- a line's step, from its answer and what it leaves
  module _ (r : Result Place ReadReason) (us : List TypeCell) (ns : List TermCell)
      (a : r ≡ (line_read p (said line) ts ms).answer) (u : us ≡ (line_read p (said line) ts ms).types) (n : ns ≡ (line_read p (said line) ts ms).terms) where
    pub stepped : by_answer due r us ns more ≡ reads (pieces 10 rest) due p ts ms
    stepped =
        ap (λ x. by_answer due x us ns more) a ∙ ap (λ xs. by_answer due l.answer xs ns more) u ∙ ap (λ xs. by_answer due l.answer l.types xs more) n ∙ sym turn
      where
        l : Left (Result Place ReadReason)
        l = line_read p (said line) ts ms

pub ends : (rest : List ℕ) (due : ℕ) (p : Place) (ts : List TypeCell) (ms : List TermCell) → pieces 10 rest ≡ rest ∷ []
    → left (closed rest due p) ts ms ≡ reads (pieces 10 rest) due p ts ms
ends rest due p ts ms e = ap (λ ls. reads ls due p ts ms) (sym e)

-- a line's refusal, with the fault that it becomes
pub refusal : {X : Type 0} (r : Result X ReadReason) (s : Result X ReadFault) (f : ReadFault) (due : ℕ) (P : ReadReason → ReadFault → Type 0)
    → ((e : ReadReason) (g : ReadFault) → P e g → g ≡ record { reason = e; line = due })
    → MatchResult r (λ x. s ≡ Ok x) (λ e. IsErrAnd s (P e)) → s ≡ Err f → (e : ReadReason) × (r ≡ Err e) × (f ≡ record { reason = e; line = due })
refusal (Ok x) s f due P is m e = absurd (cc (sym m ∙ e))
refusal (Err e) (Ok x) f due P is m h = absurd (cc h)
refusal (Err e) (Err g) f due P is m h = let same : g ≡ f = cc h in (e, refl, sym same ∙ is e g m)

-- A text that is read into new tables, and its verdict.
use Rattle.std.proofs.Common.{◌≡◌, ℕ, ◌+◌, ◌≤◌, Bool, true, false, cond, List, [], ◌∷◌, length, replicate, take, Ok, Err, Some, Result, refl, ap, ap₂, subst, ◌∙◌, arith}
use Rattle.calculus.specs.Cells.{blank, kind_cell}
use Rattle.calculus.specs.declared.cells.TermCell.{TermCell}
use Rattle.calculus.specs.declared.cells.TypeCell.{TypeCell}
use Rattle.reader.specs.Reading.{reading}
use Rattle.reader.specs.declared.faults.ReadFault.{ReadFault}
use Rattle.checker.specs.Accepting.{program_verdict}
use Rattle.trees.specs.Failing.{first_failing}
use Rattle.termview.specs.declared.judged.Judged.{Judged}
use Rattle.reader.specs.Reading.{reading_of}
use Rattle.termview.specs.Judging.{JudgedAs, kinds_by, kinds_there, ops_by, ops_there, or_length, terms_read, types_read, verdict_after, verdict_by, verdict_on}
use Rattle.termview.specs.declared.judged.Verdict.{Verdict}
use Rattle.termview.specs.declared.judged.Verdict.TheVariants.{Unread}

-- the first place that fails is within the cells
pub failing_within : {X : Type 0} (f : X → Bool) (xs : List X) (n k : ℕ) → k + length xs ≤ n → or_length n (first_failing f xs k) ≤ n
failing_within f [] n k h = omega arith
failing_within f (x ∷ xs) n k h = either (f x) (failing_within f xs n (k + 1) (omega (arith, h)))
  where
    either : (t : Bool) → or_length n (first_failing f xs (k + 1)) ≤ n → or_length n (cond t (first_failing f xs (k + 1)) (Some k)) ≤ n
    either true e = e
    either false e = omega (arith, h)

-- what follows of a text's tables and answer
text_is : (P : Result (ℕ × ℕ) ReadFault → List TypeCell → List TermCell → Type 0) (text : List ℕ) {types types' : List TypeCell} {terms terms' : List TermCell} {answer : Result (ℕ × ℕ) ReadFault}
    → types ≡ replicate 256 (kind_cell 0) → terms ≡ replicate 512 blank
    → answer ≡ (reading text types terms).answer → types' ≡ (reading text types terms).types → terms' ≡ (reading text types terms).terms
    → P answer types' terms' → P (reading_of text).answer (reading_of text).types (reading_of text).terms
text_is P text {types = types} {types' = types'} {terms = terms} {terms' = terms'} {answer = answer} e f g h i p =
    let o = reading text types terms in
    subst (λ o. P o.answer o.types o.terms) (ap₂ (reading text) e f)
    (subst (λ x. P x o.types o.terms) g (subst (λ ts. P answer ts o.terms) h (subst (λ ms. P answer types' ms) i p)))

-- the verdict, and the cells that were read
abbrev pub Judges : List ℕ → Verdict → ℕ → List TypeCell → ℕ → List TermCell → Type 0
Judges text v kinds types ops terms =
    (v ≡ verdict_on text) × ((take kinds types ≡ types_read text) × (take ops terms ≡ terms_read text))

module _ (text : List ℕ) (types types' : List TypeCell) (terms terms' : List TermCell) where
  pub of_cells : (n : ℕ × ℕ) (v : Verdict) → types ≡ replicate 256 (kind_cell 0) → terms ≡ replicate 512 blank
      → Ok n ≡ (reading text types terms).answer → types' ≡ (reading text types terms).types → terms' ≡ (reading text types terms).terms
      → v ≡ verdict_by (program_verdict (take n.0 types') (take n.1 terms'))
      → Judges text v n.0 types' n.1 terms'
  of_cells n v e f g h i j =
      text_is (λ (x : Result (ℕ × ℕ) ReadFault) (ts : List TypeCell) (ms : List TermCell). (v ≡ verdict_after x ts ms) × ((take n.0 types' ≡ take (kinds_by x ts) ts) × (take n.1 terms' ≡ take (ops_by x ms) ms)))
      text e f g h i (j, (refl, refl))

  pub of_fault : (x : ReadFault) (kinds ops : ℕ) → types ≡ replicate 256 (kind_cell 0) → terms ≡ replicate 512 blank
      → Err x ≡ (reading text types terms).answer → types' ≡ (reading text types terms).types → terms' ≡ (reading text types terms).terms
      → kinds ≡ kinds_there types' → ops ≡ ops_there terms'
      → Judges text (Unread x) kinds types' ops terms'
  of_fault x kinds ops e f g h i j k =
      text_is (λ (y : Result (ℕ × ℕ) ReadFault) (ts : List TypeCell) (ms : List TermCell). (Unread x ≡ verdict_after y ts ms) × ((take kinds types' ≡ take (kinds_by y ts) ts) × (take ops terms' ≡ take (ops_by y ms) ms)))
      text e f g h i (refl, (ap (λ n. take n types') j, ap (λ n. take n terms') k))

-- what holds of parts holds of what is made of them
pub same_judgement : (text : List ℕ) (j : Judged) (v : Verdict) (kinds : ℕ) (types : List TypeCell) (ops : ℕ) (terms : List TermCell)
    → j.verdict ≡ v → (j.kinds ≡ kinds) × (j.types ≡ types) → (j.ops ≡ ops) × (j.terms ≡ terms)
    → Judges text v kinds types ops terms → JudgedAs text j
same_judgement text j v kinds types ops terms e f g h = record {
  verdict = e ∙ h.0;
  types = ap₂ take f.0 f.1 ∙ h.1.0;
  terms = ap₂ take g.0 g.1 ∙ h.1.1;
}

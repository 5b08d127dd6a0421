-- A row that is played on a new tape, and a text that is read into new tables.
use Rattle.std.proofs.Common.{◌≡◌, ℕ, List, [], ◌∷◌, length, get_or, replicate, take, None, Ok, Option, Result, refl, ap, ap₂, subst, ◌∙◌, arith}
use Rattle.calculus.specs.Cells.{blank, kind_cell}
use Rattle.calculus.specs.declared.cells.TermCell.{TermCell}
use Rattle.calculus.specs.declared.cells.TypeCell.{TypeCell}
use Rattle.registers.specs.declared.tape.Tape.{Tape}
use Rattle.reader.specs.Reading.{reading}
use Rattle.reader.specs.declared.faults.ReadFault.{ReadFault}
use Rattle.controller.specs.Shots.{nothing_held}
use Rattle.player.specs.Playing.{RowPlayed}
use Rattle.player.specs.Stages.{Reply, Stage, stage}
use Rattle.player.specs.declared.turns.Turn.{Turn}
use Rattle.player.specs.declared.turns.Turn.TheVariants.{Run, Collect}
use Rattle.registers.specs.contracts.tape.TapeRegister.TheImpl.{ghosts}
use Rattle.arrayvec.specs.ArrayVec.{ArrayVec}
use Rattle.registers.specs.Journal.{tape_reel}
use Rattle.registers.specs.declared.journal.Entry.{Entry}
use Rattle.listing.specs.Playing.{RowOfShot, shot_of_report}
use Rattle.reader.specs.Reading.{reading_of}
use Rattle.listing.specs.declared.replies.RunReport.{RunReport}
use Rattle.listing.specs.declared.shots.Shot.TheVariants.{Ran}

-- a row that is played with new tables
pub on_new_tables : (tape : Tape) (load : Turn) (replies : List (Option Reply)) (end : Stage Tape) {w v : TermCell} {k : TypeCell} → w ≡ blank → v ≡ blank → k ≡ kind_cell 0
    → RowPlayed ghosts (stage nothing_held tape (replicate 1024 w) (replicate 1024 v) (replicate 256 k)) (load ∷ Run 1000 1024 ∷ Collect 1024 256 ∷ []) (replicate 3 None) replies end
    → RowOfShot ghosts tape load replies end
on_new_tables tape load replies end {w = w} {v = v} {k = k} e f g p =
    let P = λ (s : Stage Tape). RowPlayed ghosts s (load ∷ Run 1000 1024 ∷ Collect 1024 256 ∷ []) (replicate 3 None) replies end in
    subst (λ c. P (stage nothing_held tape (replicate 1024 blank) (replicate 1024 blank) (replicate 256 c))) g
    (subst (λ c. P (stage nothing_held tape (replicate 1024 blank) (replicate 1024 c) (replicate 256 k))) f
    (subst (λ c. P (stage nothing_held tape (replicate 1024 c) (replicate 1024 v) (replicate 256 k))) e p))

-- a run with the first cells of both tables and a copy of the journal
pub ran_is : (r : RunReport) (end : Stage Tape) {value : ArrayVec TermCell} {kinds : ArrayVec TypeCell} {journal : List Entry}
    → value.items ≡ take r.cells end.value → kinds.items ≡ take r.kind_cells end.kinds → journal ≡ (tape_reel end.register).entries
    → Ran r.steps r.stop value kinds journal ≡ shot_of_report (Ok r) end
ran_is r end {value = value} {kinds = kinds} {journal = journal} e f g =
    let value' : ArrayVec TermCell = record { items = take r.cells end.value } in
    let kinds' : ArrayVec TypeCell = record { items = take r.kind_cells end.kinds } in
    ap (λ xs. Ran r.steps r.stop (record { items = xs }) kinds journal) e
    ∙ ap (λ xs. Ran r.steps r.stop value' (record { items = xs }) journal) f
    ∙ ap (λ xs. Ran r.steps r.stop value' kinds' xs) g

-- three replies
pub three : {X : Type 0} (xs : List X) (d : X) → length xs ≡ 3 → xs ≡ get_or xs 0 d ∷ get_or xs 1 d ∷ get_or xs 2 d ∷ []
three [] d e = absurd (omega (arith, e))
three (x ∷ []) d e = absurd (omega (arith, e))
three (x ∷ y ∷ []) d e = absurd (omega (arith, e))
three (x ∷ y ∷ z ∷ []) d e = refl
three (x ∷ y ∷ z ∷ w ∷ ws) d e = absurd (omega (arith, e))

-- a reading into new tables
pub read_fresh : (text : List ℕ) {types : List TypeCell} {terms : List TermCell} → types ≡ replicate 256 (kind_cell 0) → terms ≡ replicate 512 blank → reading text types terms ≡ reading_of text
read_fresh text e f = ap₂ (reading text) e f

-- what follows of a text's tables and answer
pub text_is : (P : Result (ℕ × ℕ) ReadFault → List TypeCell → List TermCell → Type 0) (text : List ℕ) {types types' : List TypeCell} {terms terms' : List TermCell} {answer : Result (ℕ × ℕ) ReadFault}
    → types ≡ replicate 256 (kind_cell 0) → terms ≡ replicate 512 blank
    → answer ≡ (reading text types terms).answer → types' ≡ (reading text types terms).types → terms' ≡ (reading text types terms).terms
    → P answer types' terms' → P (reading_of text).answer (reading_of text).types (reading_of text).terms
text_is P text {types = types} {types' = types'} {terms = terms} {answer = answer} e f g h i p =
    let o = reading text types terms in
    subst (λ o. P o.answer o.types o.terms) (read_fresh text e f)
    (subst (λ x. P x o.types o.terms) g (subst (λ ts. P answer ts o.terms) h (subst (λ ms. P answer types' ms) i p)))

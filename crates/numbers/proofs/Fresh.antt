-- New tables: a text is read into them, and a run begins on a new tape with them.
use Rattle.std.proofs.Common.{◌≡◌, ℕ, List, replicate, ap, ap₂, ◌∙◌}
use Rattle.calculus.specs.Cells.{kind_cell}
use Rattle.calculus.specs.declared.cells.TermCell.{TermCell}
use Rattle.calculus.specs.declared.cells.TypeCell.{TypeCell}
use Rattle.calculus.proofs.NewCells.{new_kind, new_cell}
use Rattle.controller.specs.Meant.{Standing}
use Rattle.controller.specs.Shots.{Held, nothing_held}
use Rattle.reader.specs.Reading.{reading}
use Rattle.registers.specs.Journal.{Reel}
use Rattle.registers.specs.Meaning.{Meaning}
use Rattle.numbers.specs.Runs.{new_standing}
use Rattle.numbers.specs.Verdicts.{fresh_reading}

pub fresh : (text : List ℕ) (k : TypeCell) (t : TermCell) → k.kind ≡ 0
    → (t.op ≡ 0) × ((t.argument ≡ 0) × (t.claim ≡ 0))
    → reading text (replicate 256 k) (replicate 512 t) ≡ fresh_reading text
fresh text k t d e =
    ap (λ k. reading text (replicate 256 k) (replicate 512 t)) (new_kind k d)
    ∙ ap (λ c. reading text (replicate 256 (kind_cell 0)) (replicate 512 c)) (new_cell t e)

abbrev pub stands : Held → Meaning Reel → List TermCell → Standing Reel
stands h r work = record { shot = h; register = r; work = work }

pub started : (outcomes : List ℕ) (h : Held) (r : Meaning Reel) (t : TermCell) → h ≡ nothing_held
    → r ≡ (new_standing outcomes).register → (t.op ≡ 0) × ((t.argument ≡ 0) × (t.claim ≡ 0))
    → stands h r (replicate 1024 t) ≡ new_standing outcomes
started outcomes h r t e f g =
    ap₂ (λ h r. stands h r (replicate 1024 t)) e f
    ∙ ap (λ t. stands nothing_held (new_standing outcomes).register (replicate 1024 t)) (new_cell t g)

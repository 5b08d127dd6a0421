use Rattle.std.proofs.Common.{ℕ, List, replicate, Result, refl, ap}
use Rattle.calculus.specs.declared.cells.TermCell.{TermCell}
use Rattle.calculus.specs.declared.cells.TypeCell.{TypeCell}
use Rattle.calculus.proofs.NewCells.{new_kind, new_cell}
use Rattle.registers.specs.contracts.tape.TapeRegister.TheImpl.{ghosts}
use Rattle.reader.specs.declared.faults.ReadFault.{ReadFault}
use Rattle.listing.specs.Playing.{ReadAndPlayed, TextPlayed}
use Rattle.listing.specs.Lines.{text_of}
use Rattle.listing.proofs.Listed.{text_is_listed}
use Rattle.listing.proofs.Played.{text_is}
use Rattle.listing.proofs.shots.play_text.Goals as goal

played : (c : goal.After-play_cells) → TextPlayed ghosts c.args.text.now c.play_cells.result
played c =
    let types = ap (replicate 256) (new_kind _ c.default-types.ensures) in
    let terms = ap (replicate 512) (new_cell _ c.default-terms.ensures) in
    text_is (λ (x : Result (ℕ × ℕ) ReadFault) (ts : List TypeCell) (ms : List TermCell). ReadAndPlayed ghosts x ts ms c.play_cells.result) c.args.text.now types terms
    c.in-Ok.ensures.answer c.in-Ok.ensures.types c.in-Ok.ensures.terms c.play_cells.ensures.played

pub returns-in-Ok-clause-played : goal.returns-in-Ok-clause-played
returns-in-Ok-clause-played c = played c

pub returns-in-Ok-clause-listed : goal.returns-in-Ok-clause-listed
returns-in-Ok-clause-listed c = ap text_of (text_is_listed c.args.text.now _ (played c))

unread : (c : goal.After-from) → TextPlayed ghosts c.args.text.now c.from.result
unread c =
    let types = ap (replicate 256) (new_kind _ c.default-types.ensures) in
    let terms = ap (replicate 512) (new_cell _ c.default-terms.ensures) in
    text_is (λ (x : Result (ℕ × ℕ) ReadFault) (ts : List TypeCell) (ms : List TermCell). ReadAndPlayed ghosts x ts ms c.from.result) c.args.text.now types terms
    c.in-Err.ensures.answer refl refl c.from.ensures

pub returns-in-Err-clause-played : goal.returns-in-Err-clause-played
returns-in-Err-clause-played c = unread c

pub returns-in-Err-clause-listed : goal.returns-in-Err-clause-listed
returns-in-Err-clause-listed c = ap text_of (text_is_listed c.args.text.now _ (unread c))

use Rattle.std.proofs.Common.{◌≡◌, ◌+◌, ◌≤◌, length}
use Rattle.reader.specs.Pieces.{pieces}
use Rattle.reader.specs.Places.{place_of}
use Rattle.reader.specs.Reading.{reads, reading}
use Rattle.reader.proofs.reading.read.Given as goal

abbrev pub invariant-loop-line : goal.invariant-loop-line
invariant-loop-line l =
    (1 ≤ l.due)
    × (l.due + length l.rest ≤ length l.text + 1)
    × (l.types.cells.ghost_name ≡ l.initial.types.cells.ghost_name)
    × (l.terms.cells.ghost_name ≡ l.initial.terms.cells.ghost_name)
    × (reads (pieces 10 l.rest) l.due (place_of l.section l.types l.terms) l.types.cells.now l.terms.cells.now ≡ reading l.text l.fn.types l.fn.terms)

abbrev pub decreases-loop-line : goal.decreases-loop-line
decreases-loop-line l = length l.rest

-- A step in numbers, and what is handed back of it.
use Rattle.std.proofs.Common.{◌≡◌, ◌≢◌, ℕ, replicate, List, refl, arith}
use Rattle.std.proofs.Common.{Some, None, Ok, Err, Option, Result}
use Rattle.calculus.specs.Cells.{blank}
use Rattle.calculus.specs.declared.cells.TermCell.{TermCell}
use Rattle.finder.specs.declared.faults.FindFault.{FindFault}
use Rattle.finder.specs.declared.faults.FindReason.{FindReason}
use Rattle.finder.specs.declared.faults.FindReason.TheVariants.{TooManyCells, BadCell}
use Rattle.finder.specs.declared.faults.FindReason.TheVariants.{NotWhole, NoRule}
use Rattle.finder.specs.declared.rules.Rule.{Rule}
use Rattle.finder.specs.Faults.{number_of}
use Rattle.stepper.specs.declared.writing.Answer.{Answer}
use Rattle.stepper.specs.Next.{next_cells}
use Rattle.stepper.specs.Writing.{counted, fronted}
use Rattle.numbers.specs.declared.tables.Node.{Node}
use Rattle.numbers.specs.Cells.{node_of, handed}
use Rattle.numbers.specs.Steps.{counted_at, stepped, stepped_in}
use Rattle.exported.specs.Steps.{counted_to, stepped_to}

-- a finder's fault has a number
found_number : (r : FindReason) → number_of r ≢ 0
found_number TooManyCells e = omega arith
found_number BadCell e = omega arith
found_number NotWhole e = omega arith
found_number NoRule e = omega arith

counted_done : (r : Rule × ℕ) (next : List TermCell) (to : List Node) (n : Option ℕ)
    → (counted_at r n).number ≡ 0
    → handed node_of (fronted next (replicate 1024 blank)) to ≡ counted_to next to n
counted_done r next to None e = absurd (omega arith)
counted_done r next to (Some n) e = refl

-- a step that is made, and handed back
pub done : (cs : List TermCell) (a : Answer) (to : List Node)
    (found : Result (Option (Rule × ℕ)) FindFault)
    → (stepped cs a found).number ≡ 0
    → handed node_of (stepped_in cs a (replicate 1024 blank) found) to ≡ stepped_to cs a to found
done cs a to (Ok None) e = absurd (omega arith)
done cs a to (Ok (Some r)) e =
    let next = next_cells cs r.0 r.1 a in
    counted_done r next to (counted next) e
done cs a to (Err f) e = absurd (found_number f.reason e)

counted_refused : (r : Rule × ℕ) (next : List TermCell) (to : List Node) (n : Option ℕ)
    → (counted_at r n).number ≢ 0
    → to ≡ counted_to next to n
counted_refused r next to None e = refl
counted_refused r next to (Some n) e = absurd (e refl)

-- a step that is refused
pub refused : (cs : List TermCell) (a : Answer) (to : List Node)
    (found : Result (Option (Rule × ℕ)) FindFault)
    → (stepped cs a found).number ≢ 0 → to ≡ stepped_to cs a to found
refused cs a to (Ok None) e = refl
refused cs a to (Ok (Some r)) e =
    let next = next_cells cs r.0 r.1 a in
    counted_refused r next to (counted next) e
refused cs a to (Err f) e = refl

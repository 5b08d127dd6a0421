-- The faults of the finder with their numbers.
use Rattle.std.specs.Prelude.{ℕ}
use Rattle.finder.specs.declared.faults.FindReason.{FindReason}
use Rattle.finder.specs.declared.faults.FindReason.TheVariants.{TooManyCells, BadCell, NotWhole}
use Rattle.finder.specs.declared.faults.FindReason.TheVariants.{NoRule}
use Rattle.finder.specs.declared.faults.FindFault.{FindFault}

abbrev pub number_of : FindReason → ℕ
number_of TooManyCells = 20
number_of BadCell = 21
number_of NotWhole = 22
number_of NoRule = 36

-- the fault for a reason at a cell
abbrev pub fault : FindReason → ℕ → FindFault
fault r k = record { reason = r; cell = k }

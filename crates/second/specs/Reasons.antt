-- The numbers of refusals, and the faults for them.
use Rattle.std.specs.Prelude.{ℕ, Ok, Err, Result}
use Rattle.std.specs.declared.alloc.AllocError.{AllocError}
use Rattle.second.specs.declared.halt.Fault.{Fault}
use Rattle.second.specs.declared.halt.Halt.{Halt}
use Rattle.second.specs.declared.halt.Halt.TheVariants.{Memory, Fault as FaultHalt}
use Rattle.second.specs.declared.halt.Reason.{Reason}
use Rattle.second.specs.declared.halt.Reason.TheVariants.{Header, Line, Number, FullTable, End}
use Rattle.second.specs.declared.halt.Reason.TheVariants.{TooManyCells, BadCell, NotWhole}
use Rattle.second.specs.declared.halt.Reason.TheVariants.{ClaimOutside, TooDeep, NoBinder}
use Rattle.second.specs.declared.halt.Reason.TheVariants.{WrongClaim, UsedTwice, Captures}
use Rattle.second.specs.declared.halt.Reason.TheVariants.{NoRule, TooLong}
use Rattle.second.specs.declared.halt.Reason.TheVariants.{NoPulses, Full, NotLive, GivenTwice}

-- the number that stands for a reason
abbrev pub number_of : Reason → ℕ
number_of Header = 11
number_of Line = 12
number_of Number = 13
number_of FullTable = 14
number_of End = 15
number_of TooManyCells = 20
number_of BadCell = 21
number_of NotWhole = 22
number_of ClaimOutside = 23
number_of TooDeep = 24
number_of NoBinder = 25
number_of WrongClaim = 26
number_of UsedTwice = 27
number_of Captures = 28
number_of NoRule = 36
number_of TooLong = 37
number_of NoPulses = 41
number_of Full = 42
number_of NotLive = 45
number_of GivenTwice = 46

-- the fault for a reason at a line, a cell or a count of steps
abbrev pub fault : Reason → ℕ → Fault
fault r k = record { reason = r; place = k }

-- a halt by this fault
abbrev pub halt : Reason → ℕ → Halt
halt r k = FaultHalt (fault r k)

-- the answer or its fault, or that no memory was left
abbrev pub outcome_of : {T : Type 0} → Result T Halt → Result (Result T Fault) AllocError
outcome_of (Ok v) = Ok (Ok v)
outcome_of (Err (FaultHalt f)) = Ok (Err f)
outcome_of (Err (Memory e)) = Err e

-- The faults of a program with their numbers, and verdicts made of tests in a row.
use Rattle.std.specs.Prelude.{ℕ, Bool, cond, Ok, Err, Result}
use Rattle.verdict.specs.declared.faults.CheckReason.{CheckReason}
use Rattle.verdict.specs.declared.faults.CheckReason.TheVariants.{TooManyCells, BadCell, NotWhole}
use Rattle.verdict.specs.declared.faults.CheckReason.TheVariants.{ClaimOutside, TooDeep, NoBinder}
use Rattle.verdict.specs.declared.faults.CheckReason.TheVariants.{WrongClaim, UsedTwice, Captures}
use Rattle.verdict.specs.declared.faults.CheckFault.{CheckFault}

abbrev pub number_of : CheckReason → ℕ
number_of TooManyCells = 20
number_of BadCell = 21
number_of NotWhole = 22
number_of ClaimOutside = 23
number_of TooDeep = 24
number_of NoBinder = 25
number_of WrongClaim = 26
number_of UsedTwice = 27
number_of Captures = 28

-- the fault for a reason at a cell
abbrev pub fault : CheckReason → ℕ → CheckFault
fault r k = record { reason = r; cell = k }

-- Accepted, or refused by a fault.
abbrev pub Verdict : Type 0
Verdict = Result (Unit {0}) CheckFault

abbrev pub accepted : Verdict
accepted = Ok tt

-- the fault, or the next test where the first one passes
abbrev pub must : Bool → CheckFault → Verdict → Verdict
must b f v = cond b v (Err f)

-- the first refusal of two verdicts
infixr 20 ◌then◌
abbrev pub ◌then◌ : Verdict → Verdict → Verdict
(Ok x) then w = w
(Err f) then w = Err f

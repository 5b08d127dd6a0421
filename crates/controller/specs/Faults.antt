-- The numbers of the controller's faults, and when a step may begin.
use Rattle.std.specs.Prelude.{ℕ, cond, Some, None, Ok, Err, Option, Result, ◌==◌, nat_lt}
use Rattle.calculus.specs.declared.limits.TheConstants.{MOST_RUNNING_CELLS}
use Rattle.registers.specs.Answers.{number_of}
use Rattle.controller.specs.declared.faults.ControllerFault.{ControllerFault}
use Rattle.controller.specs.declared.faults.ControllerFault.TheVariants.{NothingLoaded}
use Rattle.controller.specs.declared.faults.ControllerFault.TheVariants.{AlreadyLoaded, GateNotMade}
use Rattle.controller.specs.declared.faults.ControllerFault.TheVariants.{ShortTable, AtValue}
use Rattle.controller.specs.declared.faults.ControllerFault.TheVariants.{NoRule, TooLong, NoValue}
use Rattle.controller.specs.declared.faults.ControllerFault.TheVariants.{ShortTables, Register}
use Rattle.controller.specs.declared.faults.Refusal.{Refusal}

abbrev pub fault_number : ControllerFault → ℕ
fault_number NothingLoaded = 31
fault_number AlreadyLoaded = 32
fault_number GateNotMade = 33
fault_number ShortTable = 34
fault_number AtValue = 35
fault_number NoRule = 36
fault_number TooLong = 37
fault_number NoValue = 38
fault_number ShortTables = 39
fault_number (Register f) = number_of f.reason

-- of a running term of so many cells, none where nothing is loaded, and a work table of so many
abbrev pub ready_answer : ℕ → ℕ → Result (Unit {0}) ControllerFault
ready_answer running work =
    cond (running == 0) (Err NothingLoaded)
    (cond (nat_lt work MOST_RUNNING_CELLS) (Err ShortTable) (Ok tt))

-- a refused call, with its place
abbrev pub refused : {A : Type 0} → ControllerFault → ℕ → Result A Refusal
refused fault place = Err (record { fault = fault; place = place })

-- the number of a refusal, if the call is refused
abbrev pub number_refused : {A : Type 0} → Result A Refusal → Option ℕ
number_refused (Ok x) = None
number_refused (Err f) = Some (fault_number f.fault)

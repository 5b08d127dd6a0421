-- What abandoning and collecting answer, and what they leave.
use Rattle.std.specs.Prelude.{◌≡◌, ℕ, Bool, true, false, cond, not, ◌||◌, length, Some, None, Ok}
use Rattle.std.specs.Prelude.{Err, Option, Result, nat_lt}
use Rattle.finder.specs.declared.rules.Rule.{Rule}
use Rattle.finder.specs.declared.faults.FindFault.{FindFault}
use Rattle.finder.specs.Finding.{answer}
use Rattle.registers.specs.declared.register.Register.{Ghosts}
use Rattle.registers.specs.Meaning.{after_clear}
use Rattle.controller.specs.declared.faults.ControllerFault.TheVariants.{NothingLoaded}
use Rattle.controller.specs.declared.faults.ControllerFault.TheVariants.{NoValue, ShortTables}
use Rattle.controller.specs.declared.faults.Refusal.{Refusal}
use Rattle.controller.specs.Faults.{refused}
use Rattle.controller.specs.declared.shot.Shot.{Shot}
use Rattle.controller.specs.Shots.{Held, held, nothing_held, is_loaded}

-- What ending a shot leaves: nothing is held, and the register is cleared.
abbrev pub Ends : {R : Type 0} → Ghosts R → Shot → R → R → Type 0
Ends kind shot' register register' =
    (held shot' ≡ nothing_held)
    × (kind.meaning register' ≡ after_clear kind.changes (kind.meaning register))

abbrev pub abandon_answer : Held → Result (Unit {0}) Refusal
abandon_answer h = cond (is_loaded h) (Ok tt) (refused NothingLoaded h.steps)

-- the finder's answer for a value
abbrev pub is_value : Result (Option (Rule × ℕ)) FindFault → Bool
is_value (Ok None) = true
is_value (Ok (Some x)) = false
is_value (Err f) = false

-- one of two tables of so many places is too short for the value or its type
abbrev pub are_short : Held → ℕ → ℕ → Bool
are_short h room kinds_room = nat_lt room (length h.cells) || nat_lt kinds_room (length h.kinds)

-- both counts, for tables of so many places
abbrev pub collect_answer : Held → ℕ → ℕ → Result (ℕ × ℕ) Refusal
collect_answer h room kinds_room =
    cond (not (is_loaded h)) (refused NothingLoaded h.steps)
    (cond (not (is_value (answer h.cells))) (refused NoValue h.steps)
    (cond (are_short h room kinds_room) (refused ShortTables h.steps)
    (Ok (length h.cells, length h.kinds))))

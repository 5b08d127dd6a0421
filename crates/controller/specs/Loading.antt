-- When a load is refused, and what it answers.
use Rattle.std.specs.Prelude.{◌≡◌, ℕ, ◌⊎◌, Bool, true, false, cond, List, length, Some, None, Ok}
use Rattle.std.specs.Prelude.{Err, Option, Result, ◌==◌}
use Rattle.calculus.specs.Alphabet.{op_gate}
use Rattle.trees.specs.Failing.{first_failing}
use Rattle.calculus.specs.Gates.{gate_of}
use Rattle.calculus.specs.Terms.{Term}
use Rattle.calculus.specs.declared.cells.TermCell.{TermCell}
use Rattle.calculus.specs.declared.gates.Gate.{Gate}
use Rattle.rows.specs.Gates.{FirstUnmade}
use Rattle.controller.specs.declared.faults.ControllerFault.TheVariants.{AlreadyLoaded, GateNotMade}
use Rattle.controller.specs.declared.faults.Refusal.{Refusal}
use Rattle.controller.specs.Faults.{refused}
use Rattle.controller.specs.Shots.{Held, is_loaded}

abbrev pub gate_made : (Gate → Bool) → Option Gate → Bool
gate_made makes None = false
gate_made makes (Some g) = makes g

-- the cell names no gate, or one that is made
abbrev pub is_made : (Gate → Bool) → TermCell → Bool
is_made makes c = cond (c.op == op_gate) (gate_made makes (gate_of c.argument)) true

-- the first cell that names a gate which is not made
abbrev pub first_unmade : (Gate → Bool) → List TermCell → Option ℕ
first_unmade makes cs = first_failing (is_made makes) cs 0

-- the number of cells, or the first that names a gate which is not made
abbrev pub count_or_unmade : Option ℕ → ℕ → Result ℕ Refusal
count_or_unmade None n = Ok n
count_or_unmade (Some cell) n = refused GateNotMade cell

-- A load while something is loaded is refused. Else one that names a gate not made is refused, with
-- its cell.
abbrev pub load_answer : (Gate → Bool) → Held → List TermCell → Result ℕ Refusal
load_answer makes h terms =
    cond (is_loaded h) (refused AlreadyLoaded h.steps)
    (count_or_unmade (first_unmade makes terms) (length terms))

-- A load that is refused for a gate carries the first cell of the term, in tree order, that names
-- one not made. Any other refused load carries the steps.
abbrev pub LoadPlace : {C : Type 0} → (Gate → Bool) → Held → Term C → Result ℕ Refusal → Type 0
LoadPlace makes h m (Ok n) = Unit {0}
LoadPlace makes h m (Err f) =
    ((f.fault ≡ AlreadyLoaded) × (f.place ≡ h.steps))
    ⊎ ((f.fault ≡ GateNotMade) × FirstUnmade makes m f.place)

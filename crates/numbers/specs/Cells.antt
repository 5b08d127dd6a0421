-- Cells and pulses as a caller knows them that has numbers only.
use Rattle.std.specs.Prelude.{ℕ, ◌+◌, Bool, cond, min, nat_lt}
use Rattle.std.specs.Prelude.{List, [], ◌∷◌, ◌++◌, map, length, take, drop}
use Rattle.calculus.specs.declared.cells.TermCell.{TermCell}
use Rattle.calculus.specs.declared.cells.TypeCell.{TypeCell}
use Rattle.calculus.specs.declared.limits.TheConstants.{MOST_TYPE_CELLS, MOST_TERM_CELLS}
use Rattle.calculus.specs.declared.limits.TheConstants.{MOST_RUNNING_CELLS}
use Rattle.calculus.specs.Gates.{number_of}
use Rattle.registers.specs.declared.journal.Entry.{Entry}
use Rattle.registers.specs.declared.journal.Entry.TheVariants.{Empty, Prepare, Gate as Gated, Read}
use Rattle.numbers.specs.declared.tables.Node.{Node}
use Rattle.numbers.specs.declared.tables.Pulse.{Pulse}
use Rattle.numbers.specs.declared.tables.TheConstants.{NO_PULSE, PREPARED, GATE_MADE, READ}

-- a letter by its number; a number from 256 on is no letter
abbrev pub letter_of : ℕ → ℕ
letter_of n = cond (nat_lt n 256) n 0

abbrev pub kind_of : ℕ → TypeCell
kind_of n = record { kind = letter_of n }

abbrev pub cell_of : Node → TermCell
cell_of n = record { op = letter_of n.letter; argument = n.argument; claim = n.claim }

abbrev pub number_of_kind : TypeCell → ℕ
number_of_kind c = c.kind

abbrev pub node_of : TermCell → Node
node_of c = record { letter = c.op; argument = c.argument; claim = c.claim }

abbrev pub bit_of : Bool → ℕ
bit_of b = cond b 1 0

-- a pulse on one qubit, with a bit
abbrev pub bit_pulse : ℕ → ℕ → Bool → Pulse
bit_pulse kind handle bit = record { kind = kind; what = bit_of bit; on = handle ∷ 0 ∷ 0 ∷ [] }

-- what a pulse did, in five numbers
abbrev pub pulse_of : Entry → Pulse
pulse_of Empty = record { kind = NO_PULSE; what = 0; on = 0 ∷ 0 ∷ 0 ∷ [] }
pulse_of (Prepare h b) = bit_pulse PREPARED h b
pulse_of (Gated g on) = record { kind = GATE_MADE; what = number_of g; on = on }
pulse_of (Read h b) = bit_pulse READ h b

-- a table whose front is made of other cells one by one, so many of them; the rest stays
abbrev pub fronted_by : {X Y : Type 0} → ℕ → (X → Y) → List X → List Y → List Y
fronted_by n f xs ys = map f (take n xs) ++ drop n ys

-- the same, as far as both reach
abbrev pub handed : {X Y : Type 0} → (X → Y) → List X → List Y → List Y
handed f xs ys = fronted_by (min (length ys) (length xs)) f xs ys

-- what a call looks at of a program's tables: no more than one cell past each limit
abbrev pub kinds_seen : List ℕ → List TypeCell
kinds_seen letters = map kind_of (take (MOST_TYPE_CELLS + 1) letters)

abbrev pub cells_seen : List Node → List TermCell
cells_seen nodes = map cell_of (take (MOST_TERM_CELLS + 1) nodes)

-- the same of a running term
abbrev pub running_seen : List Node → List TermCell
running_seen nodes = map cell_of (take (MOST_RUNNING_CELLS + 1) nodes)

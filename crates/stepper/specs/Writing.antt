-- Cells written into a table.
use Rattle.std.specs.Prelude.{ℕ, ◌+◌, ◌-◌, nat_le, true, false, cond, ◌&&◌}
use Rattle.std.specs.Prelude.{List, ◌++◌, length, take, drop, Some, None, Option}
use Rattle.calculus.specs.Alphabet.{op_qubit, op_zero, op_one, op_unit}
use Rattle.calculus.specs.declared.limits.TheConstants.{MOST_RUNNING_CELLS}
use Rattle.calculus.specs.declared.cells.TermCell.{TermCell}
use Rattle.stepper.specs.declared.writing.Answer.{Answer}
use Rattle.stepper.specs.declared.writing.Answer.TheVariants.{Nothing, Handle, Outcome}

-- a cell of a running term, which claims nothing
abbrev pub running_cell : ℕ → ℕ → TermCell
running_cell op argument = record { op = op; argument = argument; claim = 0 }

-- the cell of the register's answer: the unit value for none, a qubit's name, or a bit
abbrev pub answer_cell : Answer → TermCell
answer_cell Nothing = running_cell op_unit 0
answer_cell (Handle h) = running_cell op_qubit h
answer_cell (Outcome true) = running_cell op_one 0
answer_cell (Outcome false) = running_cell op_zero 0

-- the number of cells after some are put behind the first `len`, if a running term may have so many
abbrev pub put_count : ℕ → List TermCell → Option ℕ
put_count len cs = cond (nat_le (len + length cs) MOST_RUNNING_CELLS)
    (Some (len + length cs)) None

-- a table with cells written over it from `at` on, as far as it goes
abbrev pub overlaid : List TermCell → ℕ → List TermCell → List TermCell
overlaid table at cs = take at table ++ (take (length table - at) cs ++ drop (at + length cs) table)

-- how many cells there are, if a running term may have so many
abbrev pub counted : List TermCell → Option ℕ
counted cs = cond (nat_le (length cs) MOST_RUNNING_CELLS) (Some (length cs)) None

-- the table with the cells at its front and its rest as it was; one that is too short, or would
-- begin with too many cells, stays
abbrev pub fronted : List TermCell → List TermCell → List TermCell
fronted cs table =
    cond (nat_le (length cs) MOST_RUNNING_CELLS && nat_le (length cs) (length table))
    (cs ++ drop (length cs) table) table

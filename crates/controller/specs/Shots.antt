-- What a shot holds, and what a load and an unload make of it.
use Rattle.std.specs.Prelude.{ℕ, Bool, List, [], ◌∷◌, length, nat_lt}
use Rattle.calculus.specs.declared.cells.TermCell.{TermCell}
use Rattle.calculus.specs.declared.cells.TypeCell.{TypeCell}
use Rattle.calculus.specs.Cells.{type_cells, cell_of, unclaimed}
use Rattle.calculus.specs.Reading.{type_at}
use Rattle.controller.specs.declared.shot.Shot.{Shot}

-- What a shot holds. Where nothing is loaded there are no cells.
pub record Held : Type 0 where
  pub cells : List TermCell  -- of the running term
  pub kinds : List TypeCell  -- of its loaded type
  pub steps : ℕ  -- how many were made since the load

abbrev pub held : Shot → Held
held s = record { cells = s.cells.items; kinds = s.kinds.items; steps = s.steps }

abbrev pub nothing_held : Held
nothing_held = record { cells = []; kinds = []; steps = 0 }

abbrev pub is_loaded : Held → Bool
is_loaded h = nat_lt 0 (length h.cells)

abbrev pub claiming_nothing : TermCell → TermCell
claiming_nothing c = cell_of c.op c.argument 0

-- the place that the root claims
abbrev pub root_claim : List TermCell → ℕ
root_claim [] = 0
root_claim (c ∷ cs) = c.claim

-- the cells of the type that the root claims
abbrev pub root_cells : List TypeCell → List TermCell → List TypeCell
root_cells types terms = type_cells (type_at types (root_claim terms))

-- a program as it is loaded: its term, which claims nothing as it runs, and its root's type
abbrev pub program_held : List TypeCell → List TermCell → Held
program_held types terms =
    record { cells = unclaimed terms; kinds = root_cells types terms; steps = 0 }

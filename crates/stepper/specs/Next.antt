-- The next term: what a rule leaves, in place of its redex. The first two cells of a redex tell the
-- rule, and its trees follow them.
use Rattle.std.specs.Prelude.{ℕ, ◌+◌, List, [], ◌∷◌, ◌++◌, take, drop}
use Rattle.calculus.specs.declared.cells.TermCell.{TermCell}
use Rattle.finder.specs.declared.rules.Rule.{Rule}
use Rattle.finder.specs.declared.rules.Rule.TheVariants.{Function, Pair, Then, Else}
use Rattle.finder.specs.declared.rules.Rule.TheVariants.{Prepare, Read, Gates}
use Rattle.stepper.specs.declared.writing.Answer.{Answer}
use Rattle.stepper.specs.Parts.{taken, after}
use Rattle.stepper.specs.Substitution.{substitute}
use Rattle.stepper.specs.Writing.{answer_cell}

-- how many trees a redex has: body and argument, left, right and body, both branches, or argument
abbrev pub trees : Rule → ℕ
trees Function = 2
trees Pair = 3
trees Then = 2
trees Else = 2
trees Prepare = 1
trees Read = 1
trees Gates = 1

-- what the rule leaves of the trees that the cells begin with
abbrev pub left : Rule → Answer → List TermCell → List TermCell
left Function answer cs = substitute (taken 1 (after 1 cs) ∷ []) (0 ∷ []) cs
left Pair answer cs = substitute (taken 1 (after 1 cs) ∷ taken 1 cs ∷ []) (0 ∷ []) (after 2 cs)
left Then answer cs = taken 1 cs
left Else answer cs = taken 1 (after 1 cs)
left Prepare answer cs = answer_cell answer ∷ []
left Read answer cs = answer_cell answer ∷ []
left Gates answer cs = taken 1 cs

-- the cells of the next term, by a rule at a cell with the register's answer
abbrev pub next_cells : List TermCell → Rule → ℕ → Answer → List TermCell
next_cells cs rule at answer =
    take at cs ++ (left rule answer (drop (at + 2) cs) ++ after (trees rule) (drop (at + 2) cs))

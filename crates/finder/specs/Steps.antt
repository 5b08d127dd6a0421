-- Where a step is made and by which rule, read off its derivation.
use Rattle.std.specs.Prelude.{ℕ, ◌+◌}
use Rattle.calculus.specs.Terms.{Running, size}
use Rattle.calculus.specs.Reduction.{Effect, Reduces, in_argument, in_function}
use Rattle.calculus.specs.Reduction.{in_left, in_right, in_condition, in_pair}
use Rattle.calculus.specs.Reduction.{apply_function, open_pair, take_then, take_else}
use Rattle.calculus.specs.Reduction.{prepare_qubit, read_qubit, apply_gate}
use Rattle.finder.specs.declared.rules.Rule.{Rule}
use Rattle.finder.specs.declared.rules.Rule.TheVariants.{Function, Pair, Then, Else}
use Rattle.finder.specs.declared.rules.Rule.TheVariants.{Prepare, Read, Gates}

-- the rule by which a step is made
abbrev pub step_rule : {m n : Running} {e : Effect} → Reduces m e n → Rule
step_rule (apply_function v) = Function
step_rule (open_pair v w) = Pair
step_rule take_then = Then
step_rule take_else = Else
step_rule prepare_qubit = Prepare
step_rule read_qubit = Read
step_rule (apply_gate o) = Gates
step_rule (in_argument d) = step_rule d
step_rule (in_function v d) = step_rule d
step_rule (in_left d) = step_rule d
step_rule (in_right v d) = step_rule d
step_rule (in_condition d) = step_rule d
step_rule (in_pair d) = step_rule d

-- the cell at which the rule applies, counted from the term's first
abbrev pub step_cell : {m n : Running} {e : Effect} → Reduces m e n → ℕ
step_cell (apply_function v) = 0
step_cell (open_pair v w) = 0
step_cell take_then = 0
step_cell take_else = 0
step_cell prepare_qubit = 0
step_cell read_qubit = 0
step_cell (apply_gate o) = 0
step_cell (in_argument {m = m} d) = 1 + size m + step_cell d
step_cell (in_function v d) = 1 + step_cell d
step_cell (in_left d) = 1 + step_cell d
step_cell (in_right {v = v} w d) = 1 + size v + step_cell d
step_cell (in_condition d) = 1 + step_cell d
step_cell (in_pair d) = 1 + step_cell d

-- The finder's search is the calculus's reduction.
use Rattle.std.specs.Prelude.{◌≡◌, ℕ, ◌<◌, ◌+◌, ◌≤◌, T, ◌⊎◌, ◌↔◌, Some, None, Ok, Err}
use Rattle.std.specs.Prelude.{List, [], ◌∷◌, ◌++◌, map, length, get_or, drop}
use Rattle.calculus.specs.declared.limits.TheConstants.{MOST_RUNNING_CELLS}
use Rattle.calculus.specs.declared.cells.TermCell.{TermCell}
use Rattle.calculus.specs.declared.gates.Gate.{Gate}
use Rattle.calculus.specs.declared.gates.Gate.TheVariants.{H, X, Z, S, Cnot, Swap, Toffoli}
use Rattle.calculus.specs.declared.gates.Gate.TheVariants.{T as gate_t}
use Rattle.calculus.specs.Gates.{number_of}
use Rattle.calculus.specs.Letters.{allowed}
use Rattle.calculus.specs.Terms.{bit_of, Running}
use Rattle.calculus.specs.Cells.{const_op, running_cells, unclaimed, blank}
use Rattle.calculus.specs.Reading.{every}
use Rattle.calculus.specs.Reduction.{Value, Effect, silent, prepares, reads, applies, Reduces}
use Rattle.finder.specs.Due.{Due}
use Rattle.finder.specs.Faults.{fault}
use Rattle.finder.specs.Finding.{tested, answer}
use Rattle.finder.specs.Steps.{step_rule, step_cell}
use Rattle.finder.specs.declared.rules.Rule.{Rule}
use Rattle.finder.specs.declared.rules.Rule.TheVariants.{Function, Pair, Then, Else}
use Rattle.finder.specs.declared.rules.Rule.TheVariants.{Prepare, Read, Gates}
use Rattle.finder.specs.declared.faults.FindReason.TheVariants.{NoRule}

-- The cells are those of the running term but for their claims, each allowed, and not too many.
pub record Means (cs : List TermCell) (m : Running) : Type 0 where
  pub few : length cs ≤ MOST_RUNNING_CELLS
  pub each_allowed : T (every allowed cs)
  pub written : unclaimed cs ≡ running_cells m

abbrev pub op_at : List TermCell → ℕ → ℕ
op_at cs k = (get_or cs k blank).op

abbrev pub argument_at : List TermCell → ℕ → ℕ
argument_at cs k = (get_or cs k blank).argument

-- the cells of the qubits of a gate that is applied at a cell
abbrev pub qubit_cells : Gate → ℕ → List ℕ
qubit_cells H k = (k + 2) ∷ []
qubit_cells X k = (k + 2) ∷ []
qubit_cells Z k = (k + 2) ∷ []
qubit_cells S k = (k + 2) ∷ []
qubit_cells gate_t k = (k + 2) ∷ []
qubit_cells Cnot k = (k + 3) ∷ (k + 4) ∷ []
qubit_cells Swap k = (k + 3) ∷ (k + 4) ∷ []
qubit_cells Toffoli k = (k + 3) ∷ (k + 5) ∷ (k + 6) ∷ []

-- The rule at the cell asks the register for what the effect is: nothing, a qubit with the bit two
-- cells on, what the qubit two cells on reads, or the gate of the next cell on the qubits after it.
abbrev pub Asks : List TermCell → Rule → ℕ → Effect → Type 0
Asks cs r k silent = (r ≡ Function) ⊎ ((r ≡ Pair) ⊎ ((r ≡ Then) ⊎ (r ≡ Else)))
Asks cs r k (prepares b h) = (r ≡ Prepare) × (op_at cs (k + 2) ≡ const_op (bit_of b))
Asks cs r k (reads h b) = (r ≡ Read) × (argument_at cs (k + 2) ≡ h)
Asks cs r k (applies u hs) = (r ≡ Gates) × (argument_at cs (k + 1) ≡ number_of u)
    × (map (argument_at cs) (qubit_cells u k) ≡ hs)

pub record SearchIsReduction : Type 0 where
  -- claims are not looked at
  pub claims : (cs : List TermCell) → answer (unclaimed cs) ≡ answer cs
  -- the tests refuse exactly the cells that are no running term
  pub passes : (cs : List TermCell) → (tested cs ≡ Ok tt) ↔ ((m : Running) × Means cs m)
  -- nothing is answered exactly for a value
  pub value : (cs : List TermCell) (m : Running) → Means cs m → (answer cs ≡ Ok None) ↔ Value m
  -- a rule and a cell exactly where a step is made, by that rule at that cell
  pub step : (cs : List TermCell) (m : Running) (r : Rule) (k : ℕ) → Means cs m
      → (answer cs ≡ Ok (Some (r, k)))
      ↔ ((e : Effect) × (n : Running) × (d : Reduces m e n)
      × (step_rule d ≡ r) × (step_cell d ≡ k))
  -- that is one of the cells
  pub within : (cs : List TermCell) (r : Rule) (k : ℕ) → answer cs ≡ Ok (Some (r, k))
      → k < length cs
  -- the rule applies to the part that is due, and a term has one step
  pub redex : (m n : Running) (e : Effect) (d : Reduces m e n)
      → (p q : Running) × (r : Reduces p e q) × Due m (step_cell d) p
      × (step_rule r ≡ step_rule d) × (step_cell r ≡ 0)
  pub one : (m n n' : Running) (e e' : Effect) (d : Reduces m e n) (d' : Reduces m e' n')
      → (step_rule d ≡ step_rule d') × (step_cell d ≡ step_cell d')
  -- the cells of the part that is due stand at its place
  pub stands : (m p : Running) (k : ℕ) → Due m k p
      → (ds : List TermCell) × (drop k (running_cells m) ≡ running_cells p ++ ds)
  -- what the step asks of the register stands at its cell
  pub asks : (cs : List TermCell) (m n : Running) (e : Effect) → Means cs m
      → (d : Reduces m e n) → Asks cs (step_rule d) (step_cell d) e
  -- no rule is found exactly at the cell of a due part that takes no step
  pub stuck : (cs : List TermCell) (m : Running) (k : ℕ) → Means cs m
      → (answer cs ≡ Err (fault NoRule k))
      ↔ ((p : Running) × Due m k p × ((e : Effect) (n : Running) → Reduces p e n → ⊥))
  -- so exactly for a term that is no value and takes no step
  pub nowhere : (cs : List TermCell) (m : Running) → Means cs m
      → ((k : ℕ) × (answer cs ≡ Err (fault NoRule k)))
      ↔ ((Value m → ⊥) × ((e : Effect) (n : Running) → Reduces m e n → ⊥))

-- Steps of the calculus are made on cells.
use Rattle.std.specs.Prelude.{◌≡◌, ℕ, ◌+◌, ◌<◌, ◌≤◌, Bool, true, false, Some, Ok}
use Rattle.std.specs.Prelude.{List, [], ◌∷◌, ◌++◌, length, take, drop, map}
use Rattle.calculus.specs.declared.limits.TheConstants.{MOST_RUNNING_CELLS}
use Rattle.calculus.specs.Types.{Ty}
use Rattle.calculus.specs.Terms.{bound, Running, Free}
use Rattle.calculus.specs.Names.{WellTyped}
use Rattle.calculus.specs.Cells.{running_cells, unclaimed}
use Rattle.calculus.specs.Reduction.{Effect, silent, prepares, reads, applies, Reduces, substituted}
use Rattle.calculus.specs.Safety.{Alike}
use Rattle.calculus.specs.declared.cells.TermCell.{TermCell}
use Rattle.finder.specs.Finding.{answer}
use Rattle.finder.specs.Laws.{Means, Asks}
use Rattle.finder.specs.Steps.{step_rule, step_cell}
use Rattle.finder.specs.declared.rules.Rule.{Rule}
use Rattle.finder.specs.declared.rules.Rule.TheVariants.{Function, Pair, Then, Else}
use Rattle.finder.specs.declared.rules.Rule.TheVariants.{Prepare, Read, Gates}
use Rattle.stepper.specs.declared.writing.Answer.{Answer}
use Rattle.stepper.specs.declared.writing.Answer.TheVariants.{Nothing, Handle, Outcome}
use Rattle.stepper.specs.Next.{next_cells}
use Rattle.stepper.specs.Parts.{after}
use Rattle.stepper.specs.Substitution.{substitute}
use Rattle.stepper.specs.Writing.{answer_cell}

-- no variable of the term is free but qubits
abbrev pub Closed : Running → Type 0
Closed m = (i : ℕ) → Free (bound i) m → ⊥

abbrev pub AllClosed : List Running → Type 0
AllClosed [] = Unit {0}
AllClosed (v ∷ vs) = Closed v × AllClosed vs

-- what the register answered to an effect
abbrev pub answer_of : Effect → Answer
answer_of silent = Nothing
answer_of (prepares b h) = Handle h
answer_of (reads h b) = Outcome b
answer_of (applies u hs) = Nothing

-- what the register may answer to a rule: a handle to a preparation, an outcome to a reading
pub data Fits : Rule → Answer → Type 0 where
  fits_function : Fits Function Nothing
  fits_pair : Fits Pair Nothing
  fits_then : Fits Then Nothing
  fits_else : Fits Else Nothing
  fits_prepare : {h : ℕ} → h < 32 → Fits Prepare (Handle h)
  fits_read : {b : Bool} → Fits Read (Outcome b)
  fits_gates : Fits Gates Nothing

-- a step by the same rule at the same cell that asks for the same, with a given answer
pub record Answered {m n : Running} {e : Effect} (d : Reduces m e n) (a : Answer) : Type 0 where
  pub effect : Effect
  pub next : Running
  pub step : Reduces m effect next
  pub same_rule : step_rule step ≡ step_rule d
  pub same_cell : step_cell step ≡ step_cell d
  pub alike : Alike e effect
  pub answers : answer_of effect ≡ a

-- The next cells are those of the term that a step of the calculus leaves, but for claims. It is so
-- where the cells mean a term in which nothing but qubits is free, the rule at the cell is the one
-- that the finder answers, and the answer fits the rule.
abbrev pub MakesStep : List TermCell → Rule → ℕ → Answer → Type 0
MakesStep cs rule at a = (m : Running) → Means cs m → Closed m → answer cs ≡ Ok (Some (rule, at))
    → Fits rule a
    → (e : Effect) × (n : Running) × (d : Reduces m e n) × (step_rule d ≡ rule) × (step_cell d ≡ at)
    × Asks cs rule at e × (answer_of e ≡ a)
    × (unclaimed (next_cells cs rule at a) ≡ running_cells n)

-- whether the register answers something to the rule: a handle or an outcome
abbrev pub is_answered : Rule → Bool
is_answered Function = false
is_answered Pair = false
is_answered Then = false
is_answered Else = false
is_answered Prepare = true
is_answered Read = true
is_answered Gates = false

-- How the next term on cells and the steps of the calculus agree.
pub record StepLaws : Type 0 where
  -- a step's rule at its cell, with the register's answer, makes the cells of the term that the
  -- step leaves
  pub steps : {m n : Running} {e : Effect} (d : Reduces m e n) → Closed m
      → next_cells (running_cells m) (step_rule d) (step_cell d) (answer_of e) ≡ running_cells n
  -- and cells that mean the one, whatever they claim, become cells that mean the other
  pub means : (cs : List TermCell) {m n : Running} {e : Effect} (d : Reduces m e n)
      → Means cs m → Closed m → Fits (step_rule d) (answer_of e)
      → length (next_cells cs (step_rule d) (step_cell d) (answer_of e)) ≤ MOST_RUNNING_CELLS
      → Means (next_cells cs (step_rule d) (step_cell d) (answer_of e)) n
  -- for every answer that the register may give to the rule there is a step with it
  pub answered : {m n : Running} {e : Effect} (d : Reduces m e n) (a : Answer)
      → Fits (step_rule d) a → Answered d a
  -- so the rule that the finder answers, at its cell, makes a step, with the answer that the
  -- register gives to what it asks
  pub found : (cs : List TermCell) (rule : Rule) (at : ℕ) (a : Answer) → MakesStep cs rule at a
  -- An answer to a rule that is answered nothing is disregarded. To another rule, whether it fits
  -- or not, its cell stands for the redex.
  pub disregarded : (cs : List TermCell) (rule : Rule) (at : ℕ) (a b : Answer)
      → is_answered rule ≡ false → next_cells cs rule at a ≡ next_cells cs rule at b
  pub stands : (cs : List TermCell) (rule : Rule) (at : ℕ) (a : Answer) → is_answered rule ≡ true
      → next_cells cs rule at a ≡ take at cs ++ (answer_cell a ∷ after 1 (drop (at + 2) cs))
  -- claims change nothing but claims
  pub unclaims : (cs : List TermCell) (rule : Rule) (at : ℕ) (a : Answer)
      → unclaimed (next_cells cs rule at a) ≡ next_cells (unclaimed cs) rule at a
  -- how many cells the next term has does not depend on the answer
  pub same_count : (cs : List TermCell) (rule : Rule) (at : ℕ) (a b : Answer)
      → length (next_cells cs rule at a) ≡ length (next_cells cs rule at b)
  -- substitution of closed terms on cells is that of the calculus
  pub substitutes : (vs : List Running) (m : Running) → AllClosed vs
      → substitute (map running_cells vs) (0 ∷ []) (running_cells m)
      ≡ running_cells (substituted 0 vs m)
  -- what is well-typed is closed
  pub closed : (m : Running) (a : Ty) → WellTyped m a → Closed m

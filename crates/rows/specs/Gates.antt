-- The gates that a term names, cell by cell in tree order, and the first that a register does not
-- make.
use Rattle.std.specs.Prelude.{◌≡◌, ℕ, ◌<◌, Bool, false, List, [], ◌∷◌, ◌++◌, Some, None, Option}
use Rattle.std.specs.List.{slice_get}
use Rattle.calculus.specs.declared.gates.Gate.{Gate}
use Rattle.calculus.specs.Terms.{Const, bit_of, meas, new, gate, Term, var, const, star, lam, app}
use Rattle.calculus.specs.Terms.{pair, if_then_else, let_pair}

abbrev pub gate_named : Const → Option Gate
gate_named (bit_of b) = None
gate_named meas = None
gate_named new = None
gate_named (gate u) = Some u

-- for each cell of the term, the gate that it names
abbrev pub gates_by_cell : {C : Type 0} → Term C → List (Option Gate)
gates_by_cell (var c x) = None ∷ []
gates_by_cell (const c k) = gate_named k ∷ []
gates_by_cell (star c) = None ∷ []
gates_by_cell (lam c m) = None ∷ gates_by_cell m
gates_by_cell (app c m n) = None ∷ (gates_by_cell m ++ gates_by_cell n)
gates_by_cell (pair c m n) = None ∷ (gates_by_cell m ++ gates_by_cell n)
gates_by_cell (if_then_else c p m n) =
    None ∷ (gates_by_cell p ++ (gates_by_cell m ++ gates_by_cell n))
gates_by_cell (let_pair c m n) = None ∷ (gates_by_cell m ++ gates_by_cell n)

module _ {C : Type 0} (makes : Gate → Bool) (m : Term C) where
  -- the cell names a gate that is not made
  abbrev pub UnmadeAt : ℕ → Type 0
  UnmadeAt k = (u : Gate) × (slice_get (gates_by_cell m) k ≡ Some (Some u)) × (makes u ≡ false)

  -- the cell does, and none before it
  pub record FirstUnmade (k : ℕ) : Type 0 where
    pub here : UnmadeAt k
    pub none_before : (j : ℕ) → j < k → UnmadeAt j → ⊥

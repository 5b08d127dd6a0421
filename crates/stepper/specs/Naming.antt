-- The qubits that cells name.
use Rattle.std.specs.Prelude.{ℕ, ◌==◌, nat_lt, Bool, true, false, cond, not, ◌&&◌}
use Rattle.std.specs.Prelude.{List, [], ◌∷◌, filter, Some, None, Option}
use Rattle.std.specs.List.{range_with_len}
use Rattle.calculus.specs.declared.limits.TheConstants.{HANDLES}
use Rattle.calculus.specs.Alphabet.{op_qubit}
use Rattle.calculus.specs.declared.cells.TermCell.{TermCell}

-- a q cell names the handle that is its argument
abbrev pub name_of : TermCell → Option ℕ
name_of c = cond (c.op == op_qubit && nat_lt c.argument HANDLES) (Some c.argument) None

abbrev pub is_name : Option ℕ → ℕ → Bool
is_name None h = false
is_name (Some k) h = k == h

-- some cell names the handle
abbrev pub names : List TermCell → ℕ → Bool
names [] h = false
names (c ∷ cs) h = cond (is_name (name_of c) h) true (names cs h)

-- the handles that are named before and not after, the lowest first
abbrev pub dropped : (ℕ → Bool) → (ℕ → Bool) → List ℕ
dropped before after = filter (λ h. before h && not (after h)) (range_with_len 0 32)

-- The search of a running term for the next step. An application works its argument first and then
-- its function, a pair its left and then its right, a let its pair, a condition its test.
use Rattle.std.specs.Prelude.{ℕ, ◌+◌, Bool, true, false, ◌&&◌, Some, None, Option}
use Rattle.std.specs.Bool.{then_some}
use Rattle.std.specs.Option.{option_or}
use Rattle.calculus.specs.declared.gates.Gate.{Gate}
use Rattle.calculus.specs.declared.gates.Gate.TheVariants.{H, X, Z, S, T, Cnot, Swap, Toffoli}
use Rattle.calculus.specs.Terms.{bit_of, meas, new, gate, bound, held, size, Running}
use Rattle.calculus.specs.Terms.{var, const, star, lam, app, pair, if_then_else, let_pair}
use Rattle.finder.specs.declared.rules.Rule.{Rule}
use Rattle.finder.specs.declared.rules.Rule.TheVariants.{Function, Pair, Then, Else}
use Rattle.finder.specs.declared.rules.Rule.TheVariants.{Prepare, Read, Gates}

abbrev pub is_bit : Running → Bool
is_bit (var c x) = false
is_bit (const c (bit_of b)) = true
is_bit (const c meas) = false
is_bit (const c new) = false
is_bit (const c (gate u)) = false
is_bit (star c) = false
is_bit (lam c m) = false
is_bit (app c m n) = false
is_bit (pair c m n) = false
is_bit (if_then_else c p m n) = false
is_bit (let_pair c m n) = false

abbrev pub is_qubit : Running → Bool
is_qubit (var c (bound i)) = false
is_qubit (var c (held h)) = true
is_qubit (const c k) = false
is_qubit (star c) = false
is_qubit (lam c m) = false
is_qubit (app c m n) = false
is_qubit (pair c m n) = false
is_qubit (if_then_else c p m n) = false
is_qubit (let_pair c m n) = false

-- a pair whose parts pass two tests
abbrev pub is_pair_of : (Running → Bool) → (Running → Bool) → Running → Bool
is_pair_of f g (var c x) = false
is_pair_of f g (const c k) = false
is_pair_of f g (star c) = false
is_pair_of f g (lam c m) = false
is_pair_of f g (app c m n) = false
is_pair_of f g (pair c m n) = f m && g n
is_pair_of f g (if_then_else c p m n) = false
is_pair_of f g (let_pair c m n) = false

-- the term is as many qubits as the gate takes
abbrev pub takes : Gate → Running → Bool
takes H m = is_qubit m
takes X m = is_qubit m
takes Z m = is_qubit m
takes S m = is_qubit m
takes T m = is_qubit m
takes Cnot m = is_pair_of is_qubit is_qubit m
takes Swap m = is_pair_of is_qubit is_qubit m
takes Toffoli m = is_pair_of is_qubit (is_pair_of is_qubit is_qubit) m

-- the rule for a value applied to a value
abbrev pub applied : Running → Running → Option Rule
applied (var c x) n = None
applied (const c (bit_of b)) n = None
applied (const c meas) n = then_some (is_qubit n) Read
applied (const c new) n = then_some (is_bit n) Prepare
applied (const c (gate u)) n = then_some (takes u n) Gates
applied (star c) n = None
applied (lam c m) n = Some Function
applied (app c m p) n = None
applied (pair c m p) n = None
applied (if_then_else c p m q) n = None
applied (let_pair c m p) n = None

-- the rule for a condition that is a value
abbrev pub branched : Running → Option Rule
branched (var c x) = None
branched (const c (bit_of false)) = Some Else
branched (const c (bit_of true)) = Some Then
branched (const c meas) = None
branched (const c new) = None
branched (const c (gate u)) = None
branched (star c) = None
branched (lam c m) = None
branched (app c m n) = None
branched (pair c m n) = None
branched (if_then_else c p m n) = None
branched (let_pair c m n) = None

-- the rule for a let of a value
abbrev pub opened : Running → Option Rule
opened (var c x) = None
opened (const c k) = None
opened (star c) = None
opened (lam c m) = None
opened (app c m n) = None
opened (pair c m n) = Some Pair
opened (if_then_else c p m n) = None
opened (let_pair c m n) = None

-- What a term waits for: nothing where it is a value, and else the cell that is due, with the rule
-- that applies there, if one does.
abbrev pub Found : Type 0
Found = Option (ℕ × Option Rule)

-- what the term whose first cell is at the place waits for
abbrev pub found : ℕ → Running → Found
found at (var c x) = None
found at (const c k) = None
found at (star c) = None
found at (lam c m) = None
found at (app c m n) =
    option_or (found (at + 1 + size m) n) (option_or (found (at + 1) m) (Some (at, applied m n)))
found at (pair c m n) = option_or (found (at + 1) m) (found (at + 1 + size m) n)
found at (if_then_else c p m n) = option_or (found (at + 1) p) (Some (at, branched p))
found at (let_pair c m n) = option_or (found (at + 1) m) (Some (at, opened m))

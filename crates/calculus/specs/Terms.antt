-- Terms of the calculus. Every node carries a claim of the type C.
use Rattle.std.specs.Prelude.{ℕ, suc, ◌+◌, Bool}
use Rattle.calculus.specs.declared.gates.Gate.{Gate}
use Rattle.calculus.specs.declared.gates.Gate.TheVariants.{H, X, Z, S, T, Cnot, Swap, Toffoli}
use Rattle.calculus.specs.Types.{Ty, bit, qbit, bang, arrow, tensor}

pub data Const : Type 0 where
  bit_of : Bool → Const
  meas : Const
  new : Const
  gate : Gate → Const

-- A variable: one that a binder of the term binds, counted outward from 0,
-- or one that stands for a qubit of the register, by its handle.
pub data Var : Type 0 where
  bound : ℕ → Var
  held : ℕ → Var

-- the same variable, seen from inside one binder more
abbrev pub under : Var → Var
under (bound i) = bound (suc i)
under (held h) = held h

pub data Term (C : Type 0) : Type 0 where
  var : C → Var → Term C
  const : C → Const → Term C
  star : C → Term C
  lam : C → Term C → Term C
  app : C → Term C → Term C → Term C
  pair : C → Term C → Term C → Term C
  if_then_else : C → Term C → Term C → Term C → Term C
  let_pair : C → Term C → Term C → Term C

-- A running term claims nothing.
abbrev pub Running : Type 0
Running = Term (Unit {0})

-- the type of the qubits that a gate takes and gives back
abbrev pub qubits : Gate → Ty
qubits H = qbit
qubits X = qbit
qubits Z = qbit
qubits S = qbit
qubits T = qbit
qubits Cnot = tensor qbit qbit
qubits Swap = tensor qbit qbit
qubits Toffoli = tensor qbit (tensor qbit qbit)

abbrev pub type_of : Const → Ty
type_of (bit_of b) = bang bit
type_of meas = bang (arrow qbit (bang bit))
type_of new = bang (arrow bit qbit)
type_of (gate u) = bang (arrow (qubits u) (qubits u))

-- x occurs free in the term
pub data Free {C : Type 0} : Var → Term C → Type 0 where
  free_var : {c : C} {x : Var} → Free x (var c x)
  free_lam : {c : C} {x : Var} {m : Term C} → Free (under x) m → Free x (lam c m)
  free_fun : {c : C} {x : Var} {m n : Term C} → Free x m → Free x (app c m n)
  free_arg : {c : C} {x : Var} {m n : Term C} → Free x n → Free x (app c m n)
  free_left : {c : C} {x : Var} {m n : Term C} → Free x m → Free x (pair c m n)
  free_right : {c : C} {x : Var} {m n : Term C} → Free x n → Free x (pair c m n)
  free_test : {c : C} {x : Var} {p m n : Term C} → Free x p → Free x (if_then_else c p m n)
  free_then : {c : C} {x : Var} {p m n : Term C} → Free x m → Free x (if_then_else c p m n)
  free_else : {c : C} {x : Var} {p m n : Term C} → Free x n → Free x (if_then_else c p m n)
  free_pair : {c : C} {x : Var} {m n : Term C} → Free x m → Free x (let_pair c m n)
  free_body : {c : C} {x : Var} {m n : Term C} → Free (under (under x)) n → Free x (let_pair c m n)

module _ {C : Type 0} where
  abbrev pub claim_of : Term C → C
  claim_of (var c x) = c
  claim_of (const c k) = c
  claim_of (star c) = c
  claim_of (lam c m) = c
  claim_of (app c m n) = c
  claim_of (pair c m n) = c
  claim_of (if_then_else c p m n) = c
  claim_of (let_pair c m n) = c

  -- how many nodes the term has, which is how many cells
  abbrev pub size : Term C → ℕ
  size (var c x) = 1
  size (const c k) = 1
  size (star c) = 1
  size (lam c m) = suc (size m)
  size (app c m n) = suc (size m + size n)
  size (pair c m n) = suc (size m + size n)
  size (if_then_else c p m n) = suc (size p + (size m + size n))
  size (let_pair c m n) = suc (size m + size n)

-- the same term with each claim changed by f
abbrev pub reclaimed : {C D : Type 0} → (C → D) → Term C → Term D
reclaimed f (var c x) = var (f c) x
reclaimed f (const c k) = const (f c) k
reclaimed f (star c) = star (f c)
reclaimed f (lam c m) = lam (f c) (reclaimed f m)
reclaimed f (app c m n) = app (f c) (reclaimed f m) (reclaimed f n)
reclaimed f (pair c m n) = pair (f c) (reclaimed f m) (reclaimed f n)
reclaimed f (if_then_else c p m n) =
    if_then_else (f c) (reclaimed f p) (reclaimed f m) (reclaimed f n)
reclaimed f (let_pair c m n) = let_pair (f c) (reclaimed f m) (reclaimed f n)

-- the term without its claims
abbrev pub erased : {C : Type 0} → Term C → Running
erased m = reclaimed (λ c. tt) m

-- The article's call-by-value reduction. A step is labelled by what it asks of the register, with
-- the register's answer.
use Rattle.std.specs.Prelude.{ℕ, zero, suc, ◌+◌, ◌-◌, Bool, true, false, List, [], ◌∷◌, nat_lt}
use Rattle.calculus.specs.declared.gates.Gate.{Gate}
use Rattle.calculus.specs.declared.gates.Gate.TheVariants.{H, X, Z, S, T, Cnot, Swap, Toffoli}
use Rattle.calculus.specs.Terms.{Const, bit_of, meas, new, gate, Var, bound, held, var, const, star}
use Rattle.calculus.specs.Terms.{lam, app, pair, if_then_else, let_pair, Running}

-- the term with each variable that is free from the binder k on raised by n
abbrev pub raised_var : ℕ → ℕ → Bool → ℕ → Var
raised_var n k true i = bound i
raised_var n k false i = bound (i + n)

abbrev pub raised : ℕ → ℕ → Running → Running
raised n k (var c (bound i)) = var c (raised_var n k (nat_lt i k) i)
raised n k (var c (held h)) = var c (held h)
raised n k (const c q) = const c q
raised n k (star c) = star c
raised n k (lam c m) = lam c (raised n (suc k) m)
raised n k (app c m p) = app c (raised n k m) (raised n k p)
raised n k (pair c m p) = pair c (raised n k m) (raised n k p)
raised n k (if_then_else c p m q) = if_then_else c (raised n k p) (raised n k m) (raised n k q)
raised n k (let_pair c m p) = let_pair c (raised n k m) (raised n (suc (suc k)) p)

-- the term for the free variable that stands at place i above k binders
abbrev pub chosen : ℕ → List Running → ℕ → Running
chosen k [] i = var tt (bound (k + i))
chosen k (v ∷ vs) zero = raised k 0 v
chosen k (v ∷ vs) (suc i) = chosen k vs i

abbrev pub replaced : ℕ → List Running → Bool → ℕ → Running
replaced k vs true i = var tt (bound i)
replaced k vs false i = chosen k vs (i - k)

-- m with the terms of the list for the variables k, k + 1, ..
abbrev pub substituted : ℕ → List Running → Running → Running
substituted k vs (var c (bound i)) = replaced k vs (nat_lt i k) i
substituted k vs (var c (held h)) = var c (held h)
substituted k vs (const c q) = const c q
substituted k vs (star c) = star c
substituted k vs (lam c m) = lam c (substituted (suc k) vs m)
substituted k vs (app c m n) = app c (substituted k vs m) (substituted k vs n)
substituted k vs (pair c m n) = pair c (substituted k vs m) (substituted k vs n)
substituted k vs (if_then_else c p m n) =
    if_then_else c (substituted k vs p) (substituted k vs m) (substituted k vs n)
substituted k vs (let_pair c m n) = let_pair c (substituted k vs m) (substituted (suc (suc k)) vs n)

pub data Value : Running → Type 0 where
  value_var : {c : Unit {0}} {x : Var} → Value (var c x)
  value_const : {c : Unit {0}} {k : Const} → Value (const c k)
  value_star : {c : Unit {0}} → Value (star c)
  value_lam : {c : Unit {0}} {m : Running} → Value (lam c m)
  value_pair : {c : Unit {0}} {v w : Running} → Value v → Value w → Value (pair c v w)

-- the qubits of a gate as its argument: one, a pair, or one and a pair
pub data Operands : Gate → List ℕ → Running → Type 0 where
  on_h : {c : Unit {0}} {h : ℕ} → Operands H (h ∷ []) (var c (held h))
  on_x : {c : Unit {0}} {h : ℕ} → Operands X (h ∷ []) (var c (held h))
  on_z : {c : Unit {0}} {h : ℕ} → Operands Z (h ∷ []) (var c (held h))
  on_s : {c : Unit {0}} {h : ℕ} → Operands S (h ∷ []) (var c (held h))
  on_t : {c : Unit {0}} {h : ℕ} → Operands T (h ∷ []) (var c (held h))
  on_cnot : {c d e : Unit {0}} {h k : ℕ}
      → Operands Cnot (h ∷ k ∷ []) (pair c (var d (held h)) (var e (held k)))
  on_swap : {c d e : Unit {0}} {h k : ℕ}
      → Operands Swap (h ∷ k ∷ []) (pair c (var d (held h)) (var e (held k)))
  on_toffoli : {c d e f g : Unit {0}} {h j k : ℕ}
      → Operands Toffoli (h ∷ j ∷ k ∷ [])
      (pair c (var d (held h)) (pair e (var f (held j)) (var g (held k))))

-- What a step asks of the register, with the register's answer.
pub data Effect : Type 0 where
  silent : Effect
  prepares : Bool → ℕ → Effect
  reads : ℕ → Bool → Effect
  applies : Gate → List ℕ → Effect

-- One step, from a term to the next.
pub data Reduces : Running → Effect → Running → Type 0 where
  apply_function : {c d : Unit {0}} {m v : Running} → Value v
      → Reduces (app c (lam d m) v) silent (substituted 0 (v ∷ []) m)
  open_pair : {c d : Unit {0}} {n v w : Running} → Value v → Value w
      → Reduces (let_pair c (pair d v w) n) silent (substituted 0 (w ∷ v ∷ []) n)
  take_then : {c d : Unit {0}} {m n : Running}
      → Reduces (if_then_else c (const d (bit_of true)) m n) silent m
  take_else : {c d : Unit {0}} {m n : Running}
      → Reduces (if_then_else c (const d (bit_of false)) m n) silent n
  prepare_qubit : {c d e : Unit {0}} {b : Bool} {h : ℕ}
      → Reduces (app c (const d new) (const e (bit_of b))) (prepares b h) (var c (held h))
  read_qubit : {c d e : Unit {0}} {h : ℕ} {b : Bool}
      → Reduces (app c (const d meas) (var e (held h))) (reads h b) (const c (bit_of b))
  -- The article also asks that the qubits be pairwise distinct. Here a gate goes by its argument's
  -- shape, and the register refuses a gate on one qubit twice. The qubits of a well-typed term are
  -- distinct: Safety.GatesAreApart.
  apply_gate : {c d : Unit {0}} {u : Gate} {hs : List ℕ} {a : Running} → Operands u hs a
      → Reduces (app c (const d (gate u)) a) (applies u hs) a
  in_argument : {c : Unit {0}} {m n n' : Running} {e : Effect} → Reduces n e n'
      → Reduces (app c m n) e (app c m n')
  in_function : {c : Unit {0}} {m m' v : Running} {e : Effect} → Value v → Reduces m e m'
      → Reduces (app c m v) e (app c m' v)
  in_left : {c : Unit {0}} {m m' n : Running} {e : Effect} → Reduces m e m'
      → Reduces (pair c m n) e (pair c m' n)
  in_right : {c : Unit {0}} {v n n' : Running} {e : Effect} → Value v → Reduces n e n'
      → Reduces (pair c v n) e (pair c v n')
  in_condition : {c : Unit {0}} {p p' m n : Running} {e : Effect} → Reduces p e p'
      → Reduces (if_then_else c p m n) e (if_then_else c p' m n)
  in_pair : {c : Unit {0}} {m m' n : Running} {e : Effect} → Reduces m e m'
      → Reduces (let_pair c m n) e (let_pair c m' n)

-- Where the search of a term ends.
use Rattle.std.specs.Prelude.{ℕ, ◌+◌}
use Rattle.calculus.specs.Terms.{app, pair, if_then_else, let_pair, Running, size}
use Rattle.calculus.specs.Reduction.{Value}

-- the part of a term that is due, and the place of its first cell: what it works first are values
pub data Due : Running → ℕ → Running → Type 0 where
  due_application : {c : Unit {0}} {m n : Running} → Value m → Value n
      → Due (app c m n) 0 (app c m n)
  due_let : {c : Unit {0}} {m n : Running} → Value m → Due (let_pair c m n) 0 (let_pair c m n)
  due_condition : {c : Unit {0}} {p m n : Running} → Value p
      → Due (if_then_else c p m n) 0 (if_then_else c p m n)
  of_argument : {c : Unit {0}} {m n p : Running} {k : ℕ} → Due n k p
      → Due (app c m n) (1 + size m + k) p
  of_function : {c : Unit {0}} {m v p : Running} {k : ℕ} → Value v → Due m k p
      → Due (app c m v) (1 + k) p
  of_left : {c : Unit {0}} {m n p : Running} {k : ℕ} → Due m k p → Due (pair c m n) (1 + k) p
  of_right : {c : Unit {0}} {v n p : Running} {k : ℕ} → Value v → Due n k p
      → Due (pair c v n) (1 + size v + k) p
  of_test : {c : Unit {0}} {q m n p : Running} {k : ℕ} → Due q k p
      → Due (if_then_else c q m n) (1 + k) p
  of_pair : {c : Unit {0}} {m n p : Running} {k : ℕ} → Due m k p → Due (let_pair c m n) (1 + k) p

-- The first of some cells that fails a test, and tests in a row.
use Rattle.std.specs.Prelude.{ℕ, ◌+◌, Bool, cond, List, [], ◌∷◌, Some, None, Err, Option, Result}

-- the place of the first cell that fails the test, where the list begins at k
abbrev pub first_failing : {T : Type 0} → (T → Bool) → List T → ℕ → Option ℕ
first_failing f [] k = None
first_failing f (c ∷ cs) k = cond (f c) (first_failing f cs (k + 1)) (Some k)

-- the fault at the place that was found, or the next test where none was
abbrev pub none_at : {F : Type 0} → (ℕ → F) → Option ℕ → Result (Unit {0}) F → Result (Unit {0}) F
none_at fault None next = next
none_at fault (Some k) next = Err (fault k)

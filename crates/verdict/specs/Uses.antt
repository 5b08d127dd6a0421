-- Which variables a term uses, and how many binders its nodes stand below.
use Rattle.std.specs.Prelude.{ℕ, suc, Bool, false, ◌||◌, T, ◌↔◌, max, ◌==◌}
use Rattle.calculus.specs.Types.{Ty}
use Rattle.calculus.specs.Terms.{Var, bound, held, under, Free}
use Rattle.calculus.specs.Terms.{Term, var, const, star, lam, app, pair, if_then_else, let_pair}

abbrev pub same_variable : Var → Var → Bool
same_variable (bound i) (bound j) = i == j
same_variable (bound i) (held h) = false
same_variable (held h) (bound i) = false
same_variable (held h) (held k) = h == k

abbrev pub uses : {C : Type 0} → Term C → Var → Bool
uses (var c y) x = same_variable x y
uses (const c k) x = false
uses (star c) x = false
uses (lam c m) x = uses m (under x)
uses (app c m n) x = uses m x || uses n x
uses (pair c m n) x = uses m x || uses n x
uses (if_then_else c p m n) x = uses p x || (uses m x || uses n x)
uses (let_pair c m n) x = uses m x || uses n (under (under x))

-- the most binders that stand around a node of the term
abbrev pub nested : {C : Type 0} → Term C → ℕ
nested (var c x) = 0
nested (const c k) = 0
nested (star c) = 0
nested (lam c m) = suc (nested m)
nested (app c m n) = max (nested m) (nested n)
nested (pair c m n) = max (nested m) (nested n)
nested (if_then_else c p m n) = max (nested p) (max (nested m) (nested n))
nested (let_pair c m n) = max (nested m) (suc (suc (nested n)))

-- A term uses just its free variables.
abbrev pub UsesAreFree : Type 0
UsesAreFree = (x : Var) (m : Term Ty) → T (uses m x) ↔ Free x m

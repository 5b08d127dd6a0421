-- The binders in scope, in a record whose outermost level is 0, and the sets of the used ones.
use Rattle.std.specs.Prelude.{◌≡◌, ℕ, ◌+◌, ◌-◌, ◌<◌, ◌==◌, nat_le, nat_lt}
use Rattle.std.specs.Prelude.{Bool, true, false, cond, List, length, map, reverse}
use Rattle.std.specs.Int.{bit_at}
use Rattle.calculus.specs.Alphabet.{op_variable, op_function, op_let}
use Rattle.calculus.specs.Terms.{Var, bound, held, Term}
use Rattle.calculus.specs.Types.{Ty}
use Rattle.checker.specs.declared.scope.Scope.{Scope}
use Rattle.checker.specs.declared.used.Used.{Used}
use Rattle.subtyping.specs.Meaning.{meant}
use Rattle.verdict.specs.Faults.{Verdict, accepted, must, fault}
use Rattle.verdict.specs.Uses.{uses}
use Rattle.verdict.specs.declared.faults.CheckReason.TheVariants.{TooDeep, NoBinder}

-- the types of the binders in scope, the nearest first
abbrev pub in_scope : Scope → List Ty
in_scope s = reverse (map meant s.binders.items)

-- how many binders are in scope
abbrev pub depth : Scope → ℕ
depth s = length s.binders.items

abbrev pub has : Used → ℕ → Bool
has u k = bit_at u.levels k == 1

-- the variables of a set below d binders: the variable i is at the level d - 1 - i
abbrev pub used_below : Used → ℕ → Var → Bool
used_below u d (bound i) = has u (d - 1 - i)
used_below u d (held h) = false

-- The set has the variables that a term below d binders uses.
abbrev pub UsesOf : Used → ℕ → Term Ty → Type 0
UsesOf u d m = (i : ℕ) → i < d → has u (d - 1 - i) ≡ uses m (bound i)

-- how many binders the letter of a cell puts in scope: one for l, two for d
abbrev pub binders_of : ℕ → ℕ
binders_of op = cond (op == op_function) 1 (cond (op == op_let) 2 0)

-- the tests of a cell that need only the number of binders in scope: there are not too many, and a
-- variable's binder is one of them
abbrev pub depth_tested : ℕ → ℕ → ℕ → ℕ → Verdict
depth_tested at op argument depth =
    must (nat_le (depth + binders_of op) 32) (fault TooDeep at)
    (must (cond (op == op_variable) (nat_lt argument depth) true) (fault NoBinder at) accepted)

-- The members of a row: the calls of a controller, with what each is given.
use Rattle.std.specs.Prelude.{ℕ, ◌≤◌}
use Rattle.calculus.specs.declared.limits.TheConstants.{MOST_TERM_CELLS}
use Rattle.calculus.specs.declared.gates.Gate.{Gate}
use Rattle.calculus.specs.Types.{Ty}
use Rattle.calculus.specs.Terms.{gate, Term, const, lam, app, pair, if_then_else, let_pair}
use Rattle.calculus.specs.Terms.{claim_of, size}
use Rattle.calculus.specs.Contexts.{empty}
use Rattle.calculus.specs.Typing.{Derives, Claimed}

-- An accepted program: a term that has a derivation with its claims. It is no longer than a program
-- may be.
pub record Program : Type 0 where
  pub term : Term Ty
  pub accepted : Derives Claimed empty term (claim_of term)
  pub short : size term ≤ MOST_TERM_CELLS

-- A table is given by its length.
pub data Member : Type 0 where
  load : Program → Member
  step : ℕ → Member
  run : ℕ → ℕ → Member
  collect : ℕ → ℕ → Member
  abandon : Member

-- the term names the gate
pub data NamesGate {C : Type 0} (u : Gate) : Term C → Type 0 where
  gate_here : {c : C} → NamesGate u (const c (gate u))
  gate_lam : {c : C} {m : Term C} → NamesGate u m → NamesGate u (lam c m)
  gate_fun : {c : C} {m n : Term C} → NamesGate u m → NamesGate u (app c m n)
  gate_arg : {c : C} {m n : Term C} → NamesGate u n → NamesGate u (app c m n)
  gate_left : {c : C} {m n : Term C} → NamesGate u m → NamesGate u (pair c m n)
  gate_right : {c : C} {m n : Term C} → NamesGate u n → NamesGate u (pair c m n)
  gate_test : {c : C} {p m n : Term C} → NamesGate u p → NamesGate u (if_then_else c p m n)
  gate_then : {c : C} {p m n : Term C} → NamesGate u m → NamesGate u (if_then_else c p m n)
  gate_else : {c : C} {p m n : Term C} → NamesGate u n → NamesGate u (if_then_else c p m n)
  gate_pair : {c : C} {m n : Term C} → NamesGate u m → NamesGate u (let_pair c m n)
  gate_body : {c : C} {m n : Term C} → NamesGate u n → NamesGate u (let_pair c m n)

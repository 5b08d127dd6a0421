-- What each member does: which place it leads to.
use Rattle.std.specs.Prelude.{◌≡◌, ℕ, suc, ◌<◌, ◌≤◌, Some, None}
use Rattle.calculus.specs.Types.{Ty}
use Rattle.calculus.specs.Terms.{Running, claim_of, erased}
use Rattle.calculus.specs.Reduction.{Value}
use Rattle.registers.specs.Meaning.{Meaning, Changes, after_clear}
use Rattle.rows.specs.Members.{Program, Member, load, step, run, collect, abandon}
use Rattle.rows.specs.Places.{Place}
use Rattle.rows.specs.Refusing.{most_cells, Runs, Refused}
use Rattle.rows.specs.Stepping.{Steps}

module _ {C : Type 0} (changes : Changes C) where
  abbrev pub running : Running → Ty → Meaning C → Place C
  running m a r = record { loaded = Some (m, a); register = r }

  -- nothing is loaded any more, and the register is cleared
  abbrev pub unloaded : Place C → Place C
  unloaded p = record { loaded = None; register = after_clear changes p.register }

  -- so many steps, none of which is refused
  pub data Many : ℕ → Place C → Place C → Type 0 where
    no_more : {p : Place C} → Many 0 p p
    one_more : {k : ℕ} {p q : Place C} {m n : Running} {a : Ty} {s : Meaning C}
        → Runs p m a → (Refused p (step most_cells) → ⊥)
        → Steps changes m p.register n s → Many k (running n a s) q
        → Many (suc k) p q

  -- Why a run with a budget of b stops after k steps: a value, the budget, or a step that is
  -- refused. The reasons are looked for in this order.
  pub data Stops (b k : ℕ) (q : Place C) : Type 0 where
    at_value : {m : Running} {a : Ty} → Runs q m a → Value m → Stops b k q
    at_budget : {m : Running} {a : Ty} → Runs q m a → (Value m → ⊥) → k ≡ b → Stops b k q
    at_refusal : {m : Running} {a : Ty}
        → Runs q m a → (Value m → ⊥) → k < b → Refused q (step most_cells) → Stops b k q

  -- A member that is refused changes nothing. One that is not does its work.
  pub data Does (p : Place C) : Member → Place C → Type 0 where
    refused : {x : Member} → Refused p x → Does p x p
    loads : {x : Program} → (Refused p (load x) → ⊥)
        → Does p (load x) (running (erased x.term) (claim_of x.term) p.register)
    steps : {q : Place C} {w : ℕ} → (Refused p (step w) → ⊥) → Many 1 p q → Does p (step w) q
    runs : {q : Place C} {b w k : ℕ} → (Refused p (run b w) → ⊥)
        → k ≤ b → Many k p q → Stops b k q → Does p (run b w) q
    collects : {t k : ℕ} → (Refused p (collect t k) → ⊥) → Does p (collect t k) (unloaded p)
    abandons : (Refused p abandon → ⊥) → Does p abandon (unloaded p)

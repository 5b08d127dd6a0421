-- No row is stuck, whatever the register answers, and nothing of a step is free but that answer.
use Rattle.std.specs.Prelude.{◌≡◌, ℕ, List}
use Rattle.calculus.specs.Types.{Ty}
use Rattle.calculus.specs.Terms.{Running}
use Rattle.calculus.specs.Reduction.{Effect, silent, prepares, reads, applies, Reduces}
use Rattle.registers.specs.Meaning.{Meaning, Changes, Fresh}
use Rattle.rows.specs.Members.{Member, step}
use Rattle.rows.specs.Places.{Place, New}
use Rattle.rows.specs.Refusing.{Runs, Refused}
use Rattle.rows.specs.Stepping.{Steps}
use Rattle.rows.specs.Doing.{running, Does}
use Rattle.rows.specs.Rows.{Row, Reached}

-- Every list of members is a row from a new controller.
abbrev pub EveryRowIsMade : Type 0 → Type 0
EveryRowIsMade C =
    (changes : Changes C) (p : Place C) (xs : List Member) → New changes p
    → (ps : List (Place C)) × Row changes p xs ps

-- An answer that the register may give: to prepare, any fresh handle, and to read, 0 or 1.
abbrev pub Possible : {C : Type 0} → Meaning C → Effect → Type 0
Possible r silent = Unit {0}
Possible r (prepares b h) = Fresh r h
Possible r (reads h b) = Unit {0}
Possible r (applies u hs) = Unit {0}

module _ {C : Type 0} (changes : Changes C) where
  -- A step goes on with every answer that is possible, and some answer is.
  pub record Served (q : Place C) (w : ℕ) (m : Running) (a : Ty) : Type 0 where
    pub some : (e : Effect) × (n : Running) × Reduces m e n × Possible q.register e
    pub every : (e : Effect) (n : Running) → Reduces m e n → Possible q.register e
        → (s : Meaning C) × Does changes q (step w) (running changes n a s)

-- So does every step that is not refused, wherever a row comes.
abbrev pub EveryAnswerIsServed : Type 0 → Type 0
EveryAnswerIsServed C =
    (changes : Changes C) (p q : Place C) (w : ℕ) (m : Running) (a : Ty)
    → New changes p → Reached changes p q → Runs q m a → (Refused q (step w) → ⊥)
    → Served changes q w m a

-- The register's answer settles the next term, and what the register means then.
abbrev pub StepsAreExact : Type 0 → Type 0
StepsAreExact C =
    (changes : Changes C) (m n n' : Running) (r s s' : Meaning C)
    (t : Steps changes m r n s) (t' : Steps changes m r n' s')
    → t.effect ≡ t'.effect → (n ≡ n') × (s ≡ s')

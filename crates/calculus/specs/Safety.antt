-- What a well-typed running term promises.
use Rattle.std.specs.Prelude.{◌≡◌, ℕ, Bool, List}
use Rattle.calculus.specs.Types.{Ty, bang}
use Rattle.calculus.specs.declared.gates.Gate.{Gate}
use Rattle.calculus.specs.Terms.{Running, size}
use Rattle.calculus.specs.Reduction.{Value, Effect, silent, prepares, reads, applies, Reduces}
use Rattle.calculus.specs.Names.{Names, WellTyped, Way, In, Distinct}

-- An answer that the register may give: a prepared handle is one that the term does not name.
abbrev pub Answerable : Running → Effect → Type 0
Answerable m silent = Unit {0}
Answerable m (prepares b h) = Names m h → ⊥
Answerable m (reads h b) = Unit {0}
Answerable m (applies u hs) = Unit {0}

abbrev pub SubjectReduction : Type 0
SubjectReduction =
    (m n : Running) (e : Effect) (a : Ty)
    → WellTyped m a → Reduces m e n → Answerable m e → WellTyped n a

-- A well-typed term is a value, or its next step waits for no more than the register's answer.
pub data Goes : Running → Type 0 where
  goes_silent : {m n : Running} → Reduces m silent n → Goes m
  goes_prepare : {m : Running} (b : Bool)
      → ((h : ℕ) → (n : Running) × Reduces m (prepares b h) n) → Goes m
  goes_read : {m : Running} (h : ℕ)
      → Names m h → ((b : Bool) → (n : Running) × Reduces m (reads h b) n) → Goes m
  goes_gate : {m n : Running} (u : Gate) (hs : List ℕ)
      → Distinct hs → ((h : ℕ) → In h hs → Names m h) → Reduces m (applies u hs) n → Goes m

abbrev pub Progress : Type 0
Progress = (m : Running) (a : Ty) → WellTyped m a → (Value m → ⊥) → Goes m

-- A well-typed term applies gates to pairwise distinct qubits, as the article's rule for gates
-- asks.
abbrev pub GatesAreApart : Type 0
GatesAreApart =
    (m n : Running) (u : Gate) (hs : List ℕ) (a : Ty)
    → WellTyped m a → Reduces m (applies u hs) n → Distinct hs

abbrev pub NoWayNamesTwice : Type 0
NoWayNamesTwice = (m : Running) (a : Ty) (hs : List ℕ) → WellTyped m a → Way m hs → Distinct hs

-- A term and what happens at its step determine the next term.
abbrev pub Deterministic : Type 0
Deterministic = (m n n' : Running) (e : Effect) → Reduces m e n → Reduces m e n' → n ≡ n'

abbrev pub ValuesRest : Type 0
ValuesRest = (m n : Running) (e : Effect) → Value m → Reduces m e n → ⊥

-- Two effects that ask the register for the same, whatever it answers.
pub data Alike : Effect → Effect → Type 0 where
  alike_silent : Alike silent silent
  alike_prepares : {b : Bool} {h k : ℕ} → Alike (prepares b h) (prepares b k)
  alike_reads : {h : ℕ} {a b : Bool} → Alike (reads h a) (reads h b)
  alike_applies : {u : Gate} {hs : List ℕ} → Alike (applies u hs) (applies u hs)

-- All next steps of a term ask for the same, and leave terms of one size.
abbrev pub OneRequest : Type 0
OneRequest =
    (m n n' : Running) (e e' : Effect)
    → Reduces m e n → Reduces m e' n' → Alike e e' × (size n ≡ size n')

-- A value of a duplicable type names no qubit.
abbrev pub DuplicableValuesNameNone : Type 0
DuplicableValuesNameNone =
    (v : Running) (a : Ty) (h : ℕ) → Value v → WellTyped v (bang a) → Names v h → ⊥

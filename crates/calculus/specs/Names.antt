-- The qubits that a running term names, and the ways through its branches.
use Rattle.std.specs.Prelude.{◌≡◌, ℕ, ◌<◌, ◌⊎◌, List, [], ◌∷◌, ◌++◌, Some, None}
use Rattle.calculus.specs.Types.{Ty, qbit}
use Rattle.calculus.specs.Terms.{bound, held, Const, var, const, star, lam, app, pair, if_then_else}
use Rattle.calculus.specs.Terms.{let_pair, Running, Free}
use Rattle.calculus.specs.Contexts.{Context}
use Rattle.calculus.specs.Typing.{Derives, Unclaimed}

-- the term names the qubit with this handle
abbrev pub Names : Running → ℕ → Type 0
Names m h = Free (held h) m

-- A context that has just the qubits that the term names, each of the type qbit.
pub record Wires (m : Running) (γ : Context) : Type 0 where
  pub no_binder : (i : ℕ) → γ (bound i) ≡ None
  pub named : (h : ℕ) → Names m h → γ (held h) ≡ Some qbit
  pub no_other : (h : ℕ) → (Names m h → ⊥) → γ (held h) ≡ None

-- The running term has the type by the nine rules. Each qubit is a free variable of the type qbit.
abbrev pub WellTyped : Running → Ty → Type 0
WellTyped m a = (γ : Context) × Wires m γ × Derives Unclaimed γ m a

-- A way keeps one branch of each condition; it is given by the handles on it, from left to right.
pub data Way : Running → List ℕ → Type 0 where
  way_bound : {c : Unit {0}} {i : ℕ} → Way (var c (bound i)) []
  way_held : {c : Unit {0}} {h : ℕ} → Way (var c (held h)) (h ∷ [])
  way_const : {c : Unit {0}} {k : Const} → Way (const c k) []
  way_star : {c : Unit {0}} → Way (star c) []
  way_lam : {c : Unit {0}} {m : Running} {hs : List ℕ} → Way m hs → Way (lam c m) hs
  way_app : {c : Unit {0}} {m n : Running} {hs ks : List ℕ} → Way m hs → Way n ks
      → Way (app c m n) (hs ++ ks)
  way_pair : {c : Unit {0}} {m n : Running} {hs ks : List ℕ} → Way m hs → Way n ks
      → Way (pair c m n) (hs ++ ks)
  way_then : {c : Unit {0}} {p m n : Running} {hs ks : List ℕ} → Way p hs → Way m ks
      → Way (if_then_else c p m n) (hs ++ ks)
  way_else : {c : Unit {0}} {p m n : Running} {hs ks : List ℕ} → Way p hs → Way n ks
      → Way (if_then_else c p m n) (hs ++ ks)
  way_let : {c : Unit {0}} {m n : Running} {hs ks : List ℕ} → Way m hs → Way n ks
      → Way (let_pair c m n) (hs ++ ks)

abbrev pub In : ℕ → List ℕ → Type 0
In h [] = ⊥
In h (k ∷ ks) = (h ≡ k) ⊎ In h ks

abbrev pub Distinct : List ℕ → Type 0
Distinct [] = Unit {0}
Distinct (k ∷ ks) = (In k ks → ⊥) × Distinct ks

-- each number is below those after it
abbrev pub Rising : List ℕ → Type 0
Rising [] = Unit {0}
Rising (k ∷ ks) = ((h : ℕ) → In h ks → k < h) × Rising ks

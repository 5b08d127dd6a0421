-- The lemmas on subtyping and typing that the safety theorems rest on.
use Rattle.std.specs.Prelude.{◌≡◌, ℕ, ◌≤◌, Bool, ◌⊎◌, [], ◌∷◌, Some, None, ◌≢◌}
use Rattle.calculus.specs.Types.{Ty, bit, qbit, bang, arrow, tensor, bangs, Sub}
use Rattle.calculus.specs.Terms.{Const, bit_of, Var, bound, held, const, lam, pair, Running, Free}
use Rattle.calculus.specs.Contexts.{Context, inserted, inside, Split}
use Rattle.calculus.specs.Typing.{Derives, Unclaimed}
use Rattle.calculus.specs.Reduction.{Value, substituted}

pub record SubtypingLaws : Type 0 where
  pub reflexive : (a : Ty) → Sub a a
  pub transitive : (a b c : Ty) → Sub a b → Sub b c → Sub a c
  -- marks may go, and a duplicable type may get more
  pub marked : (n m : ℕ) (a b : Ty) → (m ≡ 0) ⊎ (1 ≤ n) → Sub a b → Sub (bangs n a) (bangs m b)
  -- what is below a duplicable type is one
  pub below_bang : (a b : Ty) → Sub a (bang b) → (c : Ty) × (a ≡ bang c)

-- A context of qubits alone, as a running term's is.
pub record OnlyQubits (γ : Context) : Type 0 where
  pub no_binder : (i : ℕ) → γ (bound i) ≡ None
  pub qubits : (h : ℕ) → (γ (held h) ≡ None) ⊎ (γ (held h) ≡ Some qbit)

pub record TypingLaws : Type 0 where
  -- Only a term's free variables matter; they may have smaller types, and the term a greater one.
  pub narrowed : (γ δ : Context) (m : Running) (a b : Ty) → Derives Unclaimed γ m a → Sub a b
      → ((x : Var) (t : Ty) → Free x m → γ x ≡ Some t → (s : Ty) × (δ x ≡ Some s) × Sub s t)
      → Derives Unclaimed δ m b
  -- A value of a duplicable type has only duplicable free variables.
  pub duplicable_value : (γ : Context) (v : Running) (a : Ty) (x : Var)
      → Value v → Derives Unclaimed γ v (bang a) → Free x v
      → (b : Ty) × (γ x ≡ Some (bang b))
  -- A value may stand for a variable of its type: for the nearest, where k is 0, or for one past
  -- k nearer binders, which the value stands outside of.
  pub substitution : (k : ℕ) (γ γ₁ γ₂ : Context) (m v : Running) (a b : Ty)
      → Split γ γ₁ (inside k γ₂) → Value v
      → Derives Unclaimed (inserted k a γ₁) m b → Derives Unclaimed γ₂ v a
      → Derives Unclaimed γ (substituted k (v ∷ []) m) b
  -- So may a value of this type with marks before it.
  pub marked_substitution : (k n : ℕ) (γ γ₁ γ₂ : Context) (m v : Running) (a b : Ty)
      → Split γ γ₁ (inside k γ₂) → Value v
      → Derives Unclaimed (inserted k a γ₁) m b → Derives Unclaimed γ₂ v (bangs n a)
      → Derives Unclaimed γ (substituted k (v ∷ []) m) b
  -- A value's type tells its form.
  pub function_value : (γ : Context) (v : Running) (a b : Ty)
      → OnlyQubits γ → Value v → Derives Unclaimed γ v (arrow a b)
      → ((m : Running) × (v ≡ lam tt m))
      ⊎ ((k : Const) × (v ≡ const tt k) × ((o : Bool) → k ≢ bit_of o))
  pub pair_value : (γ : Context) (v : Running) (a b : Ty)
      → OnlyQubits γ → Value v → Derives Unclaimed γ v (tensor a b)
      → (w : Running) × (u : Running) × (v ≡ pair tt w u)
  pub bit_value : (γ : Context) (v : Running)
      → OnlyQubits γ → Value v → Derives Unclaimed γ v bit
      → (o : Bool) × (v ≡ const tt (bit_of o))

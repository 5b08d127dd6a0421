-- The cells of a running term name the qubits that the term names.
use Rattle.std.specs.Prelude.{◌≡◌, ℕ, Bool, true, ◌↔◌, List}
use Rattle.calculus.specs.Names.{Names, In, Rising}
use Rattle.calculus.specs.Terms.{Running}
use Rattle.calculus.specs.declared.cells.TermCell.{TermCell}
use Rattle.finder.specs.Laws.{Means}
use Rattle.stepper.specs.Naming.{names, dropped}

pub record NamesLaws : Type 0 where
  -- the cells name a handle exactly if the term does
  pub exact : (cs : List TermCell) (m : Running) (h : ℕ) → Means cs m
      → (names cs h ≡ true) ↔ Names m h
  -- dropped are exactly the handles that the one term names and the other does not
  pub dropped_exact : (cs ds : List TermCell) (m n : Running) (h : ℕ) → Means cs m → Means ds n
      → In h (dropped (names cs) (names ds)) ↔ (Names m h × (Names n h → ⊥))
  -- the lowest comes first
  pub rising : (before after : ℕ → Bool) → Rising (dropped before after)

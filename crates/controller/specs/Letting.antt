-- The qubits that a step lets go.
use Rattle.std.specs.Prelude.{ℕ, cond, List, [], ◌∷◌}
use Rattle.registers.specs.Meaning.{Meaning, Changes, is_live, after_let_go}

module _ {C : Type 0} (changes : Changes C) where
  -- The register after letting go of a handle. One that is not live is refused, which changes
  -- nothing.
  abbrev pub released : Meaning C → ℕ → Meaning C
  released m h = cond (is_live m.live h) (after_let_go changes m h) m

  -- the register after letting go of some, one after the other
  abbrev pub released_all : List ℕ → Meaning C → Meaning C
  released_all [] m = m
  released_all (h ∷ hs) m = released_all hs (released m h)

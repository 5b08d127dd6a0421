-- The places of a row: what runs, and what the register means.
use Rattle.std.specs.Prelude.{◌≡◌, ◌≤◌, None, Option}
use Rattle.calculus.specs.Types.{Ty}
use Rattle.calculus.specs.Terms.{Running}
use Rattle.registers.specs.Meaning.{Meaning, Changes, after_clear}

-- the running term with its loaded type, if something is loaded
pub record Place (Content : Type 0) : Type 0 where
  pub loaded : Option (Running × Ty)
  pub register : Meaning Content

-- A new controller has nothing loaded, and has cleared the register that it was given.
pub record New {C : Type 0} (changes : Changes C) (p : Place C) : Type 0 where
  pub nothing : p.loaded ≡ None
  pub given : Meaning C
  pub small : given.capacity ≤ 32
  pub cleared : p.register ≡ after_clear changes given

-- At every place, cells, handles, gates and live qubits are within their limits.
use Rattle.std.specs.Prelude.{◌≡◌, ℕ, ◌<◌, ◌≤◌, true, List, length, Some, None, Option}
use Rattle.calculus.specs.declared.gates.Gate.{Gate}
use Rattle.calculus.specs.Types.{Ty}
use Rattle.calculus.specs.Terms.{Running, size}
use Rattle.calculus.specs.Names.{Names}
use Rattle.registers.specs.Meaning.{Meaning, Changes, counted}
use Rattle.rows.specs.Members.{Member, NamesGate}
use Rattle.rows.specs.Places.{Place, New}
use Rattle.rows.specs.Refusing.{most_cells}
use Rattle.rows.specs.Rows.{Row, AtEach}

pub record FitsIn {C : Type 0} (m : Running) (r : Meaning C) : Type 0 where
  pub short : size m ≤ most_cells
  pub handles : (h : ℕ) → Names m h → h < 32
  pub gates : (u : Gate) → NamesGate u m → r.makes u ≡ true

abbrev pub FitsAt : {C : Type 0} → Option (Running × Ty) → Meaning C → Type 0
FitsAt None r = Unit {0}
FitsAt (Some (m, a)) r = FitsIn m r

pub record Bounded {C : Type 0} (p : Place C) : Type 0 where
  pub long : length p.register.live ≡ 32
  pub live_count : counted p.register.live ≤ p.register.capacity
  pub capacity : p.register.capacity ≤ 32
  pub fits : FitsAt p.loaded p.register

abbrev pub EveryPlaceIsBounded : Type 0 → Type 0
EveryPlaceIsBounded C =
    (changes : Changes C) (p : Place C) (xs : List Member) (ps : List (Place C))
    → New changes p → Row changes p xs ps → AtEach Bounded ps

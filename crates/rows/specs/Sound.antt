-- What is claimed of every place of every row.
use Rattle.std.specs.Prelude.{◌≡◌, ℕ, ◌≤◌, ◌⊎◌, ◌↔◌, List, length, Some, None, Option}
use Rattle.calculus.specs.Types.{Ty}
use Rattle.calculus.specs.Terms.{Running}
use Rattle.calculus.specs.Reduction.{Value}
use Rattle.calculus.specs.Names.{Names, WellTyped, Way, In, Distinct}
use Rattle.registers.specs.Meaning.{Meaning, Changes, Live, counted}
use Rattle.rows.specs.Members.{Member, step}
use Rattle.rows.specs.Places.{Place, New}
use Rattle.rows.specs.Asking.{SpendsPulse, PreparesQubit, Overflows}
use Rattle.rows.specs.Refusing.{most_cells, Refused}
use Rattle.rows.specs.Rows.{Row, AtEach}

-- The live handles are exactly those that the term names, and the two counts are equal. No way
-- through the branches names one twice.
pub record LiveAreNamed {C : Type 0} (m : Running) (r : Meaning C) : Type 0 where
  pub same : (h : ℕ) → Live r h ↔ Names m h
  pub named : List ℕ
  pub named_are : (h : ℕ) → In h named ↔ Names m h
  pub named_once : Distinct named
  pub counts : counted r.live ≡ length named
  pub no_way_twice : (hs : List ℕ) → Way m hs → Distinct hs

-- Let the term be no value, and the work table long enough. Then a step is refused exactly if the
-- next term has too many cells, or the rule spends a pulse and none is left, or it prepares and the
-- live count is at capacity.
abbrev pub OnlyWantStops : {C : Type 0} → Running → Place C → Type 0
OnlyWantStops m p =
    (w : ℕ) → most_cells ≤ w → (Value m → ⊥)
    → Refused p (step w)
    ↔ (Overflows most_cells m
    ⊎ ((SpendsPulse m × (p.register.pulses ≡ 0))
    ⊎ (PreparesQubit m × (p.register.capacity ≤ counted p.register.live))))

abbrev pub NoneLive : {C : Type 0} → Meaning C → Type 0
NoneLive r = ((h : ℕ) → Live r h → ⊥) × (counted r.live ≡ 0)

abbrev pub SoundAt : {C : Type 0} → Option (Running × Ty) → Place C → Type 0
SoundAt None p = NoneLive p.register
SoundAt (Some (m, a)) p = LiveAreNamed m p.register × WellTyped m a × OnlyWantStops m p

abbrev pub Sound : {C : Type 0} → Place C → Type 0
Sound p = SoundAt p.loaded p

-- From a new controller over any register, whatever the row, every place is sound.
abbrev pub EveryPlaceIsSound : Type 0 → Type 0
EveryPlaceIsSound C =
    (changes : Changes C) (p : Place C) (xs : List Member) (ps : List (Place C))
    → New changes p → Row changes p xs ps → AtEach Sound ps

-- On which side of a type another stands, by subtyping.
use Rattle.std.specs.Prelude.{ℕ, ◌<◌}
use Rattle.calculus.specs.Types.{Ty, Sub}
use Rattle.samples.specs.declared.sides.Side.{Side}
use Rattle.samples.specs.declared.sides.Side.TheVariants.{Below, Above}

abbrev pub turned_side : Side → Side
turned_side Below = Above
turned_side Above = Below

-- k stands on that side of a
abbrev pub IsBeside : Side → Ty → Ty → Type 0
IsBeside Below k a = Sub k a
IsBeside Above k a = Sub a k

-- So many marks may stand before a type on that side of one with m marks: a subtype has some if its
-- supertype has.
abbrev pub MarksBeside : Side → ℕ → ℕ → Type 0
MarksBeside Below n m = 0 < m → 0 < n
MarksBeside Above n m = 0 < n → 0 < m

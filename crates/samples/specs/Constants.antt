-- The constants that are functions, as constants of the calculus.
use Rattle.calculus.specs.Terms.{Const, meas, new, gate}
use Rattle.samples.specs.declared.any.Function.{Function}
use Rattle.samples.specs.declared.any.Function.TheVariants.{Gate, New, Measure}

abbrev pub const_of : Function → Const
const_of (Gate u) = gate u
const_of New = new
const_of Measure = meas

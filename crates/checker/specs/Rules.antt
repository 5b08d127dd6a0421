-- The constants, by op and argument, and their own types.
use Rattle.std.specs.Prelude.{ℕ, Bool, true, false, Some, None, Option}
use Rattle.calculus.specs.declared.gates.Gate.{Gate}
use Rattle.calculus.specs.Gates.{gate_of}
use Rattle.calculus.specs.Letters.{Letter, other, at_v, at_q, at_g, at_0, at_1}
use Rattle.calculus.specs.Letters.{at_m, at_n, at_s, at_l, at_a, at_p, at_d, at_i}
use Rattle.calculus.specs.Terms.{Const, bit_of, meas, new, gate, type_of}
use Rattle.calculus.specs.Types.{Ty}
use Rattle.verdict.specs.Claims.{constant_fits}

abbrev pub gate_constant : Option Gate → Option Const
gate_constant None = None
gate_constant (Some u) = Some (gate u)

-- the constant that a letter and its argument stand for, if they stand for one
abbrev pub constant_of : Letter → ℕ → Option Const
constant_of at_v x = None
constant_of at_q x = None
constant_of at_g x = gate_constant (gate_of x)
constant_of at_0 x = Some (bit_of false)
constant_of at_1 x = Some (bit_of true)
constant_of at_m x = Some meas
constant_of at_n x = Some new
constant_of at_s x = None
constant_of at_l x = None
constant_of at_a x = None
constant_of at_p x = None
constant_of at_d x = None
constant_of at_i x = None
constant_of other x = None

-- it is a constant, and its own type is a subtype of the claim
abbrev pub own_fits : Option Const → Ty → Bool
own_fits None c = false
own_fits (Some k) c = constant_fits k c

-- a constant's own type
abbrev pub own_type : Option Const → Option Ty
own_type None = None
own_type (Some k) = Some (type_of k)

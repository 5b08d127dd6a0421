-- What the typing rules ask of the claims at a node, one definition for each rule.
use Rattle.std.specs.Prelude.{Bool, false, ◌&&◌, List, Some, None, Option}
use Rattle.std.specs.List.{slice_get}
use Rattle.calculus.specs.Types.{Ty, bit, unit, arrow}
use Rattle.calculus.specs.Terms.{Const, type_of, bound, held, claim_of}
use Rattle.calculus.specs.Terms.{Term, var, const, star, lam, app, pair, if_then_else, let_pair}
use Rattle.calculus.specs.Contexts.{Context}
use Rattle.calculus.specs.Stripping.{same, core, first, is_tensor, left_of, right_of, subtype}

-- the context of binders with these types, the nearest first
abbrev pub context_of : List Ty → Context
context_of bs (bound i) = slice_get bs i
context_of bs (held h) = None

-- the binder's type is a subtype of the claim
abbrev pub variable_fits : Option Ty → Ty → Bool
variable_fits None c = false
variable_fits (Some a) c = subtype a c

-- the constant's own type is a subtype of the claim
abbrev pub constant_fits : Const → Ty → Bool
constant_fits k c = subtype (type_of k) c

-- the claim is the unit type after any marks
abbrev pub unit_fits : Ty → Bool
unit_fits c = same (core c) unit

-- the claim is an arrow after any marks, and the body claims its result
abbrev pub function_fits : Ty → Ty → Bool
function_fits c body = same (core c) (arrow (first c) body)

-- the function claims exactly the arrow from the argument's claim to the claim
abbrev pub application_fits : Ty → Ty → Ty → Bool
application_fits c function argument = same function (arrow argument c)

-- the claim is a pair after any marks, and the parts claim its parts, each after the same marks
abbrev pub pair_fits : Ty → Ty → Ty → Bool
pair_fits c left right = is_tensor c && (same left (left_of c) && same right (right_of c))

-- the condition claims exactly a bit, and both branches what the node claims
abbrev pub condition_fits : Ty → Ty → Ty → Ty → Bool
condition_fits c condition one zero = same condition bit && (same one c && same zero c)

-- the pair claims a pair after any marks, and the body what the node claims
abbrev pub let_fits : Ty → Ty → Ty → Bool
let_fits c given body = is_tensor given && same body c

-- the claims of a node and of its parts, below binders with these types
abbrev pub claims_fit : List Ty → Term Ty → Bool
claims_fit bs (var c x) = variable_fits (context_of bs x) c
claims_fit bs (const c k) = constant_fits k c
claims_fit bs (star c) = unit_fits c
claims_fit bs (lam c m) = function_fits c (claim_of m)
claims_fit bs (app c m n) = application_fits c (claim_of m) (claim_of n)
claims_fit bs (pair c m n) = pair_fits c (claim_of m) (claim_of n)
claims_fit bs (if_then_else c p m n) = condition_fits c (claim_of p) (claim_of m) (claim_of n)
claims_fit bs (let_pair c m n) = let_fits c (claim_of m) (claim_of n)

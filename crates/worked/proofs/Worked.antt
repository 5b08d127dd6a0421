-- The table, row by row.
use Rattle.std.proofs.Common.{refl, arith}
use Rattle.calculus.specs.Reduction.{value_var, apply_function, take_then, prepare_qubit, in_argument}
use Rattle.calculus.specs.Runs.{stays, goes_on}
use Rattle.calculus.specs.Terms.{new, held, const, app, Free, free_lam, free_fun, free_arg}
use Rattle.calculus.specs.Types.{sub_bit, sub_use}
use Rattle.verdict.specs.declared.faults.CheckReason.TheVariants.{NoBinder, WrongClaim, UsedTwice, Captures}
use Rattle.worked.specs.Rows.{◌also◌}
use Rattle.worked.specs.Worked.{zero_bit, one_bit, forgets, constants, WorkedTerms}
use Rattle.worked.proofs.Rows.{passes_by, fails_by, constants_hold, stuck_by}

-- (fun x.0)(new 0) names no qubit
names_none : Free (held 0) (forgets (app tt (const tt new) zero_bit)) → ⊥
names_none (free_fun (free_lam f)) = elim f [ ]
names_none (free_arg (free_fun f)) = elim f [ ]
names_none (free_arg (free_arg f)) = elim f [ ]

pub worked_terms : WorkedTerms
worked_terms =
    passes_by refl
    also passes_by refl
    also passes_by refl
    also fails_by WrongClaim refl
    also passes_by refl
    also fails_by UsedTwice refl
    also fails_by UsedTwice refl
    also passes_by refl
    also passes_by refl
    also fails_by Captures refl
    also passes_by refl
    also passes_by refl
    also fails_by WrongClaim refl
    also passes_by refl
    also passes_by refl
    also fails_by UsedTwice refl
    also passes_by refl
    also refl
    also refl
    also fails_by NoBinder refl
    also fails_by NoBinder refl
    also refl
    also refl
    also refl
    also refl
    also refl
    also refl
    also refl
    also refl
    also refl
    also refl
    also refl
    also refl
    also refl
    also refl
    also (refl, sub_use sub_bit)
    also (refl, λ p. elim p [ ])
    also stuck_by (app tt zero_bit one_bit) 0 (record { few = omega arith; each_allowed = tt; written = refl }) refl
    also record { last = _; made = refl; cells = refl; live_count = refl; runs = goes_on take_then tt stays }
    also record { last = _; made = refl; cells = refl; live_count = refl; runs = goes_on (in_argument prepare_qubit) names_none stays }
    also record { last = _; made = refl; cells = refl; live_count = refl; runs = goes_on (in_argument prepare_qubit) names_none (goes_on (apply_function value_var) tt stays) }
    also constants_hold constants refl

-- Which variables the parts of a node may use, tested once the parts are judged.
use Rattle.std.specs.Prelude.{ℕ, zero, Bool, true, not, ◌&&◌, ◌||◌, List, [], ◌∷◌}
use Rattle.calculus.specs.Types.{Ty}
use Rattle.calculus.specs.Terms.{Var, bound, under}
use Rattle.calculus.specs.Stripping.{duplicable, positive}
use Rattle.verdict.specs.Faults.{Verdict, accepted, must, fault}
use Rattle.verdict.specs.declared.faults.CheckReason.TheVariants.{UsedTwice, Captures}

-- each variable of these binders, the nearest first, that is used has a duplicable type
abbrev pub all_duplicable : List Ty → (Var → Bool) → Bool
all_duplicable [] used = true
all_duplicable (b ∷ bs) used =
    (not (used (bound zero)) || duplicable b) && all_duplicable bs (λ x. used (under x))

-- two parts both use duplicable variables only
abbrev pub apart : ℕ → List Ty → (Var → Bool) → (Var → Bool) → Verdict
apart k bs left right =
    must (all_duplicable bs (λ x. left x && right x)) (fault UsedTwice k) accepted

-- a function after n marks, where there are any, uses duplicable variables only
abbrev pub uncaptured : ℕ → List Ty → ℕ → (Var → Bool) → Verdict
uncaptured k bs n used =
    must (not (positive n) || all_duplicable bs used) (fault Captures k) accepted

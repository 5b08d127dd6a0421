-- The next free place, where it is looked for from a start and then from the front.
use Rattle.std.proofs.Common.{◌≡◌, ℕ, ◌<◌, ◌≤◌, Bool, not, List, length, Some, None, Option, arith, MatchOption}
use Rattle.std.specs.Option.{unwrap_or}
use Rattle.std.specs.List.{position}
use Rattle.std.proofs.lemmas.Grind.{common_steps}
use Rattle.std.proofs.lemmas.List.Sums.{prefix_len-le-length}
use Rattle.registers.specs.Handles.{free_from, next_free}

pub next_found : (bs : List Bool) (start : ℕ) (near found : Option ℕ)
    → MatchOption near (length bs ≤ free_from bs start) (λ place. (place ≡ free_from bs start) × (place < length bs))
    → MatchOption near (found ≡ position not bs) (λ place. found ≡ Some place) → unwrap_or found (length bs) ≡ next_free bs start
next_found bs start None found far e = let within = prefix_len-le-length (λ b. not (not b)) bs in grind (arith, common_steps)
next_found bs start (Some place) found here e = grind (arith, common_steps)

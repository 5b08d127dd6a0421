use Rattle.std.proofs.Common.{◌≡◌, ℕ, ◌%◌, ◌<◌, length, get_or}
use Rattle.listing.proofs.shots.outcomes.Given as goal

abbrev pub invariant-loop-k : goal.invariant-loop-k
invariant-loop-k l = (length l.outcomes ≡ 64) × ((k : ℕ) → k < l.k → get_or l.outcomes k 0 ≡ k % 2)

-- One verdict more is added to a sum that is cut off.
use Rattle.std.proofs.Common.{◌≡◌, ℕ, ◌+◌, ◌*◌, min, arith}
use Rattle.std.proofs.Math.Nat.{suc-mul}
use Rattle.std.proofs.Math.Numerals.{add-one}

pub one_added : (n t most : ℕ) → min (min (n * t) most + t) most ≡ min ((n + 1) * t) most
one_added n t most = rw (add-one, suc-mul) (omega arith)

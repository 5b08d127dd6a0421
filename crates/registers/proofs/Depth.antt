-- A refusal's depth, through layers.
use Rattle.std.proofs.Common.{◌≡◌, ℕ, zero, suc, ◌+◌, ◌≤◌, min, Option, Some, None, ap, ◌∙◌, arith}
use Rattle.registers.specs.Depth.{deepest, deeper, depth_of, through, DepthsAreCounted}

within : (below : Option ℕ) → depth_of below ≤ deepest
within None = omega arith
within (Some d) = omega arith

through_all : (layers depth : ℕ) → depth ≤ deepest → through layers depth ≡ min (depth + layers) deepest
through_all zero depth h = omega arith
through_all (suc n) depth h = ap deeper (through_all n depth h) ∙ omega arith

pub depths_are_counted : DepthsAreCounted
depths_are_counted = record {
  own = λ passed_up reason e. ap depth_of e;
  bounded = λ passed_up reason. within (passed_up reason);
  counted = through_all;
}

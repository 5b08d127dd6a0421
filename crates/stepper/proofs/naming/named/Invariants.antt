use Rattle.std.proofs.Common.{◌≡◌, ℕ, ◌<◌, true, false, cond, length, get_or, drop}
use Rattle.stepper.specs.Naming.{names}
use Rattle.stepper.proofs.naming.named.Given as goal

abbrev pub invariant-loop-cell : goal.invariant-loop-cell
invariant-loop-cell l = record {
  handles : length l.named ≡ 32;
  so_far : (h : ℕ) → h < 32 → cond (get_or l.named h false) true (names (drop l.cell-index l.cells) h) ≡ names l.cells h;
}

-- What an accepted call says of the register before it.
use Rattle.std.proofs.Common.{◌≡◌, ℕ, ◌<◌, Bool, true, List, length, Ok, arith}
use Rattle.std.proofs.lemmas.Bool.Decides.{nat_tests}
use Rattle.calculus.specs.Gates.{operands_of}
use Rattle.calculus.specs.declared.gates.Gate.{Gate}
use Rattle.registers.specs.declared.fault.RegisterReason.{RegisterReason}
use Rattle.registers.specs.Meaning.{Meaning, Live, counted}
use Rattle.registers.specs.Answers.{prepare_answer, gate_answer, read_answer, let_go_answer, all_live, distinct}

module _ {C : Type 0} (m : Meaning C) (depth : RegisterReason → ℕ) where
  pub prepare_accepted : (fresh h : ℕ) → Ok h ≡ prepare_answer m depth fresh → (h ≡ fresh) × (0 < m.pulses) × (counted m.live < m.capacity)
  prepare_accepted fresh h e = (grind (arith, nat_tests), grind (arith, nat_tests), grind (arith, nat_tests))

  pub gate_accepted : (gate : Gate) (on : List ℕ) → Ok tt ≡ gate_answer m depth gate on
      → (0 < m.pulses) × (m.makes gate ≡ true) × (length on ≡ operands_of gate) × (all_live m.live on ≡ true) × (distinct on ≡ true)
  gate_accepted gate on e = (grind (arith, nat_tests), grind (arith, nat_tests), grind (arith, nat_tests), grind (arith, nat_tests), grind (arith, nat_tests))

  pub read_accepted : (h : ℕ) (outcome b : Bool) → Ok b ≡ read_answer m depth h outcome → (b ≡ outcome) × (0 < m.pulses) × Live m h
  read_accepted h outcome b e = (grind (arith, nat_tests), grind (arith, nat_tests), grind (arith, nat_tests))

  pub let_go_accepted : (h : ℕ) → Ok tt ≡ let_go_answer m depth h → Live m h
  let_go_accepted h e = grind (arith, nat_tests)

-- An accepted call that spends a pulse finds one.
use Rattle.std.proofs.Common.{arith}
use Rattle.registers.specs.declared.register.Register.{Ghosts}
use Rattle.registers.specs.Depth.{depths}
use Rattle.registers.specs.Deeds.{prepares, applies, reads, lets_go, clears}
use Rattle.registers.specs.Spending.{PulsesAreSpent}
use Rattle.registers.proofs.Accepted.{prepare_accepted, gate_accepted, read_accepted}

pub pulses_are_spent : {R : Type 0} (kind : Ghosts R) → PulsesAreSpent kind
pulses_are_spent kind r s (prepares h bit) (e, after) =
    let a = prepare_accepted (kind.meaning r) (depths (kind.passed_up r)) (kind.fresh r) h e in
    rw after (omega arith)
pulses_are_spent kind r s (applies gate on) (e, after) =
    let a = gate_accepted (kind.meaning r) (depths (kind.passed_up r)) gate on e in
    rw after (omega arith)
pulses_are_spent kind r s (reads h outcome) (e, after) =
    let a = read_accepted (kind.meaning r) (depths (kind.passed_up r)) h (kind.outcome r h) outcome e in
    rw after (omega arith)
pulses_are_spent kind r s (lets_go h) (e, after) = rw after (omega arith)
pulses_are_spent kind r s clears after = rw after (omega arith)

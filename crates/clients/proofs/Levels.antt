-- The bit that a level's qubit is prepared at comes back.
use Rattle.std.proofs.Common.{◌≡◌, Bool, [], ◌∷◌, Ok, Err, Result, refl, ◌∙◌, MatchResult, IfOk}
use Rattle.std.proofs.lemmas.Bool.{eq-eqb}
use Rattle.registers.specs.declared.fault.RegisterFault.{RegisterFault}
use Rattle.registers.specs.declared.level.Level.{Level}
use Rattle.registers.specs.Bits.{level_outcome}
use Rattle.registers.specs.Deeds.{prepares}
use Rattle.registers.specs.Put.{with_bit}
use Rattle.registers.proofs.Put.{level_kind, level_reads_what_was_put}
use Rattle.clients.specs.Uses.{WasRead, NotRead}

pub came_back : (r s : Level) (bit : Bool) (x : Result Bool RegisterFault) → MatchResult x (WasRead level_kind r s bit) (NotRead level_kind r s bit) → IfOk x (λ outcome. outcome ≡ bit)
came_back r s bit (Ok outcome) w =
    let h = level_kind.fresh r in
    let here : with_bit (level_outcome r) h bit h ≡ bit = rw (eq-eqb h h refl) refl in
    level_reads_what_was_put.answered r w.calls.0 w.calls.2.0 (prepares h bit ∷ []) h outcome (w.calls.0, w.calls.1, refl) w.calls.2.1 ∙ here
came_back r s bit (Err f) w = tt

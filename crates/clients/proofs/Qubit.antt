-- The one handle of the register of one qubit.
use Rattle.std.proofs.Common.{◌≡◌, ℕ, zero, suc, Bool, true, false, get_or, sym, refl, ◌∙◌}
use Rattle.std.proofs.lemmas.Bool.{false≢true}
use Rattle.registers.proofs.Put.{none_set}
use Rattle.clients.specs.Qubit.{qubit_live}

pub other_dead : (live : Bool) (h : ℕ) → (h ≡ 0 → ⊥) → get_or (qubit_live live) h false ≡ false
other_dead live zero n = absurd (n refl)
other_dead live (suc k) n = none_set 31 k

pub live_zero : (live : Bool) (h : ℕ) → get_or (qubit_live live) h false ≡ true → h ≡ 0
live_zero live zero e = refl
live_zero live (suc k) e = absurd (false≢true (sym (none_set 31 k) ∙ e))

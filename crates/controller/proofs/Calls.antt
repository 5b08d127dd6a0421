-- The contracts of the controller's calls give that each call keeps the invariant.
use Rattle.std.proofs.Common.{◌≡◌, ℕ, Bool, true, false, List, length, nat_lt, Some, None, Option, Ok, Err, Result, is_err, OnErr, sym, refl, ap, ◌∙◌, subst, arith, ◌==◌}
use Rattle.calculus.specs.declared.cells.TermCell.{TermCell}
use Rattle.calculus.specs.Types.{Ty}
use Rattle.calculus.specs.Terms.{Running}
use Rattle.registers.specs.declared.register.Register.{Ghosts}
use Rattle.registers.specs.Meaning.{Meaning, Changes, Fresh}
use Rattle.rows.specs.Members.{Member, step, run}
use Rattle.rows.specs.Refusing.{nothing_to_run, short_to_run, Refused}
use Rattle.controller.specs.declared.faults.ControllerFault.{ControllerFault}
use Rattle.controller.specs.declared.faults.Refusal.{Refusal}
use Rattle.controller.specs.declared.faults.Stop.{Stop}
use Rattle.controller.specs.declared.shot.Shot.{Shot}
use Rattle.registers.specs.Telling.{Told}
use Rattle.controller.specs.Faults.{fault_number, ready_answer}
use Rattle.controller.specs.Shots.{Held, held}
use Rattle.controller.specs.Stepping.{Made, count_made, placed, step_made, StepLeaves}
use Rattle.controller.specs.Running.{desk, RunAnswer}
use Rattle.controller.specs.Keeping.{Stands, Kept, place_of, Keeps}
use Rattle.controller.proofs.Keeping.{stays, loaded_stands}
use Rattle.controller.proofs.Stepping.{StepKeeps, step_keeps}
use Rattle.controller.proofs.Meant.{meant, answer_meant}
use Rattle.controller.proofs.Ran.{run_made}

-- The same of equal shots and registers.
pub moved_to : {C : Type 0} {changes : Changes C} {x : Member} {h : Held} {r : Meaning C} {h₁ h₂ : Held} {r₁ r₂ : Meaning C} {b c : Bool} {k : Kept changes h r}
    → h₂ ≡ h₁ → r₂ ≡ r₁ → c ≡ b → Keeps changes x h r h₁ r₁ b k → Keeps changes x h r h₂ r₂ c k
moved_to {changes = changes} {x = x} {h = h} {r = r} {h₁ = h₁} {h₂ = h₂} {r₁ = r₁} {r₂ = r₂} {b = b} {k = k} e f g m =
    subst (λ y. Keeps changes x h r h₂ r₂ y k) (sym g) (subst (λ y. Keeps changes x h r h₂ y b k) (sym f) (subst (λ y. Keeps changes x h r y r₁ b k) (sym e) m))

module _ {R : Type 0} (kind : Ghosts R) where
  stepped : (t : Told kind.Content) (free : Fresh t.meaning t.fresh) (shot shot' : Shot) (register register' : R) (work work' : List TermCell) (k : Kept kind.changes (held shot) t.meaning)
      → t.meaning ≡ kind.meaning register → (room : ℕ) (result : Result ℕ Refusal) (x : Result (Made kind.Content) ControllerFault)
      → StepKeeps kind.changes t free (held shot) k room x → result ≡ placed (held shot).steps (count_made x) → StepLeaves kind x shot shot' register register' work work'
      → Keeps kind.changes (step room) (held shot) t.meaning (held shot') (kind.meaning register') (is_err result) k
  stepped t free shot shot' register register' work work' k q room result (Ok made) m e l = moved_to l.0 l.1 (ap is_err e) m
  stepped t free shot shot' register register' work work' k q room result (Err f) m e l =
      moved_to refl refl (ap is_err e) (stays (step room) k (held shot') (kind.meaning register') (ap held l.0) (ap kind.meaning l.1 ∙ sym q) (fault_number f, m.0))

  pub step_call : (t : Told kind.Content) (free : Fresh t.meaning t.fresh) (shot shot' : Shot) (register register' : R) (work work' : List TermCell) (k : Kept kind.changes (held shot) t.meaning)
      → t.meaning ≡ kind.meaning register → (result : Result ℕ Refusal)
      → result ≡ placed (held shot).steps (count_made (step_made kind.changes t (held shot) (length work)))
      → StepLeaves kind (step_made kind.changes t (held shot) (length work)) shot shot' register register' work work'
      → Keeps kind.changes (step (length work)) (held shot) t.meaning (held shot') (kind.meaning register') (is_err result) k
  step_call t free shot shot' register register' work work' k q result e l =
      stepped t free shot shot' register register' work work' k q (length work) result (step_made kind.changes t (held shot) (length work)) (step_keeps kind.changes t free (held shot) k (length work)) e l

  -- a run that is refused: nothing is loaded, or the work table is too short
  run_refused : (h : Held) (r : Meaning kind.Content) (k : Kept kind.changes h r) (budget room : ℕ) (f : Refusal) → placed h.steps (ready_answer (length h.cells) room) ≡ Err f → Refused (place_of k) (run budget room)
  run_refused h r k budget room f e = by k.loaded refl k.stands
    where
      short : (b : Bool) → nat_lt room 1024 ≡ b → (length h.cells == 0) ≡ false → Refused (place_of k) (run budget room)
      short true l z = (34, short_to_run (grind arith))
      short false l z = absurd (let y : ◌≡◌ {A = ℕ} 0 1 = (let w : ready_answer (length h.cells) room ≡ Ok tt = rw (z) (rw (l) refl) in let v : placed h.steps (Ok tt) ≡ Err f = ap (placed h.steps) (sym w) ∙ e in cc) in omega arith)

      by : (o : Option (Running × Ty)) → k.loaded ≡ o → Stands h o → Refused (place_of k) (run budget room)
      by None q s = (31, nothing_to_run q)
      by (Some (m, a)) q s = let z = loaded_stands m h (sym s.claim_nothing ∙ s.means.written) in short (nat_lt room 1024) refl (grind arith)

  pub run_call : (shot shot' : Shot) (register register' : R) (work work' : List TermCell) (k : Kept kind.changes (held shot) (kind.meaning register)) (budget : ℕ) (result : Result (ℕ × Stop) Refusal)
      → RunAnswer kind budget (desk shot register work) (desk shot' register' work') result → OnErr result ((shot' ≡ shot) × (register' ≡ register) × (work' ≡ work))
      → Keeps kind.changes (run budget (length work)) (held shot) (kind.meaning register) (held shot') (kind.meaning register') (is_err result) k
  run_call shot shot' register register' work work' k budget (Ok (n, stop)) a l =
      let b = answer_meant kind budget (desk shot register work) (desk shot' register' work') (Ok (n, stop)) a in
      run_made kind.changes budget n (meant kind (desk shot register work)) (meant kind (desk shot' register' work')) stop k b.0 b.1 b.2 b.3
  run_call shot shot' register register' work work' k budget (Err f) a l =
      stays (run budget (length work)) k (held shot') (kind.meaning register') (ap held l.0) (ap kind.meaning l.1) (run_refused (held shot) (kind.meaning register) k budget (length work) f a)

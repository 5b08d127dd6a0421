-- A run with its register's own answers, told by what the register means.
use Rattle.std.proofs.Common.{◌≡◌, ℕ, Ok, Err, Result, refl}
use Rattle.registers.specs.declared.register.Register.{Ghosts}
use Rattle.controller.specs.declared.faults.ControllerFault.{ControllerFault}
use Rattle.controller.specs.declared.faults.Refusal.{Refusal}
use Rattle.controller.specs.declared.faults.Stop.{Stop}
use Rattle.controller.specs.declared.faults.Stop.TheVariants.{Value, Budget, Refused}
use Rattle.registers.specs.Telling.{told}
use Rattle.controller.specs.Stepping.{Made}
use Rattle.controller.specs.Running.{Desk, due, StepLeads, none_made, one_more_made}
use Rattle.controller.specs.Running as by_state
use Rattle.controller.specs.Meant.{Standing, Comes, after_step, Ran, none_made as no_step, one_more_made as step_more, Stopped, RunAnswer}

module _ {R : Type 0} (kind : Ghosts R) where
  -- the same with what the register means in its place
  abbrev pub meant : Desk R → Standing kind.Content
  meant a = record { shot = a.shot; register = kind.meaning a.register; work = a.work }

  pub comes : (a : Desk R) (x : Result (Made kind.Content) ControllerFault) → due kind a ≡ x → Comes kind.changes (meant a) x
  comes a x e = record { told = told kind a.register; meaning = refl; owed = kind.owed a.register; step = e }

  pub leads : (a b : Desk R) (s : StepLeads kind a b) → meant b ≡ after_step kind.changes (meant a) s.made
  leads a b s = let e = s.shot in let f = s.register in let g = s.work in cc

  pub ran_meant : {a : Desk R} {n : ℕ} {b : Desk R} → by_state.Ran kind a n b → Ran kind.changes (meant a) n (meant b)
  ran_meant none_made = no_step
  ran_meant (one_more_made {b = b} {c = c} r s) = step_more (ran_meant r) (comes b (Ok s.made) s.step) (leads b c s)

  stopped_meant : (budget made : ℕ) (b : Desk R) (x : Stop) → by_state.Stopped kind budget made b x → Stopped kind.changes budget made (meant b) x
  stopped_meant budget made b Value s = s
  stopped_meant budget made b Budget s = s
  stopped_meant budget made b (Refused f n) s = (s.0, s.1, comes b (Err f) s.2, s.3)

  pub answer_meant : (budget : ℕ) (a b : Desk R) (x : Result (ℕ × Stop) Refusal) → by_state.RunAnswer kind budget a b x → RunAnswer kind.changes budget (meant a) (meant b) x
  answer_meant budget a b (Ok (n, stop)) r = (r.0, r.1, ran_meant r.2, stopped_meant budget n b stop r.3)
  answer_meant budget a b (Err f) r = r

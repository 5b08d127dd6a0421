-- On a settled kind of register, a run is a function of where it starts.
use Rattle.std.proofs.Common.{◌≡◌, ℕ, zero, suc, ◌+◌, ◌-◌, ◌≤◌, true, false, cond, length, Some, None, Ok, Err, Option, Result, OnErr, refl, sym, ap, ap₂, ◌∙◌, arith}
use Rattle.finder.specs.declared.rules.Rule.{Rule}
use Rattle.finder.specs.declared.faults.FindFault.{FindFault}
use Rattle.finder.specs.Finding.{answer}
use Rattle.calculus.specs.declared.cells.TermCell.{TermCell}
use Rattle.std.proofs.Common.{List}
use Rattle.registers.specs.declared.register.Register.{Ghosts}
use Rattle.registers.specs.Meaning.{Meaning, Changes}
use Rattle.controller.specs.declared.faults.ControllerFault.{ControllerFault}
use Rattle.controller.specs.declared.faults.Refusal.{Refusal}
use Rattle.controller.specs.declared.faults.Stop.{Stop}
use Rattle.controller.specs.declared.faults.Stop.TheVariants.{Value, Budget, Refused}
use Rattle.registers.specs.Telling.{Told, told, SettledBy}
use Rattle.controller.specs.Faults.{ready_answer, refused}
use Rattle.controller.specs.Meant.{Standing}
use Rattle.controller.specs.declared.shot.Shot.{Shot}
use Rattle.controller.specs.Running.{Desk, desk, due, StepLeads, Ran, none_made, one_more_made, Stopped, RunAnswer}
use Rattle.controller.specs.Settled.{Ended, ended, after, step_due, goes_on, run_from, run_if_ready, run_of}
use Rattle.controller.specs.Stepping.{Made, taken, stepped, placed}
use Rattle.controller.specs.Unloading.{is_value}
use Rattle.controller.proofs.Meant.{meant, leads}
use Rattle.controller.proofs.Running.{ok_err}

-- a step that is made is none of a value
not_value : {C : Type 0} (changes : Changes C) (t : Told C) (cs : List TermCell) (found : Result (Option (Rule × ℕ)) FindFault) (m : Made C) → taken changes t cs found ≡ Ok m → is_value found ≡ false
not_value changes t cs (Ok (Some x)) m e = refl
not_value changes t cs (Ok None) m e = absurd (ok_err (sym e))
not_value changes t cs (Err f) m e = refl

module _ {C : Type 0} (changes : Changes C) (tells : Meaning C → Told C) where
  from_value : (left : ℕ) (a : Standing C) → is_value (answer a.shot.cells) ≡ true → run_from changes tells left a ≡ ended Value a
  unfolding run_from
  from_value zero a v = ap (λ b. cond b (ended Value a) (ended Budget a)) v
  from_value (suc left) a v = ap (λ b. cond b (ended Value a) (goes_on changes tells (run_from changes tells left) a (step_due changes tells a))) v

  from_budget : (a : Standing C) → is_value (answer a.shot.cells) ≡ false → run_from changes tells 0 a ≡ ended Budget a
  unfolding run_from
  from_budget a v = ap (λ b. cond b (ended Value a) (ended Budget a)) v

  from_step : (left : ℕ) (a : Standing C) (x : Result (Made C) ControllerFault) → is_value (answer a.shot.cells) ≡ false → step_due changes tells a ≡ x
      → run_from changes tells (suc left) a ≡ goes_on changes tells (run_from changes tells left) a x
  unfolding run_from
  from_step left a x v e = ap₂ (λ b y. cond b (ended Value a) (goes_on changes tells (run_from changes tells left) a y)) v e

module _ {R : Type 0} (kind : Ghosts R) (tells : Meaning kind.Content → Told kind.Content) (h : SettledBy kind tells) where
  abbrev from : ℕ → Desk R → Ended kind.Content
  from left a = run_from kind.changes tells left (meant kind a)

  due_is : (a : Desk R) (x : Result (Made kind.Content) ControllerFault) → due kind a ≡ x → step_due kind.changes tells (meant kind a) ≡ x
  due_is a x e = ap (λ t. stepped kind.changes t a.shot.cells) (sym (h a.register)) ∙ e

  one_step : (left : ℕ) (a b : Desk R) (s : StepLeads kind a b) → from (suc left) a ≡ after 1 (from left b)
  one_step left a b s =
      from_step kind.changes tells left (meant kind a) (Ok s.made) (not_value kind.changes (told kind a.register) a.shot.cells (answer a.shot.cells) s.made s.step) (due_is a (Ok s.made) s.step)
      ∙ ap (λ y. after 1 (run_from kind.changes tells left y)) (sym (leads kind a b s))

  so_far : {a : Desk R} {n : ℕ} {b : Desk R} → Ran kind a n b → (left : ℕ) → from (n + left) a ≡ after n (from left b)
  so_far {a = a} none_made left =
      let e : 0 + left ≡ left = omega arith in
      let f : (from left a).made ≡ 0 + (from left a).made = omega arith in
      ap (λ n. from n a) e ∙ ap (λ n. record { made = n; stop = (from left a).stop; last = (from left a).last }) f
  so_far {a = a} (one_more_made {k = k} {b = b} {c = c} r s) left =
      let e : suc k + left ≡ k + suc left = omega arith in
      let f : k + (1 + (from left c).made) ≡ suc k + (from left c).made = omega arith in
      ap (λ n. from n a) e ∙ so_far r (suc left) ∙ ap (after k) (one_step left b c s)
      ∙ ap (λ n. record { made = n; stop = (from left c).stop; last = (from left c).last }) f

  stops : (budget made : ℕ) (b : Desk R) (x : Stop) → made ≤ budget → Stopped kind budget made b x → from (budget - made) b ≡ ended x (meant kind b)
  stops budget made b Value l s = from_value kind.changes tells (budget - made) (meant kind b) s
  stops budget made b Budget l s =
      let z : budget - made ≡ 0 = let q = s.1 in omega arith in
      ap (λ n. from n b) z ∙ from_budget kind.changes tells (meant kind b) s.0
  stops budget made b (Refused f n) l s =
      let z : budget - made ≡ suc (budget - made - 1) = let q = s.1 in omega arith in
      ap (λ n. from n b) z ∙ from_step kind.changes tells (budget - made - 1) (meant kind b) (Err f) s.0 (due_is b (Err f) s.2)
      ∙ ap (λ k. ended (Refused f k) (meant kind b)) (sym s.3)

  -- where a run that is not refused ends
  ends : (budget made : ℕ) (a b : Desk R) (x : Stop) → made ≤ budget → Ran kind a made b → Stopped kind budget made b x → from budget a ≡ record { made = made; stop = x; last = meant kind b }
  ends budget made a b x l r s =
      let e : budget ≡ made + (budget - made) = omega arith in
      let z : made + 0 ≡ made = omega arith in
      ap (λ n. from n a) e ∙ so_far r (budget - made) ∙ ap (after made) (stops budget made b x l s)
      ∙ ap (λ n. record { made = n; stop = x; last = meant kind b }) z

  refused_run : (a : Standing kind.Content) (budget : ℕ) (v : Result (Unit {0}) ControllerFault) (f : Refusal) → placed a.shot.steps v ≡ Err f → (Err f, a) ≡ run_if_ready kind.changes tells budget a v
  refused_run a budget (Ok u) f e = absurd (ok_err e)
  refused_run a budget (Err g) f e = let q : ◌≡◌ {A = Result (ℕ × Stop) Refusal} (Err f) (refused g a.shot.steps) = cc in ap (λ x. (x, a)) q

  pub run_settled : (budget : ℕ) (a b : Desk R) (x : Result (ℕ × Stop) Refusal) → RunAnswer kind budget a b x → OnErr x (meant kind b ≡ meant kind a)
      → (x, meant kind b) ≡ run_of kind.changes tells budget (meant kind a)
  run_settled budget a b (Ok (made, stop)) r o =
      ap (λ (e : Ended kind.Content). (Ok (e.made, e.stop), e.last)) (sym (ends budget made a b stop r.1 r.2 r.3))
      ∙ ap (run_if_ready kind.changes tells budget (meant kind a)) (sym r.0)
  run_settled budget a b (Err f) r o = ap (λ y. (Err f, y)) o ∙ refused_run (meant kind a) budget (ready_answer (length a.shot.cells) (length a.work)) f r

-- a refused call leaves what stands
pub same_standing : {R X : Type 0} (kind : Ghosts R) (s s' : Shot) (r r' : R) (w w' : List TermCell) (x : Result X Refusal) → OnErr x ((s' ≡ s) × (r' ≡ r) × (w' ≡ w))
    → OnErr x (meant kind (desk s' r' w') ≡ meant kind (desk s r w))
same_standing kind s s' r r' w w' (Ok n) o = tt
same_standing kind s s' r r' w w' (Err f) o = let e = o.0 in let f = o.1 in let g = o.2 in let q : desk s' r' w' ≡ desk s r w = cc in ap (meant kind) q

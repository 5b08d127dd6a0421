-- A run makes one step more, or stops at one that is refused.
use Rattle.std.proofs.Common.{◌≡◌, ℕ, suc, ◌+◌, ◌≤◌, false, List, Ok, Err, Option, Result, sym, refl, ap, ◌∙◌, subst, arith}
use Rattle.std.proofs.lemmas.Bool.Decides.{nat_tests}
use Rattle.calculus.specs.declared.cells.TermCell.{TermCell}
use Rattle.finder.specs.declared.rules.Rule.{Rule}
use Rattle.finder.specs.declared.faults.FindFault.{FindFault}
use Rattle.finder.specs.Finding.{answer}
use Rattle.registers.specs.declared.register.Register.{Ghosts}
use Rattle.controller.specs.declared.faults.ControllerFault.{ControllerFault}
use Rattle.controller.specs.declared.shot.Shot.{Shot}
use Rattle.registers.specs.Telling.{told}
use Rattle.controller.specs.Faults.{ready_answer}
use Rattle.controller.specs.Shots.{held}
use Rattle.controller.specs.Stepping.{Made, taken, count_made, StepLeaves}
use Rattle.controller.specs.Running.{Desk, desk, due, StepLeads, Ran, one_more_made}
use Rattle.controller.specs.Unloading.{is_value}

pub ok_err : {A F : Type 0} {x : A} {f : F} → ◌≡◌ {A = Result A F} (Ok x) (Err f) → ⊥
ok_err e = let z : ◌≡◌ {A = ℕ} 0 1 = cc in omega arith

-- A count tells a step that was made, and a fault one that was refused.
counted_ok : {C : Type 0} (x : Result (Made C) ControllerFault) (n : ℕ) → Ok n ≡ count_made x → (t : Made C) × (x ≡ Ok t)
counted_ok (Ok t) n e = (t, refl)
counted_ok (Err f) n e = absurd (ok_err e)

counted_err : {C : Type 0} (x : Result (Made C) ControllerFault) (f : ControllerFault) → Err f ≡ count_made x → x ≡ Err f
counted_err (Ok t) f e = absurd (ok_err (sym e))
counted_err (Err g) f e = let q : g ≡ f = cc in ap Err q

-- A run that begins has a long enough work table.
pub ready_room : (cells room : ℕ) → Ok tt ≡ ready_answer cells room → 1024 ≤ room
ready_room cells room e = grind (arith, nat_tests)

module _ {R : Type 0} (kind : Ghosts R) (s s' : Shot) (r r' : R) (w w' : List TermCell) (found : Result (Option (Rule × ℕ)) FindFault) where
  abbrev Took : Result (Made kind.Content) ControllerFault
  Took = taken kind.changes (told kind r) (held s).cells found

  due_is : (x : Result (Made kind.Content) ControllerFault) → found ≡ answer (held s).cells → Took ≡ x → due kind (desk s r w) ≡ x
  due_is x e q = ap (taken kind.changes (told kind r) (held s).cells) (sym e) ∙ q

  pub run_goes_on : (a : Desk R) (made n : ℕ) → found ≡ answer (held s).cells → Ok n ≡ count_made Took → StepLeaves kind Took s s' r r' w w'
      → Ran kind a made (desk s r w) → Ran kind a (made + 1) (desk s' r' w')
  run_goes_on a made n e c l ran = go (counted_ok Took n c)
    where
      go : (t : Made kind.Content) × (Took ≡ Ok t) → Ran kind a (made + 1) (desk s' r' w')
      go (t, q) =
          let p = subst (λ x. StepLeaves kind x s s' r r' w w') q l in
          let b : StepLeads kind (desk s r w) (desk s' r' w') = record { made = t; step = due_is (Ok t) e q; shot = p.0; register = p.1; work = p.2 } in
          let k : suc made ≡ made + 1 = omega arith in
          subst (λ k. Ran kind a k (desk s' r' w')) k (one_more_made ran b)

  pub run_refused : (a : Desk R) (made : ℕ) (f : ControllerFault) → found ≡ answer (held s).cells → is_value found ≡ false → Err f ≡ count_made Took → StepLeaves kind Took s s' r r' w w'
      → Ran kind a made (desk s r w)
      → Ran kind a made (desk s' r' w') × (is_value (answer (held s').cells) ≡ false) × (due kind (desk s' r' w') ≡ Err f)
  run_refused a made f e v c l ran =
      let q = counted_err Took f c in
      let p = subst (λ x. StepLeaves kind x s s' r r' w w') q l in
      let b : desk s r w ≡ desk s' r' w' = cc in (
        subst (λ y. Ran kind a made y) b ran,
        ap (λ x. is_value (answer (held x).cells)) p.0 ∙ ap is_value (sym e) ∙ v,
        subst (λ y. due kind y ≡ Err f) b (due_is (Err f) e q),
      )

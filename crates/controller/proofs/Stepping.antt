-- A call of step keeps the invariant, by what the member of a row does.
use Rattle.std.proofs.Common.{◌≡◌, ℕ, ◌<◌, ◌≤◌, Bool, true, false, length, nat_lt, Some, None, Option, Ok, Err, Result, sym, refl, ap, ◌∙◌, subst, arith, ◌==◌}
use Rattle.calculus.specs.Types.{Ty}
use Rattle.calculus.specs.Terms.{Running}
use Rattle.registers.specs.Meaning.{Meaning, Changes, Fresh}
use Rattle.rows.specs.Members.{step}
use Rattle.rows.specs.Places.{Place}
use Rattle.rows.specs.Refusing.{nothing_to_step, short_to_step, step_of_value, no_rule, too_long, register_refuses, Refused, Answers}
use Rattle.rows.specs.Refusing.{Holds as RowHolds}
use Rattle.rows.proofs.Sound.{some_none}
use Rattle.rows.specs.Doing.{Does, steps, one_more, no_more}
use Rattle.rows.specs.Rows.{Reached, at_start, then_does}
use Rattle.rows.proofs.Kept.{KeptTerm, kept_loaded, new, does}
use Rattle.rows.proofs.Kept.{Kept as PlaceKept}
use Rattle.controller.specs.declared.faults.ControllerFault.{ControllerFault}
use Rattle.controller.specs.declared.faults.ControllerFault.TheVariants.{ShortTable}
use Rattle.registers.specs.Telling.{Told}
use Rattle.controller.specs.Faults.{fault_number, ready_answer}
use Rattle.controller.specs.Shots.{Held}
use Rattle.controller.specs.Stepping.{one_more as one_more_step}
use Rattle.controller.specs.Stepping.{Made, stepped, once_ready, step_made, held_after}
use Rattle.controller.specs.Keeping.{Holds, Stands, place, Kept, place_of, Keeps}
use Rattle.controller.proofs.Keeping.{loaded_stands}
use Rattle.controller.proofs.Stepped.{from_41, Done, Comes, stepping}

-- No row below 31 holds for a step, and none below 34 where something is loaded.
lowest_row : {C : Type 0} {p : Place C} {f w : ℕ} → RowHolds p f (step w) → (n : ℕ) → f < n → (31 < n → p.loaded ≡ None → ⊥) → n ≤ 34 → ⊥
lowest_row (nothing_to_step q) n b g l = g b q
lowest_row (short_to_step q) n b g l = omega arith
lowest_row (step_of_value q v) n b g l = omega arith
lowest_row (no_rule q v r) n b g l = omega arith
lowest_row (too_long q x) n b g l = omega arith
lowest_row (register_refuses reason q c h) n b g l = let z = from_41 reason in omega arith

-- What holds of every place that rows lead to.
pub reached_kept : {C : Type 0} (changes : Changes C) {p q : Place C} → PlaceKept p → Reached changes p q → PlaceKept q
reached_kept changes k at_start = k
reached_kept changes k (then_does r d) = does changes (reached_kept changes k r) d

pub kept_place : {C : Type 0} {changes : Changes C} {h : Held} {r : Meaning C} (k : Kept changes h r) → PlaceKept (place_of k)
kept_place {changes = changes} k = reached_kept changes (new changes k.is_new) k.reached

pub kept_term : {C : Type 0} {changes : Changes C} {h : Held} {r : Meaning C} (k : Kept changes h r) (m : Running) (a : Ty) → k.loaded ≡ Some (m, a) → KeptTerm m a r
kept_term k m a q = kept_loaded q (kept_place k)

module _ {C : Type 0} (changes : Changes C) (t : Told C) (free : Fresh t.meaning t.fresh) (h : Held) (k : Kept changes h t.meaning) where
  -- what a step that is made, or refused, comes to from the place of the controller
  abbrev pub StepKeeps : ℕ → Result (Made C) ControllerFault → Type 0
  StepKeeps room (Ok x) = Keeps changes (step room) h t.meaning (held_after h x) x.register false k
  StepKeeps room (Err f) = Answers (place_of k) (step room) (Some (fault_number f))

  after_done : (m : Running) (a : Ty) (q : k.loaded ≡ Some (m, a)) (s : Holds h m a) (room : ℕ) → 1024 ≤ room → (x : Made C)
      → Done changes t free (kept_term k m a q) h.cells s.means s.claim_nothing x → StepKeeps room (Ok x)
  after_done m a q s room l x d =
      let does_step : Does changes (place_of k) (step room) (place (Some (d.next, a)) x.register) = steps (fine room l) (one_more q (fine 1024 (omega arith)) d.makes no_more) in
      record {
        after = record {
          loaded = Some (d.next, a);
          stands = record { means = d.next_means; claim_nothing = d.next_bare; kinds = s.kinds };
          start = k.start;
          is_new = k.is_new;
          reached = then_does k.reached does_step;
          counts = ap one_more_step k.counts;
        };
        does = does_step;
        refusal = ((λ e. let z : ◌≡◌ {A = ℕ} 0 1 = cc in absurd (omega arith)), (λ n. absurd (fine room l n)));
      }
    where
      fine : (w : ℕ) → 1024 ≤ w → Refused (place_of k) (step w) → ⊥
      fine w l n = d.not_refused w l (subst (λ o. Refused (place o t.meaning) (step w)) q n)

  pub after_stepping : (m : Running) (a : Ty) (q : k.loaded ≡ Some (m, a)) (s : Holds h m a) (room : ℕ) → 1024 ≤ room → (x : Result (Made C) ControllerFault)
      → Comes changes t free (kept_term k m a q) h.cells s.means s.claim_nothing x → StepKeeps room x
  after_stepping m a q s room l (Ok x) d = after_done m a q s room l x d
  after_stepping m a q s room l (Err f) d = subst (λ o. Answers (place o t.meaning) (step room) (Some (fault_number f))) (sym q) (d room l)

  pub step_keeps : (room : ℕ) → StepKeeps room (step_made changes t h room)
  step_keeps room = by k.loaded refl k.stands
    where
      ready : ℕ → ℕ → Result (Made C) ControllerFault
      ready n room = once_ready (ready_answer n room) (stepped changes t h.cells)

      nothing : length h.cells ≡ 0 → k.loaded ≡ None → StepKeeps room (step_made changes t h room)
      nothing z q = subst (λ n. StepKeeps room (ready n room)) (sym z) (nothing_to_step q, λ other x b. lowest_row x 31 b (λ l. absurd (omega arith)) (omega arith))

      something : (m : Running) (a : Ty) → k.loaded ≡ Some (m, a) → (s : Holds h m a) → (length h.cells == 0) ≡ false → (b : Bool) → nat_lt room 1024 ≡ b → StepKeeps room (step_made changes t h room)
      something m a q s z true l =
          let e : ready_answer (length h.cells) room ≡ Err ShortTable = (rw (z) (rw (l) refl)) in
          subst (λ y. StepKeeps room (once_ready y (stepped changes t h.cells))) (sym e) (short_to_step (grind arith), λ other x b. lowest_row x 34 b (λ _ n. some_none q n) (omega arith))
      something m a q s z false l =
          let e : ready_answer (length h.cells) room ≡ Ok tt = (rw (z) (rw (l) refl)) in
          subst (λ y. StepKeeps room (once_ready y (stepped changes t h.cells))) (sym e)
          (after_stepping m a q s room (grind arith) (stepped changes t h.cells) (stepping changes t free (kept_term k m a q) h.cells s.means s.claim_nothing))

      by : (o : Option (Running × Ty)) → k.loaded ≡ o → Stands h o → StepKeeps room (step_made changes t h room)
      by None q s = nothing (ap (λ y. length y.cells) s) q
      by (Some (m, a)) q s =
          let z = loaded_stands m h (sym s.claim_nothing ∙ s.means.written) in
          something m a q s (grind arith) (nat_lt room 1024) refl

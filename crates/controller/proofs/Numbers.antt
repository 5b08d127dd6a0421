-- Each call is refused by the lowest row of the sheet that holds for it.
use Rattle.std.proofs.Common.{◌≡◌, ℕ, ◌<◌, ◌≤◌, Bool, true, false, cond, not, ◌⊎◌, length, nat_lt, Some, None, Option, Ok, Err, Result, OnErr, List, inl, inr, sym, refl, ap, ap₂, ◌∙◌, subst, arith, ◌==◌}
use Rattle.std.proofs.Math.Logic.{∥∥₁_elim}
use Rattle.std.proofs.lemmas.Bool.{false≢true}
use Rattle.calculus.specs.declared.cells.TermCell.{TermCell}
use Rattle.calculus.specs.Types.{Ty}
use Rattle.calculus.specs.Terms.{Running, size}
use Rattle.calculus.specs.Cells.{type_cells}
use Rattle.calculus.specs.Reduction.{Value}
use Rattle.finder.specs.Finding.{answer}
use Rattle.registers.specs.declared.register.Register.{Ghosts}
use Rattle.registers.specs.Meaning.{Meaning, Changes, Fresh}
use Rattle.rows.specs.Members.{step, run, collect, abandon}
use Rattle.rows.specs.Places.{Place}
use Rattle.rows.specs.Refusing.{most_cells, Holds, nothing_to_run, nothing_to_collect, nothing_to_abandon, short_to_run, no_value_yet, short_to_collect, Refused, Answers}
use Rattle.rows.specs.Doing.{Does, refused, runs, Stops, at_value, at_budget, at_refusal}
use Rattle.rows.proofs.Made.{run_taken, collect_taken, abandon_taken}
use Rattle.rows.proofs.Sound.{some_none, same_term}
use Rattle.controller.specs.declared.faults.ControllerFault.{ControllerFault}
use Rattle.controller.specs.declared.faults.ControllerFault.TheVariants.{NothingLoaded, NoValue, ShortTable, ShortTables}
use Rattle.controller.specs.declared.faults.Refusal.{Refusal}
use Rattle.controller.specs.declared.faults.Stop.{Stop}
use Rattle.registers.specs.Telling.{Told}
use Rattle.controller.specs.Faults.{ready_answer, number_refused, fault_number}
use Rattle.controller.specs.Faults.{refused as refused_call}
use Rattle.controller.specs.Keeping.{Stands, Kept, place_of, Keeps}
use Rattle.controller.specs.Calls.{StopAnsweredBy}
use Rattle.controller.specs.declared.shot.Shot.{Shot}
use Rattle.controller.specs.Meant.{Standing, Comes}
use Rattle.controller.specs.Running.{Desk, desk, RunAnswer}
use Rattle.controller.specs.declared.control.Controller.{Controller}
use Rattle.controller.specs.declared.faults.Stop.TheVariants.{Value as ValueStop, Budget as BudgetStop, Refused as RefusedStop}
use Rattle.controller.proofs.Calls.{run_call}
use Rattle.controller.specs.Shots.{Held, held, is_loaded}
use Rattle.controller.specs.Stepping.{Made, count_made, placed, step_made}
use Rattle.controller.specs.Unloading.{is_value, collect_answer, abandon_answer}
use Rattle.controller.proofs.Collected.{short_for, short_tables, found_value, value_found}
use Rattle.controller.proofs.Keeping.{loaded_stands}
use Rattle.controller.proofs.Meant.{meant, comes}
use Rattle.controller.proofs.Ran.{comes_refused}
use Rattle.controller.proofs.Stepping.{StepKeeps, step_keeps}

lowest_run : {C : Type 0} {p : Place C} {f b w : ℕ} → Holds p f (run b w) → (n : ℕ) → f < n → n ≤ 34 → (31 < n → p.loaded ≡ None → ⊥) → ⊥
lowest_run (nothing_to_run q) n b l g = g b q
lowest_run (short_to_run q) n b l g = omega arith

lowest_collect : {C : Type 0} {p : Place C} {f t k : ℕ} → Holds p f (collect t k) → (n : ℕ) → f < n → n ≤ 39 → (31 < n → p.loaded ≡ None → ⊥)
    → (38 < n → (m : Running) (a : Ty) → p.loaded ≡ Some (m, a) → (Value m → ⊥) → ⊥) → ⊥
lowest_collect (nothing_to_collect q) n b l g v = g b q
lowest_collect (no_value_yet {m = m} {a = a} q x) n b l g v = v b m a q x
lowest_collect (short_to_collect q x) n b l g v = omega arith

lowest_abandon : {C : Type 0} {p : Place C} {f : ℕ} → Holds p f abandon → f < 31 → ⊥
lowest_abandon (nothing_to_abandon q) b = omega arith

module _ {C : Type 0} {changes : Changes C} {h : Held} {r : Meaning C} (k : Kept changes h r) where
  pub abandon_number : Answers (place_of k) abandon (number_refused (abandon_answer h))
  abandon_number = by k.loaded refl k.stands
    where
      tested : Bool → Option ℕ
      tested l = number_refused (cond l (Ok tt) (refused_call {A = Unit {0}} NothingLoaded h.steps))

      by : (o : Option (Running × Ty)) → k.loaded ≡ o → Stands h o → Answers (place_of k) abandon (number_refused (abandon_answer h))
      by None q s = subst (Answers (place_of k) abandon) (sym (ap tested (ap is_loaded s))) (nothing_to_abandon q, λ other y b. lowest_abandon y b)
      by (Some (m, a)) q s =
          subst (Answers (place_of k) abandon) (sym (ap tested (loaded_stands m h (sym s.claim_nothing ∙ s.means.written)))) (λ number y. abandon_taken changes (place_of k) q y)

  pub collect_number : (v w : ℕ) → Answers (place_of k) (collect v w) (number_refused (collect_answer h v w))
  collect_number v w = by k.loaded refl k.stands
    where
      tested : Bool → Bool → Bool → Option ℕ
      tested l x y = number_refused {A = ℕ × ℕ} (cond (not l) (refused_call NothingLoaded h.steps) (cond (not x) (refused_call NoValue h.steps) (cond y (refused_call ShortTables h.steps) (Ok (length h.cells, length h.kinds)))))

      said : {l x y : Bool} → is_loaded h ≡ l → is_value (answer h.cells) ≡ x → short_for h v w ≡ y → Answers (place_of k) (collect v w) (tested l x y)
          → Answers (place_of k) (collect v w) (number_refused (collect_answer h v w))
      said {l} {x} {y} p q e a = subst (Answers (place_of k) (collect v w)) (sym (ap₂ (λ l x. tested l x (short_for h v w)) p q ∙ ap (tested l x) e)) a

      by : (o : Option (Running × Ty)) → k.loaded ≡ o → Stands h o → Answers (place_of k) (collect v w) (number_refused (collect_answer h v w))
      by None q s = said (ap is_loaded s) refl refl (nothing_to_collect q, λ other y b. lowest_collect y 31 b (omega arith) (λ l. absurd (omega arith)) (λ l. absurd (omega arith)))
      by (Some (m, a)) q s = by_value (is_value (answer h.cells)) refl
        where
          is_there : is_loaded h ≡ true
          is_there = loaded_stands m h (sym s.claim_nothing ∙ s.means.written)

          by_value : (x : Bool) → is_value (answer h.cells) ≡ x → Answers (place_of k) (collect v w) (number_refused (collect_answer h v w))
          by_value false x = said is_there x refl
              (no_value_yet q (λ value. false≢true (sym x ∙ value_found h.cells m s.means value)), λ other y b. lowest_collect y 38 b (omega arith) (λ _ n. some_none q n) (λ l. absurd (omega arith)))
          by_value true x = by_room (short_for h v w) refl
            where
              value : Value m
              value = found_value h.cells m s.means x

              by_room : (y : Bool) → short_for h v w ≡ y → Answers (place_of k) (collect v w) (number_refused (collect_answer h v w))
              by_room true y = said is_there x y (
                short_to_collect q ((short_tables h v w s).0 y),
                λ other z b. lowest_collect z 39 b (omega arith) (λ _ n. some_none q n) (λ _ m' a' e no_value. no_value (subst Value (sym (same_term q e)) value)),
              )
              by_room false y =
                  let fits : (v < size m) ⊎ (w < length (type_cells a)) → ⊥ = λ l. absurd (false≢true (sym y ∙ (short_tables h v w s).1 l)) in
                  said is_there x y (λ number z. collect_taken changes (place_of k) q value (λ l. fits (inl l)) (λ l. fits (inr l)) z)

  pub ready_number : (budget room : ℕ) → Answers (place_of k) (run budget room) (number_refused (placed h.steps (ready_answer (length h.cells) room)))
  ready_number budget room = by k.loaded refl k.stands
    where
      tested : Bool → Bool → Option ℕ
      tested n l = number_refused (placed {A = Unit {0}} h.steps (cond n (Err NothingLoaded) (cond l (Err ShortTable) (Ok tt))))

      said : {n l : Bool} → (length h.cells == 0) ≡ n → nat_lt room 1024 ≡ l → Answers (place_of k) (run budget room) (tested n l)
          → Answers (place_of k) (run budget room) (number_refused (placed h.steps (ready_answer (length h.cells) room)))
      said p q a = subst (Answers (place_of k) (run budget room)) (sym (ap₂ tested p q)) a

      by : (o : Option (Running × Ty)) → k.loaded ≡ o → Stands h o → Answers (place_of k) (run budget room) (number_refused (placed h.steps (ready_answer (length h.cells) room)))
      by None q s = said (ap (λ y. length y.cells == 0) s) refl (nothing_to_run q, λ other y b. lowest_run y 31 b (omega arith) (λ l. absurd (omega arith)))
      by (Some (m, a)) q s = let z = loaded_stands m h (sym s.claim_nothing ∙ s.means.written) in by_room (grind arith) (nat_lt room 1024) refl
        where
          by_room : (length h.cells == 0) ≡ false → (l : Bool) → nat_lt room 1024 ≡ l → Answers (place_of k) (run budget room) (number_refused (placed h.steps (ready_answer (length h.cells) room)))
          by_room z true l = said z l (short_to_run (grind arith), λ other y b. lowest_run y 34 b (omega arith) (λ _ n. some_none q n))
          by_room z false l = said z l (λ number y. run_taken changes (place_of k) q (grind arith) y)

-- the number of a run that is refused, or made
pub run_number : {R : Type 0} (kind : Ghosts R) (budget : ℕ) (a b : Desk R) (k : Kept kind.changes a.shot (kind.meaning a.register)) (result : Result (ℕ × Stop) Refusal) → RunAnswer kind budget a b result
    → Answers (place_of k) (run budget (length a.work)) (number_refused result)
run_number kind budget a b k (Ok (made, stop)) x = subst (λ y. Answers (place_of k) (run budget (length a.work)) (number_refused (placed a.shot.steps y))) x.0 (ready_number k budget (length a.work))
run_number kind budget a b k (Err f) x = subst (λ y. Answers (place_of k) (run budget (length a.work)) (number_refused y)) x (ready_number k budget (length a.work))

-- the number of a step
pub step_number : {C : Type 0} (changes : Changes C) (t : Told C) (free : Fresh t.meaning t.fresh) (h : Held) (k : Kept changes h t.meaning) (room : ℕ) (result : Result ℕ Refusal)
    → result ≡ placed h.steps (count_made (step_made changes t h room)) → Answers (place_of k) (step room) (number_refused result)
step_number {C = C} changes t free h k room result e = subst (λ y. Answers (place_of k) (step room) (number_refused y)) (sym e) (by (step_made changes t h room) (step_keeps changes t free h k room))
  where
    by : (x : Result (Made C) ControllerFault) → StepKeeps changes t free h k room x → Answers (place_of k) (step room) (number_refused (placed h.steps (count_made x)))
    by (Ok x) m = λ number y. false≢true (m.refusal.1 (number, y))
    by (Err f) m = m

-- An accepted run leads to a place where something is loaded.
stops_loaded : {C : Type 0} {changes : Changes C} {q : Place C} {b n : ℕ} → Stops changes b n q → (x : Running × Ty) × (q.loaded ≡ Some x)
stops_loaded (at_value {m = m} {a = a} e v) = ((m, a), e)
stops_loaded (at_budget {m = m} {a = a} e v s) = ((m, a), e)
stops_loaded (at_refusal {m = m} {a = a} e v l r) = ((m, a), e)

runs_loaded : {C : Type 0} {changes : Changes C} {p q : Place C} {b w : ℕ} → Does changes p (run b w) q → (Refused p (run b w) → ⊥) → (x : Running × Ty) × (q.loaded ≡ Some x)
runs_loaded (refused r) n = absurd (n r)
runs_loaded (runs x l m s) n = stops_loaded s

pub run_leads : {C : Type 0} {changes : Changes C} {h h' : Held} {r r' : Meaning C} {b w : ℕ} (k : Kept changes h r) → Keeps changes (run b w) h r h' r' false k → is_loaded h' ≡ true
run_leads {h' = h'} k x = by x.after.loaded (runs_loaded x.does (λ y. false≢true (x.refusal.1 y))) x.after.stands
  where
    by : (o : Option (Running × Ty)) → (y : Running × Ty) × (o ≡ Some y) → Stands h' o → is_loaded h' ≡ true
    by None y s = absurd (some_none y.1 refl)
    by (Some (m, a)) y s = loaded_stands m h' (sym s.claim_nothing ∙ s.means.written)

-- the number of the step at which a run stops
pub stop_number : {C : Type 0} {changes : Changes C} (b : Standing C) (f : ControllerFault) (k : Kept changes b.shot b.register) → (is_loaded b.shot ≡ false → ⊥) → Comes changes b (Err f)
    → Answers (place_of k) (step most_cells) (Some (fault_number f))
stop_number {changes = changes} b f k there c = by k.loaded refl k.stands
  where
    by : (o : Option (Running × Ty)) → k.loaded ≡ o → Stands b.shot o → Answers (place_of k) (step most_cells) (Some (fault_number f))
    by None q s = absurd (there (ap is_loaded s))
    by (Some (m, a)) q s = comes_refused changes b f k m a q c

module _ {R : Type 0} (kind : Ghosts R) where
  -- the same of a run that has stopped
  pub run_stop : (c : Controller R kind) (shot' : Shot) (register' : R) (work work' : List TermCell) (budget : ℕ) (result : Result (ℕ × Stop) Refusal)
      → RunAnswer kind budget (desk c.shot c.register work) (desk shot' register' work') result
      → OnErr result ((shot' ≡ c.shot) × (register' ≡ c.register) × (work' ≡ work)) → StopAnsweredBy kind shot' register' result
  run_stop c shot' register' work work' budget (Ok (n, ValueStop)) a o = tt
  run_stop c shot' register' work work' budget (Ok (n, BudgetStop)) a o = tt
  run_stop c shot' register' work work' budget (Ok (n, RefusedStop f steps)) a o = λ k. stop_number (meant kind stopped_at) f k there (comes kind stopped_at (Err f) a.3.2)
    where
      stopped_at : Desk R
      stopped_at = desk shot' register' work'

      there : is_loaded (held shot') ≡ false → ⊥
      there e = ∥∥₁_elim c.reached (λ x y. absurd x)
          (λ k. false≢true (sym e ∙ run_leads k (run_call kind c.shot shot' c.register register' work work' k budget (Ok (n, RefusedStop f steps)) a o)))
  run_stop c shot' register' work work' budget (Err f) a o = tt

-- A call of run keeps the invariant, by what the member of a row does: it is its steps, and it stops for the reason that it tells.
use Rattle.std.proofs.Common.{◌≡◌, ℕ, suc, ◌+◌, ◌≤◌, min, false, length, Some, None, Option, Ok, Err, sym, refl, ap, ◌∙◌, subst, arith}
use Rattle.calculus.specs.Types.{Ty}
use Rattle.calculus.specs.Terms.{Running}
use Rattle.registers.specs.Meaning.{Meaning, Changes, Fresh}
use Rattle.rows.proofs.Sound.{some_none}
use Rattle.std.proofs.lemmas.Bool.{false≢true}
use Rattle.rows.specs.Members.{Member, step, run}
use Rattle.rows.specs.Places.{Place}
use Rattle.rows.specs.Refusing.{most_cells, Runs, nothing_to_run, short_to_run, Refused, Answers}
use Rattle.rows.specs.Doing.{Many, no_more, one_more, Stops, at_value, at_budget, at_refusal, Does, refused, loads, steps, runs, collects, abandons}
use Rattle.rows.specs.Rows.{Reached, at_start, then_does}
use Rattle.controller.specs.declared.faults.ControllerFault.{ControllerFault}
use Rattle.controller.specs.declared.faults.Stop.{Stop}
use Rattle.controller.specs.declared.faults.Stop.TheVariants.{Value as ValueStop, Budget, Refused as RefusedStop}
use Rattle.registers.specs.Telling.{Told}
use Rattle.controller.specs.Faults.{fault_number, ready_answer}
use Rattle.controller.specs.Shots.{Held}
use Rattle.controller.specs.Stepping.{Made, stepped, held_after}
use Rattle.controller.specs.Meant.{Standing, Comes, Ran, none_made, one_more_made, Stopped}
use Rattle.controller.specs.Stepping.{one_more as one_more_step}
use Rattle.controller.specs.Counting.{later, counted_on, steps_since_load}
use Rattle.controller.specs.Keeping.{Holds, Stands, Kept, place_of, Keeps}
use Rattle.controller.proofs.Collected.{found_value, value_found}
use Rattle.controller.proofs.Stepped.{stepping}
use Rattle.controller.proofs.Stepping.{StepKeeps, after_stepping, kept_term}

none_later : (n most : ℕ) → n ≤ most → n ≡ min (n + 0) most
none_later n most l = omega arith

one_later : (n k most : ℕ) → min (min (n + k) most + 1) most ≡ min (n + suc k) most
one_later n k most = omega arith

-- no count is above the last number
small : {C : Type 0} {changes : Changes C} {p q : Place C} (r : Reached changes p q) → steps_since_load r ≤ 18446744073709551615
small at_start = most_zero 18446744073709551615
  where
    most_zero : (n : ℕ) → 0 ≤ n
    most_zero n = omega arith
small (then_does r d) = by 18446744073709551615 (steps_since_load r) (small r) d
  where
    below : (n most : ℕ) → min n most ≤ most
    below n most = omega arith

    zero_below : (most : ℕ) → 0 ≤ most
    zero_below most = omega arith

    by : {C : Type 0} {changes : Changes C} {p q : Place C} {x : Member} (most n : ℕ) → n ≤ 18446744073709551615 → (d : Does changes p x q) → counted_on n d ≤ 18446744073709551615
    by most n l (refused f) = l
    by most n l (loads f) = zero_below 18446744073709551615
    by most n l (steps f m) = below (n + 1) 18446744073709551615
    by most n l (runs {k = k} f i m s) = below (n + k) 18446744073709551615
    by most n l (collects f) = zero_below 18446744073709551615
    by most n l (abandons f) = zero_below 18446744073709551615

module _ {C : Type 0} (changes : Changes C) where
  many_then : {i : ℕ} {p q s : Place C} → Many changes i p q → Many changes 1 q s → Many changes (suc i) p s
  many_then no_more n = n
  many_then (one_more e x t r) n = one_more e x t (many_then r n)

  -- after some steps something is still loaded
  many_loaded : {i : ℕ} {p q : Place C} → Many changes i p q → (m : Running) (a : Ty) → Runs p m a → (n : Running) × (b : Ty) × Runs q n b
  many_loaded no_more m a q = (m, a, q)
  many_loaded (one_more {n = n} {a = b} e x t r) m a q = many_loaded r n b refl

  one_step : {p q : Place C} {w : ℕ} → Does changes p (step w) q → (Refused p (step w) → ⊥) → Many changes 1 p q
  one_step (refused f) n = absurd (n f)
  one_step (steps n m) x = m

  held_by : {h : Held} {o : Option (Running × Ty)} (m : Running) (a : Ty) → Stands h o → o ≡ Some (m, a) → Holds h m a
  held_by {h = h} m a s q = subst (Stands h) q s

  -- What a step that is made or refused comes to, where something is loaded.
  stepped_keeps : (t : Told C) (free : Fresh t.meaning t.fresh) (h : Held) (k : Kept changes h t.meaning) (m : Running) (a : Ty) → k.loaded ≡ Some (m, a)
      → StepKeeps changes t free h k 1024 (stepped changes t h.cells)
  stepped_keeps t free h k m a q =
      let s = held_by m a k.stands q in
      after_stepping changes t free h k m a q s 1024 (omega arith) (stepped changes t h.cells) (stepping changes t free (kept_term k m a q) h.cells s.means s.claim_nothing)

  -- Where a run stands, with the invariant, after so many steps.
  pub record Reaches (a : Standing C) (k : Kept changes a.shot a.register) (n : ℕ) (b : Standing C) : Type 0 where
    pub kept : Kept changes b.shot b.register
    pub many : Many changes n (place_of k) (place_of kept)

  comes_made : (b : Standing C) (t : Made C) (k : Kept changes b.shot b.register) (m : Running) (a : Ty) → k.loaded ≡ Some (m, a) → Comes changes b (Ok t)
      → (k' : Kept changes (held_after b.shot t) t.register) × Many changes 1 (place_of k) (place_of k')
  comes_made b t k m a q c = go c.told c.meaning c.owed.free c.step
    where
      done : (d : Told C) (free : Fresh d.meaning d.fresh) (k : Kept changes b.shot d.meaning) → k.loaded ≡ Some (m, a) → stepped changes d b.shot.cells ≡ Ok t
          → (k' : Kept changes (held_after b.shot t) t.register) × Many changes 1 (place_of k) (place_of k')
      done d free k q e =
          let x : StepKeeps changes d free b.shot k 1024 (Ok t) = subst (StepKeeps changes d free b.shot k 1024) e (stepped_keeps d free b.shot k m a q) in
          (x.after, one_step x.does (λ r. let z : ◌≡◌ {A = ℕ} 0 1 = (let y = x.refusal.1 r in cc) in omega arith))

      go : (d : Told C) → d.meaning ≡ b.register → Fresh d.meaning d.fresh → stepped changes d b.shot.cells ≡ Ok t
          → (k' : Kept changes (held_after b.shot t) t.register) × Many changes 1 (place_of k) (place_of k')
      go d e free f = move d.meaning e (λ k q. done d free k q f)
        where
          move : (r : Meaning C) → r ≡ b.register → ((k : Kept changes b.shot r) → k.loaded ≡ Some (m, a) → (k' : Kept changes (held_after b.shot t) t.register) × Many changes 1 (place_of k) (place_of k'))
              → (k' : Kept changes (held_after b.shot t) t.register) × Many changes 1 (place_of k) (place_of k')
          move r e f = subst (λ (r : Meaning C). (k : Kept changes b.shot r) → k.loaded ≡ Some (m, a) → (k' : Kept changes (held_after b.shot t) t.register) × Many changes 1 (place_of k) (place_of k')) e f k q

  ran_reaches : {a : Standing C} {n : ℕ} {b : Standing C} (k : Kept changes a.shot a.register) (m : Running) (t : Ty) → k.loaded ≡ Some (m, t) → Ran changes a n b → Reaches a k n b
  ran_reaches k m t q none_made = record { kept = k; many = no_more }
  ran_reaches {a = a} k m t q (one_more_made {k = n} {b = b} {c = c} {t = x} r s e) =
      let before = ran_reaches k m t q r in
      let (m', t', q') = many_loaded before.many m t q in
      let (k', one) = comes_made b x before.kept m' t' q' s in
      subst (Reaches a k (suc n)) (sym e) (record { kept = k'; many = many_then before.many one })

  -- the steps that a run has made are counted
  ran_steps : {a : Standing C} {n : ℕ} {b : Standing C} → a.shot.steps ≤ 18446744073709551615 → Ran changes a n b → b.shot.steps ≡ later a.shot.steps n
  ran_steps {a = a} l none_made = none_later a.shot.steps 18446744073709551615 l
  ran_steps {a = a} l (one_more_made {k = k} {b = b} {c = c} {t = t} r s e) =
      ap (λ (y : Standing C). y.shot.steps) e ∙ ap one_more_step (ran_steps l r) ∙ one_later a.shot.steps k 18446744073709551615

  -- a step at the place that a run has come to is refused, with the number of its fault
  pub comes_refused : (b : Standing C) (f : ControllerFault) (k : Kept changes b.shot b.register) (m : Running) (a : Ty) → k.loaded ≡ Some (m, a) → Comes changes b (Err f)
      → Answers (place_of k) (step most_cells) (Some (fault_number f))
  comes_refused b f k m a q c = go c.told c.meaning c.owed.free c.step
    where
      done : (d : Told C) (free : Fresh d.meaning d.fresh) (k : Kept changes b.shot d.meaning) → k.loaded ≡ Some (m, a) → stepped changes d b.shot.cells ≡ Err f
          → Answers (place_of k) (step most_cells) (Some (fault_number f))
      done d free k q e = subst (StepKeeps changes d free b.shot k 1024) e (stepped_keeps d free b.shot k m a q)

      go : (d : Told C) → d.meaning ≡ b.register → Fresh d.meaning d.fresh → stepped changes d b.shot.cells ≡ Err f → Answers (place_of k) (step most_cells) (Some (fault_number f))
      go d e free f' = move d.meaning e (λ k q. done d free k q f')
        where
          move : (r : Meaning C) → r ≡ b.register → ((k : Kept changes b.shot r) → k.loaded ≡ Some (m, a) → Answers (place_of k) (step most_cells) (Some (fault_number f)))
              → Answers (place_of k) (step most_cells) (Some (fault_number f))
          move r e g = subst (λ (r : Meaning C). (k : Kept changes b.shot r) → k.loaded ≡ Some (m, a) → Answers (place_of k) (step most_cells) (Some (fault_number f))) e g k q

  stops : (budget made : ℕ) (b : Standing C) (k : Kept changes b.shot b.register) (m : Running) (a : Ty) → k.loaded ≡ Some (m, a) → (x : Stop) → Stopped changes budget made b x → Stops changes budget made (place_of k)
  stops budget made b k m a q ValueStop e = at_value q (found_value b.shot.cells m (held_by m a k.stands q).means e)
  stops budget made b k m a q Budget e = at_budget q (λ v. false≢true (sym e.0 ∙ value_found b.shot.cells m (held_by m a k.stands q).means v)) e.1
  stops budget made b k m a q (RefusedStop f n) e = at_refusal q (λ v. false≢true (sym e.0 ∙ value_found b.shot.cells m (held_by m a k.stands q).means v)) e.1 (fault_number f, (comes_refused b f k m a q e.2).0)

  -- A call of run that is accepted.
  pub run_made : (budget made : ℕ) (a b : Standing C) (x : Stop) (k : Kept changes a.shot a.register) → ready_answer (length a.shot.cells) (length a.work) ≡ Ok tt
      → made ≤ budget → Ran changes a made b → Stopped changes budget made b x → Keeps changes (run budget (length a.work)) a.shot a.register b.shot b.register false k
  run_made budget made a b x k ready within ran stop = by k.loaded refl k.stands
    where
      fine : (m : Running) (t : Ty) → k.loaded ≡ Some (m, t) → 1024 ≤ length a.work → Refused (place_of k) (run budget (length a.work)) → ⊥
      fine m t q l (n, nothing_to_run e) = some_none q e
      fine m t q l (n, short_to_run s) = omega arith

      made_run : (m : Running) (t : Ty) (q : k.loaded ≡ Some (m, t)) → 1024 ≤ length a.work → (r : Reaches a k made b) → (n : Running) (u : Ty) → r.kept.loaded ≡ Some (n, u)
          → Keeps changes (run budget (length a.work)) a.shot a.register b.shot b.register false k
      made_run m t q l r n u z =
          let d : Does changes (place_of k) (run budget (length a.work)) (place_of r.kept) = runs (fine m t q l) within r.many (stops budget made b r.kept n u z x stop) in
          record {
            after = record { loaded = r.kept.loaded; stands = r.kept.stands; start = k.start; is_new = k.is_new; reached = then_does k.reached d; counts = ran_steps (subst (λ n. n ≤ 18446744073709551615) (sym k.counts) (small k.reached)) ran ∙ ap (λ n. later n made) k.counts };
            does = d;
            refusal = ((λ e. let y : ◌≡◌ {A = ℕ} 0 1 = cc in absurd (omega arith)), (λ y. absurd (fine m t q l y)));
          }

      by : (o : Option (Running × Ty)) → k.loaded ≡ o → Stands a.shot o → Keeps changes (run budget (length a.work)) a.shot a.register b.shot b.register false k
      by None q s = absurd (let z : ◌≡◌ {A = ℕ} 0 1 = (let y : ready_answer 0 (length a.work) ≡ Ok tt = subst (λ n. ready_answer n (length a.work) ≡ Ok tt) (ap (λ y. length y.cells) s) ready in cc) in omega arith)
      by (Some (m, t)) q s =
          let r = ran_reaches k m t q ran in
          let (n, u, z) = many_loaded r.many m t q in
          made_run m t q (room (length a.shot.cells) ready) r n u z
        where
          room : (n : ℕ) → ready_answer n (length a.work) ≡ Ok tt → 1024 ≤ length a.work
          room n e = grind arith

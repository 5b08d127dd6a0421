-- Collecting is the member of a row: it is refused just where nothing is loaded, the term is no value or a table is short.
use Rattle.std.specs.Prelude.{◌≡◌, ℕ, ◌<◌, ◌⊎◌, ◌↔◌, Bool, true, false, not, ◌||◌, List, length, Some, None, Ok, Err, Option, Result, MatchResult, is_err, nat_lt}
use Rattle.std.proofs.lemmas.Bool.{false≢true}
use Rattle.std.proofs.Common.{ap, ◌∙◌, sym, refl, subst, inl, inr, ⊎_elim, arith}
use Rattle.calculus.specs.declared.cells.TermCell.{TermCell}
use Rattle.calculus.specs.Types.{Ty}
use Rattle.calculus.specs.Terms.{Running, size}
use Rattle.calculus.specs.Cells.{type_cells}
use Rattle.calculus.specs.Reduction.{Value}
use Rattle.finder.specs.declared.rules.Rule.{Rule}
use Rattle.finder.specs.declared.faults.FindFault.{FindFault}
use Rattle.finder.specs.Finding.{answer}
use Rattle.finder.specs.Laws.{Means}
use Rattle.finder.proofs.Meaning.{as_many}
use Rattle.finder.proofs.Places.{counted}
use Rattle.finder.proofs.Reduction.{search_is_reduction}
use Rattle.registers.specs.Meaning.{Meaning, Changes, after_clear}
use Rattle.rows.specs.Members.{collect}
use Rattle.rows.specs.Refusing.{Refused, nothing_to_collect, no_value_yet, short_to_collect}
use Rattle.rows.specs.Doing.{collects}
use Rattle.rows.proofs.Made.{collect_taken}
use Rattle.controller.specs.declared.faults.Refusal.{Refusal}
use Rattle.controller.specs.declared.shot.Shot.{Shot}
use Rattle.controller.specs.Shots.{Held, held, nothing_held, is_loaded}
use Rattle.controller.specs.Unloading.{is_value, collect_answer}
use Rattle.controller.specs.Keeping.{Holds as HoldsTerm, Stands, Kept, place_of, Keeps, KeptBy}
use Rattle.controller.proofs.Keeping.{stays, ended, loaded_stands}

-- The finder answers for a value just where it answers nothing.
value_answered : (x : Result (Option (Rule × ℕ)) FindFault) → is_value x ≡ true → x ≡ Ok None
value_answered (Ok None) e = refl
value_answered (Ok (Some y)) e = absurd (false≢true e)
value_answered (Err f) e = absurd (false≢true e)

abbrev pub short_for : Held → ℕ → ℕ → Bool
short_for h v w = nat_lt v (length h.cells) || nat_lt w (length h.kinds)

-- what the three tests say together
abbrev refuses : Bool → Bool → Bool → Bool
refuses loaded value short = not loaded || (not value || short)

collect_refuses : (h : Held) (v w : ℕ) → is_err (collect_answer h v w) ≡ refuses (is_loaded h) (is_value (answer h.cells)) (short_for h v w)
collect_refuses h v w = grind arith

module _ (cs : List TermCell) (m : Running) (means : Means cs m) where
  as_long : length cs ≡ size m
  as_long = sym (as_many cs) ∙ ap length means.written ∙ counted m

  pub found_value : is_value (answer cs) ≡ true → Value m
  found_value e = (search_is_reduction.value cs m means).0 (value_answered (answer cs) e)

  pub value_found : Value m → is_value (answer cs) ≡ true
  value_found v = ap is_value ((search_is_reduction.value cs m means).1 v)

either_below : (v n w l : ℕ) → ((nat_lt v n || nat_lt w l) ≡ true) ↔ ((v < n) ⊎ (w < l))
either_below v n w l = ((λ e. grind arith), (λ x. ⊎_elim (λ (y : v < n). grind arith) (λ (y : w < l). grind arith) x))

pub short_tables : (h : Held) (v w : ℕ) {m : Running} {a : Ty} → HoldsTerm h m a → (short_for h v w ≡ true) ↔ ((v < size m) ⊎ (w < length (type_cells a)))
short_tables h v w {m} {a} s =
    subst (λ n. (short_for h v w ≡ true) ↔ ((v < n) ⊎ (w < length (type_cells a)))) (as_long h.cells m s.means)
    (subst (λ l. (short_for h v w ≡ true) ↔ ((v < length h.cells) ⊎ (w < l))) (ap length s.kinds) (either_below v (length h.cells) w (length h.kinds)))

pub collected : {C : Type 0} {changes : Changes C} {h : Held} {r : Meaning C} (k : Kept changes h r) (v w : ℕ) (h' : Held) (r' : Meaning C) (refused : Bool)
    → refused ≡ is_err (collect_answer h v w)
    → (refused ≡ false → (h' ≡ nothing_held) × (r' ≡ after_clear changes r)) → (refused ≡ true → (h' ≡ h) × (r' ≡ r))
    → Keeps changes (collect v w) h r h' r' refused k
collected {C = C} {changes = changes} {h = h} {r = r} k v w h' r' b e done left = by k.loaded refl k.stands
  where
    tests : b ≡ refuses (is_loaded h) (is_value (answer h.cells)) (short_for h v w)
    tests = e ∙ collect_refuses h v w

    not_done : b ≡ true → Refused (place_of k) (collect v w) → Keeps changes (collect v w) h r h' r' b k
    not_done c why = let now = left c in subst (λ y. Keeps changes (collect v w) h r h' r' y k) (sym c) (stays (collect v w) k h' r' (now.0) (now.1) why)

    by : (o : Option (Running × Ty)) → k.loaded ≡ o → Stands h o → Keeps changes (collect v w) h r h' r' b k
    by None q s = not_done (tests ∙ ap (λ y. refuses (is_loaded y) (is_value (answer y.cells)) (short_for y v w)) s) (31, nothing_to_collect q)
    by (Some (m, a)) q s = by_value (is_value (answer h.cells)) refl
      where
        is_there : is_loaded h ≡ true
        is_there = loaded_stands m h (sym s.claim_nothing ∙ s.means.written)

        by_value : (x : Bool) → is_value (answer h.cells) ≡ x → Keeps changes (collect v w) h r h' r' b k
        by_value false x = not_done (grind arith) (38, no_value_yet q (λ value. absurd (false≢true (sym x ∙ value_found h.cells m s.means value))))
        by_value true x = by_room (short_for h v w) refl
          where
            by_room : (y : Bool) → short_for h v w ≡ y → Keeps changes (collect v w) h r h' r' b k
            by_room true y = not_done (grind arith) (39, short_to_collect q ((short_tables h v w s).0 y))
            by_room false y =
                let c : b ≡ false = grind arith in
                let now = done c in
                let fits : (v < size m) ⊎ (w < length (type_cells a)) → ⊥ = λ l. absurd (false≢true (sym y ∙ (short_tables h v w s).1 l)) in
                let ok : Refused (place_of k) (collect v w) → ⊥ = λ z. collect_taken changes (place_of k) q (found_value h.cells m s.means x) (λ l. fits (inl l)) (λ l. fits (inr l)) z.1 in
                subst (λ z. Keeps changes (collect v w) h r h' r' z k) (sym c) (ended (collect v w) k h' r' (now.0) (now.1) ok (collects ok) refl)

pub collect_call : {R C : Type 0} (changes : Changes C) (meaning : R → Meaning C) (shot shot' : Shot) (register register' : R) (v w : ℕ) (result : Result (ℕ × ℕ) Refusal)
    → result ≡ collect_answer (held shot) v w
    → MatchResult result (λ _. (held shot' ≡ nothing_held) × (meaning register' ≡ after_clear changes (meaning register))) (λ _. (shot' ≡ shot) × (register' ≡ register))
    → KeptBy changes meaning (collect v w) shot register shot' register' (is_err result)
collect_call changes meaning shot shot' register register' v w (Ok y) e s k =
    collected k v w (held shot') (meaning register') false (ap is_err e) (λ _. s) (λ q. absurd (false≢true q))
collect_call changes meaning shot shot' register register' v w (Err y) e s k =
    collected k v w (held shot') (meaning register') true (ap is_err e) (λ q. absurd (false≢true (sym q))) (λ _. (ap held s.0, ap meaning s.1))

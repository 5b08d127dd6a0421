-- Each call keeps the invariant, by what the member of a row does.
use Rattle.std.specs.Prelude.{◌≡◌, ◌≤◌, Bool, true, false, not, Some, None, Option, length, nat_lt, cond, Ok, Err, Result, MatchResult, is_err}
use Rattle.std.proofs.lemmas.Bool.{false≢true}
use Rattle.std.proofs.Common.{ap, ◌∙◌, sym, refl, subst, arith}
use Rattle.calculus.specs.Types.{Ty}
use Rattle.calculus.specs.Terms.{Running, var, const, star, lam, app, pair, if_then_else, let_pair}
use Rattle.calculus.specs.Cells.{running_cells}
use Rattle.registers.specs.Meaning.{Meaning, Changes, after_clear}
use Rattle.rows.specs.Members.{Member, abandon}
use Rattle.rows.specs.Refusing.{Refused, nothing_to_abandon}
use Rattle.rows.specs.Doing.{Does, refused, abandons}
use Rattle.rows.specs.Rows.{at_start, then_does}
use Rattle.rows.proofs.Sound.{some_none}
use Rattle.controller.specs.declared.faults.ControllerFault.TheVariants.{NothingLoaded}
use Rattle.controller.specs.declared.faults.Refusal.{Refusal}
use Rattle.controller.specs.declared.shot.Shot.{Shot}
use Rattle.controller.specs.Faults.{refused as refused_call}
use Rattle.controller.specs.Unloading.{abandon_answer}
use Rattle.controller.specs.Shots.{Held, held, nothing_held, is_loaded}
use Rattle.controller.specs.Counting.{counted_on, steps_since_load}
use Rattle.controller.specs.Keeping.{Stands, place, Kept, place_of, Keeps, KeptBy}

abbrev pub kept_new : {C : Type 0} (changes : Changes C) (given : Meaning C) → given.capacity ≤ 32 → Kept changes nothing_held (after_clear changes given)
kept_new changes given small =
    record {
      loaded = None;
      stands = refl;
      start = place None (after_clear changes given);
      is_new = record { nothing = refl; given = given; small = small; cleared = refl };
      reached = at_start;
      counts = refl;
    }

-- A call that is refused, and leaves everything as it was.
pub stays : {C : Type 0} {changes : Changes C} {h : Held} {r : Meaning C} (x : Member) (k : Kept changes h r) (h' : Held) (r' : Meaning C)
    → h' ≡ h → r' ≡ r → Refused (place_of k) x → Keeps changes x h r h' r' true k
stays {C = C} {changes = changes} {h = h} {r = r} x k h' r' e f why = go h' r' (sym e) (sym f)
  where
    go : (h' : Held) (r' : Meaning C) → h ≡ h' → r ≡ r' → Keeps changes x h r h' r' true k
    go h' r' e f = subst (λ y. Keeps changes x h r y r' true k) e (subst (λ y. Keeps changes x h r h y true k) f
        (record { after = k; does = refused why; refusal = ((λ _. why), (λ _. refl)) }))

-- A running term has cells.
some_cell : (m : Running) → nat_lt 0 (length (running_cells m)) ≡ true
some_cell (var c x) = refl
some_cell (const c k) = refl
some_cell (star c) = refl
some_cell (lam c m) = grind arith
some_cell (app c m n) = grind arith
some_cell (pair c m n) = grind arith
some_cell (if_then_else c p m n) = grind arith
some_cell (let_pair c m n) = grind arith

pub loaded_stands : (m : Running) (h : Held) → h.cells ≡ running_cells m → is_loaded h ≡ true
loaded_stands m h s = subst (λ cs. nat_lt 0 (length cs) ≡ true) (sym s) (some_cell m)

-- A call that is not refused, and leads to another place.
pub leads : {C : Type 0} {changes : Changes C} {h h₁ : Held} {r r₁ : Meaning C} (x : Member) (k : Kept changes h r) (after : Kept changes h₁ r₁) (h' : Held) (r' : Meaning C)
    → h' ≡ h₁ → r' ≡ r₁ → (Refused (place_of k) x → ⊥) → Does changes (place_of k) x (place_of after) → Keeps changes x h r h' r' false k
leads {changes = changes} {h = h} {h₁ = h₁} {r = r} x k after h' r' e f ok d =
    subst (λ y. Keeps changes x h r y r' false k) (sym e) (subst (λ y. Keeps changes x h r h₁ y false k) (sym f)
    (record { after = after; does = d; refusal = ((λ q. absurd (false≢true q)), (λ n. absurd (ok n))) }))

-- What ends the loaded term: nothing is held, and the register is cleared.
pub ended : {C : Type 0} {changes : Changes C} {h : Held} {r : Meaning C} (x : Member) (k : Kept changes h r) (h' : Held) (r' : Meaning C)
    → h' ≡ nothing_held → r' ≡ after_clear changes r → (Refused (place_of k) x → ⊥) → (d : Does changes (place_of k) x (place None (after_clear changes r)))
    → 0 ≡ counted_on (steps_since_load k.reached) d → Keeps changes x h r h' r' false k
ended x k h' r' e f ok d z = leads x k (record { loaded = None; stands = refl; start = k.start; is_new = k.is_new; reached = then_does k.reached d; counts = z }) h' r' e f ok d

nothing_refuses : {C : Type 0} {changes : Changes C} {h : Held} {r : Meaning C} (k : Kept changes h r) {m : Running} {a : Ty} → k.loaded ≡ Some (m, a) → Refused (place_of k) abandon → ⊥
nothing_refuses k e (n, nothing_to_abandon q) = some_none e q

pub abandoned : {C : Type 0} {changes : Changes C} {h : Held} {r : Meaning C} (k : Kept changes h r) (h' : Held) (r' : Meaning C) (refused : Bool)
    → refused ≡ not (is_loaded h)
    → (refused ≡ false → (h' ≡ nothing_held) × (r' ≡ after_clear changes r)) → (refused ≡ true → (h' ≡ h) × (r' ≡ r))
    → Keeps changes abandon h r h' r' refused k
abandoned {C = C} {changes = changes} {h = h} {r = r} k h' r' b e done left = by k.loaded refl k.stands
  where
    by : (o : Option (Running × Ty)) → k.loaded ≡ o → Stands h o → Keeps changes abandon h r h' r' b k
    by None q s =
        let c : b ≡ true = e ∙ ap (λ y. not (is_loaded y)) s in
        let now = left c in
        subst (λ y. Keeps changes abandon h r h' r' y k) (sym c) (stays abandon k h' r' (now.0) (now.1) (31, nothing_to_abandon q))
    by (Some (m, a)) q s =
        let c : b ≡ false = e ∙ ap not (loaded_stands m h (sym s.claim_nothing ∙ s.means.written)) in
        let now = done c in
        subst (λ y. Keeps changes abandon h r h' r' y k) (sym c) (ended abandon k h' r' (now.0) (now.1) (nothing_refuses k q) (abandons (nothing_refuses k q)) refl)

pub abandon_call : {R C : Type 0} (changes : Changes C) (meaning : R → Meaning C) (shot shot' : Shot) (register register' : R) (result : Result (Unit {0}) Refusal)
    → result ≡ abandon_answer (held shot)
    → MatchResult result (λ _. (held shot' ≡ nothing_held) × (meaning register' ≡ after_clear changes (meaning register))) (λ _. (shot' ≡ shot) × (register' ≡ register))
    → KeptBy changes meaning abandon shot register shot' register' (is_err result)
abandon_call changes meaning shot shot' register register' result e f k = by result (ap is_err e ∙ abandon_refuses (is_loaded (held shot))) f
  where
    abandon_refuses : (b : Bool) → is_err (cond b (Ok tt) (refused_call {A = Unit {0}} NothingLoaded (held shot).steps)) ≡ not b
    abandon_refuses true = refl
    abandon_refuses false = refl

    by : (x : Result (Unit {0}) Refusal) → is_err x ≡ not (is_loaded (held shot))
        → MatchResult x (λ _. (held shot' ≡ nothing_held) × (meaning register' ≡ after_clear changes (meaning register))) (λ _. (shot' ≡ shot) × (register' ≡ register))
        → Keeps changes abandon (held shot) (meaning register) (held shot') (meaning register') (is_err x) k
    by (Ok y) e s = abandoned k (held shot') (meaning register') false e (λ _. s) (λ q. absurd (false≢true q))
    by (Err y) e s = abandoned k (held shot') (meaning register') true e (λ q. absurd (false≢true (sym q))) (λ _. (ap held s.0, ap meaning s.1))

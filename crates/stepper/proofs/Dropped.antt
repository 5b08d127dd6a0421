-- The qubits that the cells of terms name, and those that are dropped.
use Rattle.std.proofs.Common.{◌≡◌, ℕ, zero, suc, ◌+◌, ◌<◌, ◌≤◌, Bool, true, false, cond, not, ◌&&◌, T, eqb, ltb, ◌⊎◌, ◌↔◌, List, [], ◌∷◌, ◌++◌, filter, Some, None, sym, refl, ap, ◌∙◌, subst, inl, inr, arith}
use Rattle.std.specs.List.{range_with_len}
use Rattle.std.proofs.lemmas.Bool.{cases_lt, eqb-true, eq-eqb, ltb-true, false≢true}
use Rattle.calculus.specs.Terms.{bit_of, meas, new, gate, bound, held, var, const, star, lam, app, pair, if_then_else, let_pair, Running, Free, free_var, free_lam, free_fun, free_arg, free_left, free_right, free_test, free_then, free_else, free_pair, free_body}
use Rattle.calculus.specs.Names.{Names, In, Rising}
use Rattle.calculus.specs.Cells.{running_cells, unclaimed}
use Rattle.calculus.specs.Letters.{allowed}
use Rattle.calculus.specs.Reading.{every}
use Rattle.calculus.specs.declared.cells.TermCell.{TermCell}
use Rattle.calculus.proofs.Reading.{both, T_true}
use Rattle.finder.specs.Laws.{Means}
use Rattle.stepper.specs.Naming.{name_of, is_name, names, dropped}
use Rattle.stepper.specs.Names.{NamesLaws}
use Rattle.stepper.proofs.Allowed.{each_first, each_last}

names_unclaimed : (cs : List TermCell) (h : ℕ) → names (unclaimed cs) h ≡ names cs h
names_unclaimed [] h = refl
names_unclaimed (c ∷ cs) h = ap (λ b. cond (is_name (name_of c) h) true b) (names_unclaimed cs h)

or_or : (x y z : Bool) → cond x true (cond y true z) ≡ cond (cond x true y) true z
or_or true y z = refl
or_or false y z = refl

names_append : (cs ds : List TermCell) (h : ℕ) → names (cs ++ ds) h ≡ cond (names cs h) true (names ds h)
names_append [] ds h = refl
names_append (c ∷ cs) ds h = ap (λ b. cond (is_name (name_of c) h) true b) (names_append cs ds h) ∙ or_or (is_name (name_of c) h) (names cs h) (names ds h)

either : (x y : Bool) → cond x true y ≡ true → (x ≡ true) ⊎ (y ≡ true)
either true y e = inl refl
either false y e = inr e

on_right : (x y : Bool) → y ≡ true → cond x true y ≡ true
on_right true y e = refl
on_right false y e = e

-- of two lists of cells, one names the qubit
in_two : {P : Type 0} (cs ds : List TermCell) (h : ℕ) → (names cs h ≡ true → P) → (names ds h ≡ true → P) → names (cs ++ ds) h ≡ true → P
in_two {P} cs ds h f g e = go (either (names cs h) (names ds h) (sym (names_append cs ds h) ∙ e))
  where
    go : (names cs h ≡ true) ⊎ (names ds h ≡ true) → P
    go (inl p) = f p
    go (inr p) = g p

in_first : (cs ds : List TermCell) (h : ℕ) → names cs h ≡ true → names (cs ++ ds) h ≡ true
in_first cs ds h e = names_append cs ds h ∙ ap (λ b. cond b true (names ds h)) e

in_second : (cs ds : List TermCell) (h : ℕ) → names ds h ≡ true → names (cs ++ ds) h ≡ true
in_second cs ds h e = names_append cs ds h ∙ on_right (names cs h) (names ds h) e

no : {P : Type 0} → false ≡ true → P
no e = absurd (false≢true e)

named_held : (k h : ℕ) (b : Bool) → cond (is_name (cond b (Some k) None) h) true false ≡ true → k ≡ h
named_held k h true e = go (either (eqb k h) false e)
  where
    go : (eqb k h ≡ true) ⊎ (false ≡ true) → k ≡ h
    go (inl p) = eqb-true k h p
    go (inr p) = no p
named_held k h false e = no e

named : (m : Running) (h : ℕ) → names (running_cells m) h ≡ true → Names m h
named (var c (bound i)) h e = no e
named (var c (held k)) h e = subst (λ x. Free (held x) (var c (held k))) (named_held k h (ltb k 32) e) free_var
named (const c (bit_of false)) h e = no e
named (const c (bit_of true)) h e = no e
named (const c meas) h e = no e
named (const c new) h e = no e
named (const c (gate u)) h e = no e
named (star c) h e = no e
named (lam c m) h e = free_lam (named m h e)
named (app c m n) h e = in_two (running_cells m) (running_cells n) h (λ p. free_fun (named m h p)) (λ p. free_arg (named n h p)) e
named (pair c m n) h e = in_two (running_cells m) (running_cells n) h (λ p. free_left (named m h p)) (λ p. free_right (named n h p)) e
named (if_then_else c q m n) h e =
    in_two (running_cells q) (running_cells m ++ running_cells n) h (λ p. free_test (named q h p))
    (in_two (running_cells m) (running_cells n) h (λ p. free_then (named m h p)) (λ p. free_else (named n h p))) e
named (let_pair c m n) h e = in_two (running_cells m) (running_cells n) h (λ p. free_pair (named m h p)) (λ p. free_body (named n h p)) e

naming : {m : Running} (h : ℕ) → T (every allowed (running_cells m)) → Names m h → names (running_cells m) h ≡ true
naming h a free_var =
    let below : ltb h 32 ≡ true = T_true (ltb h 32) (both (ltb h 32) true a).0 in
    simp (below, eq-eqb h h refl)
naming h a (free_lam f) = naming h a f
naming h a (free_fun {m = m} {n = n} f) = in_first (running_cells m) (running_cells n) h (naming h (each_first (running_cells m) (running_cells n) a) f)
naming h a (free_arg {m = m} {n = n} f) = in_second (running_cells m) (running_cells n) h (naming h (each_last (running_cells m) (running_cells n) a) f)
naming h a (free_left {m = m} {n = n} f) = in_first (running_cells m) (running_cells n) h (naming h (each_first (running_cells m) (running_cells n) a) f)
naming h a (free_right {m = m} {n = n} f) = in_second (running_cells m) (running_cells n) h (naming h (each_last (running_cells m) (running_cells n) a) f)
naming h a (free_test {p = p} {m = m} {n = n} f) = in_first (running_cells p) (running_cells m ++ running_cells n) h (naming h (each_first (running_cells p) (running_cells m ++ running_cells n) a) f)
naming h a (free_then {p = p} {m = m} {n = n} f) =
    let b = each_last (running_cells p) (running_cells m ++ running_cells n) a in
    in_second (running_cells p) (running_cells m ++ running_cells n) h (in_first (running_cells m) (running_cells n) h (naming h (each_first (running_cells m) (running_cells n) b) f))
naming h a (free_else {p = p} {m = m} {n = n} f) =
    let b = each_last (running_cells p) (running_cells m ++ running_cells n) a in
    in_second (running_cells p) (running_cells m ++ running_cells n) h (in_second (running_cells m) (running_cells n) h (naming h (each_last (running_cells m) (running_cells n) b) f))
naming h a (free_pair {m = m} {n = n} f) = in_first (running_cells m) (running_cells n) h (naming h (each_first (running_cells m) (running_cells n) a) f)
naming h a (free_body {m = m} {n = n} f) = in_second (running_cells m) (running_cells n) h (naming h (each_last (running_cells m) (running_cells n) a) f)

each_unclaimed : (cs : List TermCell) → T (every allowed cs) → T (every allowed (unclaimed cs))
each_unclaimed cs h = subst (λ b. T b) (sym (same cs)) h
  where
    same : (ds : List TermCell) → every allowed (unclaimed ds) ≡ every allowed ds
    same [] = refl
    same (d ∷ ds) = ap (λ b. allowed d && b) (same ds)

exact : (cs : List TermCell) (m : Running) (h : ℕ) → Means cs m → (names cs h ≡ true) ↔ Names m h
exact cs m h k =
    let same : names cs h ≡ names (running_cells m) h = sym (names_unclaimed cs h) ∙ ap (λ ds. names ds h) k.written in
    let each : T (every allowed (running_cells m)) = subst (λ ds. T (every allowed ds)) k.written (each_unclaimed cs k.each_allowed) in
    (λ e. named m h (sym same ∙ e), λ f. same ∙ naming h each f)

-- what a handle that cells name is below
names_below : (cs : List TermCell) (h : ℕ) → names cs h ≡ true → h < 32
names_below [] h e = no e
names_below (c ∷ cs) h e = go (either (is_name (name_of c) h) (names cs h) e) (names_below cs h)
  where
    cell : (x y : Bool) → eqb c.op 113 ≡ x → ltb c.argument 32 ≡ y → is_name (cond (x && y) (Some c.argument) None) h ≡ true → h < 32
    cell true true p q f =
        let l : c.argument < 32 = ltb-true c.argument 32 q in
        let s : c.argument ≡ h = eqb-true c.argument h f in
        omega arith
    cell true false p q f = no f
    cell false y p q f = no f

    go : (is_name (name_of c) h ≡ true) ⊎ (names cs h ≡ true) → (names cs h ≡ true → h < 32) → h < 32
    go (inl f) g = cell (eqb c.op 113) (ltb c.argument 32) refl refl f
    go (inr f) g = g f

module _ (p : ℕ → Bool) where
  in_filtered : (ks : List ℕ) (h : ℕ) → In h (filter p ks) → In h ks × (p h ≡ true)
  in_filtered [] h f = absurd f
  in_filtered (k ∷ ks) h f = go (p k) refl f (in_filtered ks h)
    where
      go : (b : Bool) → p k ≡ b → In h (cond b (k ∷ filter p ks) (filter p ks)) → (In h (filter p ks) → In h ks × (p h ≡ true)) → In h (k ∷ ks) × (p h ≡ true)
      go true e (inl s) w = (inl s, ap p s ∙ e)
      go true e (inr g) w = (inr (w g).0, (w g).1)
      go false e g w = (inr (w g).0, (w g).1)

  filtered_in : (ks : List ℕ) (h : ℕ) → In h ks → p h ≡ true → In h (filter p ks)
  filtered_in [] h f e = f
  filtered_in (k ∷ ks) h (inl s) e = subst (λ b. In h (cond b (k ∷ filter p ks) (filter p ks))) (sym (ap p (sym s) ∙ e)) (inl s)
  filtered_in (k ∷ ks) h (inr f) e = go (p k) (filtered_in ks h f e)
    where
      go : (b : Bool) → In h (filter p ks) → In h (cond b (k ∷ filter p ks) (filter p ks))
      go true w = inr w
      go false w = w

  filtered_rises : (ks : List ℕ) → Rising ks → Rising (filter p ks)
  filtered_rises [] r = tt
  filtered_rises (k ∷ ks) r = go (p k) (filtered_rises ks r.1)
    where
      go : (b : Bool) → Rising (filter p ks) → Rising (cond b (k ∷ filter p ks) (filter p ks))
      go true w = ((λ h f. r.0 h (in_filtered ks h f).0), w)
      go false w = w

range_from : (a n h : ℕ) → In h (range_with_len a n) → a ≤ h
range_from a zero h f = absurd f
range_from a (suc n) h (inl s) = omega arith
range_from a (suc n) h (inr f) = let l = range_from (a + 1) n h f in omega arith

range_rises : (a n : ℕ) → Rising (range_with_len a n)
range_rises a zero = tt
range_rises a (suc n) = ((λ h f. let l = range_from (a + 1) n h f in omega arith), range_rises (a + 1) n)

in_range : (a n h : ℕ) → a ≤ h → h < a + n → In h (range_with_len a n)
in_range a zero h l m = absurd (omega arith)
in_range a (suc n) h l m = go (cases_lt a h) (λ k. in_range (a + 1) n h (omega arith) (omega arith))
  where
    go : (a < h) ⊎ (h ≤ a) → (a < h → In h (range_with_len (a + 1) n)) → In h (range_with_len a (suc n))
    go (inl k) w = inr (w k)
    go (inr k) w = let e : h ≡ a = omega arith in inl e

and_not : (x y : Bool) → x ≡ true → (y ≡ true → ⊥) → (x && not y) ≡ true
and_not true true e f = absurd (f refl)
and_not true false e f = refl
and_not false y e f = no e

not_and : (x y : Bool) → (x && not y) ≡ true → (x ≡ true) × (y ≡ true → ⊥)
not_and true true e = no e
not_and true false e = (refl, λ f. no f)
not_and false y e = no e

dropped_exact : (cs ds : List TermCell) (m n : Running) (h : ℕ) → Means cs m → Means ds n → In h (dropped (names cs) (names ds)) ↔ (Names m h × (Names n h → ⊥))
dropped_exact cs ds m n h k l = (there, back)
  where
    there : In h (dropped (names cs) (names ds)) → Names m h × (Names n h → ⊥)
    there f =
        let w = not_and (names cs h) (names ds h) (in_filtered (λ j. names cs j && not (names ds j)) (range_with_len 0 32) h f).1 in
        ((exact cs m h k).0 w.0, λ g. w.1 ((exact ds n h l).1 g))

    back : Names m h × (Names n h → ⊥) → In h (dropped (names cs) (names ds))
    back (f, g) =
        let e = (exact cs m h k).1 f in
        filtered_in (λ j. names cs j && not (names ds j)) (range_with_len 0 32) h (in_range 0 32 h (omega arith) (omega (arith, names_below cs h e))) (and_not (names cs h) (names ds h) e (λ p. g ((exact ds n h l).0 p)))

pub names_laws : NamesLaws
names_laws = record {
  exact = exact;
  dropped_exact = dropped_exact;
  rising = λ before after. filtered_rises (λ j. before j && not (after j)) (range_with_len 0 32) (range_rises 0 32);
}

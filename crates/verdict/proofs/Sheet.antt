-- The verdict is the first row of the sheet that holds.
use Rattle.std.proofs.Common.{◌≡◌, ℕ, suc, ◌+◌, ◌<◌, ◌≤◌, ◌⊎◌, Bool, true, false, not, ◌&&◌, ◌||◌, T, leb, ◌↔◌, List, ◌∷◌, length, Ok, Err, inl, inr, sym, refl, ap, ◌∙◌, subst, arith, leb→le}
use Rattle.std.specs.Prelude.{is_some}
use Rattle.std.specs.List.{slice_get}
use Rattle.std.proofs.lemmas.Bool.{cases_lt, cond_both, leb-false, or_parts, not-false}
use Rattle.calculus.specs.Types.{Ty, bangs, arrow, tensor}
use Rattle.calculus.specs.Terms.{Const, Var, bound, held, under, Term, var, const, star, lam, app, pair, if_then_else, let_pair, claim_of, size}
use Rattle.calculus.specs.Stripping.{marks, core, first, second, left_of, right_of, positive}
use Rattle.calculus.proofs.Stripping.{T_and, same_exact}
use Rattle.calculus.proofs.Subtyping.{under_marks_is}
use Rattle.verdict.specs.Claims.{claims_fit}
use Rattle.verdict.specs.Faults.{Verdict, accepted, number_of, fault, must, ◌then◌}
use Rattle.verdict.specs.Judging.{binders_of, is_stored, is_bound, entering, verdict_from}
use Rattle.verdict.specs.Sharing.{all_duplicable, uncaptured}
use Rattle.verdict.specs.Uses.{uses}
use Rattle.verdict.specs.Sheet.{Inside, itself, of_body, of_function, of_argument, of_left, of_right, of_condition, of_one, of_zero, of_given, of_use, InTwo, function_and_argument, left_and_right, condition_and_branch, given_and_use, Single, Row, a_qubit, a_binder_too_many, no_such_binder, against_its_rule, in_two_parts, captured, Spot, HoldsFrom, Before, fault_at, Answers, AnswersFrom}
use Rattle.verdict.specs.declared.faults.CheckReason.{CheckReason}
use Rattle.verdict.specs.declared.faults.CheckReason.TheVariants.{BadCell, TooDeep, NoBinder, WrongClaim, UsedTwice, Captures}
use Rattle.verdict.proofs.Accepting.{entered}
use Rattle.verdict.proofs.Complete.{first_is, second_is, marks_is}
use Rattle.verdict.proofs.Fitting.{T_from, not_T, fits_exact, some_binder, no_binder, a_single, no_single}
use Rattle.verdict.proofs.Order.{in_row, by_number, After, sooner, Between, coming_first, part_first}
use Rattle.verdict.proofs.Parting.{duplicable_exact, implied}
use Rattle.verdict.proofs.Sound.{claims}
use Rattle.verdict.proofs.Uses.{TOr, used_free, free_used}

some_size : (m : Term Ty) → 0 < size m
some_size (var c x) = omega arith
some_size (const c k) = omega arith
some_size (star c) = omega arith
some_size (lam c m) = omega arith
some_size (app c m n) = omega arith
some_size (pair c m n) = omega arith
some_size (if_then_else c p m n) = omega arith
some_size (let_pair c m n) = omega arith

-- Of the rows below the number n none holds, where none does that can.
none_below : {bs : List Ty} {r : CheckReason} {m : Term Ty} → Row bs r m → (n : ℕ) → n ≤ 27 → (21 < n → T (is_stored m)) → (24 < n → T (leb (length bs + binders_of m) 32))
    → (25 < n → T (is_bound bs m)) → (26 < n → T (claims_fit bs m)) → number_of r < n → ⊥
none_below a_qubit n small stored room found fit l = stored l
none_below (a_binder_too_many {m = m} o) n small stored room found fit l = let h = leb→le _ _ (room l) in omega arith
none_below {bs = bs} (no_such_binder {i = i} o) n small stored room found fit l = not_T (is_some (slice_get bs i)) (ap is_some (no_binder bs i o)) (found l)
none_below {bs = bs} (against_its_rule {m = m} o) n small stored room found fit l = o ((fits_exact bs m).0 (fit l))
none_below (in_two_parts x i s) n small stored room found fit l = omega arith
none_below (captured x d f s) n small stored room found fit l = omega arith

-- a row from 27 on
late : {bs : List Ty} {r : CheckReason} {m : Term Ty} → Row bs r m → 27 ≤ number_of r → ((x : Var) × InTwo x m × Single bs x) ⊎ (Row bs Captures m × (28 ≤ number_of r))
late a_qubit l = absurd (omega arith)
late (a_binder_too_many o) l = absurd (omega arith)
late (no_such_binder o) l = absurd (omega arith)
late (against_its_rule o) l = absurd (omega arith)
late (in_two_parts x i s) l = inl (x, i, s)
late (captured x d f s) l = inr (captured x d f s, omega arith)

-- The rows of the term at the cell k itself.
module _ (k : ℕ) (bs : List Ty) (m : Term Ty) where
  abbrev pub Own : Spot → Type 0
  Own s = (s.cell ≡ k) × (s.past ≡ k + size m) × Row bs s.reason m

  abbrev pub Coming : Spot → Type 0
  Coming s = (number_of s.reason ≤ 26) × Own s

  abbrev pub Leaving : Spot → Type 0
  Leaving s = (27 ≤ number_of s.reason) × Own s

  own_cases : (s : Spot) → Own s → Coming s ⊎ Leaving s
  own_cases s o = elim (cases_lt (number_of s.reason) 27) [ inl l ↦ inl (omega arith, o) | inr l ↦ inr (l, o) ]

  abbrev spot : CheckReason → Spot
  spot r = record { reason = r; cell = k; past = k + size m }

  own_ends : (s : Spot) → Own s → s.cell < s.past
  own_ends s o = let a = o.0 in let b = o.1 in omega (arith, some_size m)

  not_before : (r : CheckReason) (t : Spot) → Own t → Before t (spot r) → number_of t.reason < number_of r
  not_before r t o b = by_number (spot r) t o.0 (own_ends t o) b

  is_row : (r : CheckReason) → Row bs r m → number_of r ≤ 26 → ((t : Spot) → Own t → number_of t.reason < number_of r → ⊥) → Answers Coming Before fault_at (Err (fault r k))
  is_row r o l none = (spot r, (l, (refl, refl, o)), refl, λ t h b. none t h.1 (not_before r t h.1 b))

qubit_row : (bs : List Ty) (m : Term Ty) → is_stored m ≡ false → Row bs BadCell m
qubit_row bs (var c (bound i)) e = absurd (not_T true e tt)
qubit_row bs (var c (held h)) e = a_qubit
qubit_row bs (const c k) e = absurd (not_T true e tt)
qubit_row bs (star c) e = absurd (not_T true e tt)
qubit_row bs (lam c m) e = absurd (not_T true e tt)
qubit_row bs (app c m n) e = absurd (not_T true e tt)
qubit_row bs (pair c m n) e = absurd (not_T true e tt)
qubit_row bs (if_then_else c q m n) e = absurd (not_T true e tt)
qubit_row bs (let_pair c m n) e = absurd (not_T true e tt)

past_binders : (bs : List Ty) (i : ℕ) → is_some (slice_get bs i) ≡ false → length bs ≤ i
past_binders bs i e = elim (cases_lt i (length bs)) [
  | inl l ↦ absurd (not_T true (sym (ap is_some (some_binder bs i l).1) ∙ e) tt)
  | inr l ↦ l
]

binder_row : (bs : List Ty) (m : Term Ty) → T (is_stored m) → is_bound bs m ≡ false → Row bs NoBinder m
binder_row bs (var c (bound i)) s e = no_such_binder (past_binders bs i e)
binder_row bs (var c (held h)) s e = absurd s
binder_row bs (const c k) s e = absurd (not_T true e tt)
binder_row bs (star c) s e = absurd (not_T true e tt)
binder_row bs (lam c m) s e = absurd (not_T true e tt)
binder_row bs (app c m n) s e = absurd (not_T true e tt)
binder_row bs (pair c m n) s e = absurd (not_T true e tt)
binder_row bs (if_then_else c q m n) s e = absurd (not_T true e tt)
binder_row bs (let_pair c m n) s e = absurd (not_T true e tt)

-- the rows up to 26 of a node
coming : (k : ℕ) (bs : List Ty) (m : Term Ty) → Answers (Coming k bs m) Before fault_at (entering k bs m)
coming k bs m =
    let P : Verdict → Type 0 = Answers (Coming k bs m) Before fault_at in
    cond_both (is_stored m) _ _ P
    (λ e₁. let stored = T_from _ e₁ in
    cond_both (leb (length bs + binders_of m) 32) _ _ P
    (λ e₂. let room = T_from _ e₂ in
    cond_both (is_bound bs m) _ _ P
    (λ e₃. let found = T_from _ e₃ in
    cond_both (claims_fit bs m) _ _ P
    (λ e₄ s h. none_below h.1.2 27 (omega arith) (λ _. stored) (λ _. room) (λ _. found) (λ _. T_from _ e₄) (let l = h.0 in omega arith))
    (λ e. is_row k bs m WrongClaim (against_its_rule (λ f. not_T _ e ((fits_exact bs m).1 f))) (omega arith) (λ t o l. none_below o.2 26 (omega arith) (λ _. stored) (λ _. room) (λ _. found) (λ l. absurd (omega arith)) l)))
    (λ e. is_row k bs m NoBinder (binder_row bs m stored e) (omega arith) (λ t o l. none_below o.2 25 (omega arith) (λ _. stored) (λ _. room) (λ l. absurd (omega arith)) (λ l. absurd (omega arith)) l)))
    (λ e. is_row k bs m TooDeep (a_binder_too_many (leb-false _ _ e)) (omega arith) (λ t o l. none_below o.2 24 (omega arith) (λ _. stored) (λ l. absurd (omega arith)) (λ l. absurd (omega arith)) (λ l. absurd (omega arith)) l)))
    (λ e. is_row k bs m BadCell (qubit_row bs m e) (omega arith) (λ t o l. none_below o.2 21 (omega arith) (λ l. absurd (omega arith)) (λ l. absurd (omega arith)) (λ l. absurd (omega arith)) (λ l. absurd (omega arith)) l))

-- the rows from 27 on of a node, where 28 does not hold
leaving : (k : ℕ) (bs : List Ty) (m : Term Ty) (f : Var → Bool) → ((x : Var) → T (f x) ↔ InTwo x m) → (Row bs Captures m → ⊥)
    → Answers (Leaving k bs m) Before fault_at (must (all_duplicable bs f) (fault UsedTwice k) accepted)
leaving k bs m f two none =
    cond_both (all_duplicable bs f) _ _ (λ v. Answers (Leaving k bs m) Before fault_at v)
    (λ e s h. elim (late h.1.2 h.0) [ inl u ↦ no_single bs f u.0 (T_from _ e) ((two u.0).1 u.1) u.2 | inr u ↦ none u.0 ])
    (λ e.
    let a = a_single bs f e in
    (spot k bs m UsedTwice, (omega arith, (refl, refl, in_two_parts a.0 ((two a.0).0 a.1) a.2)), refl, λ t h b. (let l = not_before k bs m UsedTwice t h.1 b in let g = h.0 in omega arith)))

-- the same of a function
leaving_function : (k : ℕ) (bs : List Ty) (c : Ty) (m : Term Ty) → Answers (Leaving k bs (lam c m)) Before fault_at (uncaptured k bs (marks c) (λ x. uses m (under x)))
leaving_function k bs c m =
    let f : Var → Bool = λ x. uses m (under x) in
    cond_both (not (positive (marks c)) || all_duplicable bs f) _ _ (λ v. Answers (Leaving k bs (lam c m)) Before fault_at v)
    (λ e s h. elim (late h.1.2 h.0) [ inl u ↦ elim u.1 [ ] | inr u ↦ uncaptured_row u.0 (T_from _ e) ])
    (λ e.
    let p = or_parts (not (positive (marks c))) (all_duplicable bs f) e in
    let a = a_single bs f p.1 in
    let d = (duplicable_exact c).0 (T_from _ (not-false (positive (marks c)) p.0)) in (
      spot k bs (lam c m) Captures,
      (omega arith, (refl, refl, captured a.0 d (used_free a.0 (lam c m) a.1) a.2)),
      refl,
      λ t h b. elim (late h.1.2 h.0) [ inl u ↦ elim u.1 [ ] | inr u ↦ (let l = not_before k bs (lam c m) Captures t h.1 b in let g = u.1 in omega arith) ],
    ))
  where
    uncaptured_row : Row bs Captures (lam c m) → T (not (positive (marks c)) || all_duplicable bs (λ x. uses m (under x))) → ⊥
    uncaptured_row (captured x d f s) h = no_single bs (λ x. uses m (under x)) x (implied (positive (marks c)) (all_duplicable bs (λ x. uses m (under x))) h ((duplicable_exact c).1 d)) (free_used f) s

-- no leaf has rows from 27 on
leaf : (k : ℕ) (bs : List Ty) (m : Term Ty) → ((x : Var) → InTwo x m → ⊥) → (Row bs Captures m → ⊥) → (s : Spot) → Leaving k bs m s → ⊥
leaf k bs m two none s h = elim (late h.1.2 h.0) [ inl u ↦ two u.0 u.1 | inr u ↦ none u.0 ]

-- the spots of a term stand between its cells
between : {j : ℕ} {ds : List Ty} {p : Term Ty} (k : ℕ) (bs : List Ty) (m : Term Ty) → Inside j ds p k bs m → (k ≤ j) × (j + size p ≤ k + size m)
between k bs m itself = (omega arith, omega arith)
between k bs (lam c m) (of_body i a b e h) = let r = between (k + 1) (a ∷ bs) m h in (omega arith, omega arith)
between k bs (app c m n) (of_function h) = let r = between (k + 1) bs m h in (omega arith, omega arith)
between k bs (app c m n) (of_argument h) = let r = between (k + 1 + size m) bs n h in (omega arith, omega arith)
between k bs (pair c m n) (of_left h) = let r = between (k + 1) bs m h in (omega arith, omega arith)
between k bs (pair c m n) (of_right h) = let r = between (k + 1 + size m) bs n h in (omega arith, omega arith)
between k bs (if_then_else c q m n) (of_condition h) = let r = between (k + 1) bs q h in (omega arith, omega arith)
between k bs (if_then_else c q m n) (of_one h) = let r = between (k + 1 + size q) bs m h in (omega arith, omega arith)
between k bs (if_then_else c q m n) (of_zero h) = let r = between (k + 1 + size q + size m) bs n h in (omega arith, omega arith)
between k bs (let_pair c m n) (of_given h) = let r = between (k + 1) bs m h in (omega arith, omega arith)
between k bs (let_pair c m n) (of_use i a b e h) = let r = between (k + 1 + size m) (bangs i b ∷ bangs i a ∷ bs) n h in (omega arith, omega arith)

stands : (k : ℕ) (bs : List Ty) (m : Term Ty) (s : Spot) → HoldsFrom k bs m s → Between k (k + size m) s
stands k bs m s h =
    let r = between k bs m h.2 in
    let e = h.4 in
    record { from = r.0; ends = omega (arith, some_size h.1); to = omega arith }

-- What is left of a node's verdict: it answers for spots that come after those before it.
record Rest (k a : ℕ) (Q : Spot → Type 0) (w : Verdict) : Type 0 where
  pub after : (q : Spot) → Q q → After k a q
  pub answers : Answers Q Before fault_at w

rest_leaving : (k a : ℕ) (bs : List Ty) (m : Term Ty) (w : Verdict) → a ≤ k + size m → Answers (Leaving k bs m) Before fault_at w → Rest k a (Leaving k bs m) w
rest_leaving k a bs m w l h = record {
  after = λ q o. let e = o.1.1 in record { ends = own_ends k bs m q o.1; place = inr (o.0, o.1.0, omega arith) };
  answers = h;
}

rest_part : (k a b : ℕ) (cs : List Ty) (m : Term Ty) (Q : Spot → Type 0) (w : Verdict) → k < a → b ≡ a + size m
    → Answers (HoldsFrom a cs m) Before fault_at (verdict_from a cs m) → Rest k b Q w → Rest k a (λ s. HoldsFrom a cs m s ⊎ Q s) (verdict_from a cs m then w)
rest_part k a b cs m Q w l e h rest = record {
  after = λ q o. elim o [
    | inl i ↦ (let x = stands a cs m q i in record { ends = x.ends; place = inl x.from })
    | inr i ↦ sooner k a b q (omega arith) (rest.after q i)
  ];
  answers = in_row Before fault_at (HoldsFrom a cs m) Q _ (verdict_from a cs m) w (λ s o. o) (λ s o. inl o) (λ _ s o. inr o)
      (λ p q i o. part_first k a b p q l (let x = stands a cs m p i in record { from = x.from; ends = x.ends; to = let y = x.to in omega arith }) (rest.after q o)) h (λ _. rest.answers);
}

module _ (k : ℕ) (bs : List Ty) (m : Term Ty) where
  own_holds : (s : Spot) → Own k bs m s → HoldsFrom k bs m s
  own_holds s o = (bs, m, subst (λ j. Inside j bs m k bs m) (sym o.0) itself, o.2, o.1 ∙ ap (λ j. j + size m) (sym o.0))

  -- the verdict on a node: its rows up to 26, and what is left
  node : (Q : Spot → Type 0) (w : Verdict) → Rest k (k + 1) Q w → ((s : Spot) → HoldsFrom k bs m s → Own k bs m s ⊎ Q s) → ((s : Spot) → Leaving k bs m s → Q s)
      → (T (claims_fit bs m) → (s : Spot) → Q s → HoldsFrom k bs m s) → AnswersFrom k bs m (entering k bs m then w)
  node Q w rest split own more =
      in_row Before fault_at (Coming k bs m) Q (HoldsFrom k bs m) (entering k bs m) w
      (λ s h. elim (split s h) [ inl o ↦ elim (own_cases k bs m s o) [ inl c ↦ inl c | inr l ↦ inr (own s l) ] | inr q ↦ inr q ])
      (λ s c. own_holds s c.1)
      (λ e. more ((entered k bs m).0 e).fits)
      (λ p q c o. coming_first k p q c.1.0 c.0 (rest.after q o)) (coming k bs m) (λ _. rest.answers)

-- a leaf's rows are those that it has on coming
leaf_node : (k : ℕ) (bs : List Ty) (m : Term Ty) → ((x : Var) → InTwo x m → ⊥) → (Row bs Captures m → ⊥)
    → ((s : Spot) → HoldsFrom k bs m s → Own k bs m s) → AnswersFrom k bs m (entering k bs m)
leaf_node k bs m two none split =
    subst (λ v. AnswersFrom k bs m v) (then_nothing (entering k bs m))
    (node k bs m (Leaving k bs m) accepted (rest_leaving k (k + 1) bs m accepted (omega (arith, some_size m)) (λ s h. leaf k bs m two none s h)) (λ s h. inl (split s h)) (λ s l. l) (λ _ s l. own_holds k bs m s l.1))
  where
    then_nothing : (v : Verdict) → v then accepted ≡ v
    then_nothing (Ok x) = refl
    then_nothing (Err f) = refl

own_var : (s : Spot) (k : ℕ) (bs : List Ty) (c : Ty) (x : Var) → HoldsFrom k bs (var c x) s → Own k bs (var c x) s
own_var s k bs c x (ds, p, itself, r, e) = (refl, e, r)

own_const : (s : Spot) (k : ℕ) (bs : List Ty) (c : Ty) (q : Const) → HoldsFrom k bs (const c q) s → Own k bs (const c q) s
own_const s k bs c q (ds, p, itself, r, e) = (refl, e, r)

own_star : (s : Spot) (k : ℕ) (bs : List Ty) (c : Ty) → HoldsFrom k bs (star c) s → Own k bs (star c) s
own_star s k bs c (ds, p, itself, r, e) = (refl, e, r)

-- A node of two parts, the second below binders of the types cs.
module _ (k : ℕ) (bs cs : List Ty) (t m n : Term Ty) where
  abbrev Two : Spot → Type 0
  Two s = HoldsFrom (k + 1) bs m s ⊎ (HoldsFrom (k + 1 + size m) cs n s ⊎ Leaving k bs t s)

  two_parts : (f : Var → Bool) → size t ≡ suc (size m + size n) → ((x : Var) → T (f x) ↔ InTwo x t) → (Row bs Captures t → ⊥)
      → AnswersFrom (k + 1) bs m (verdict_from (k + 1) bs m) → AnswersFrom (k + 1 + size m) cs n (verdict_from (k + 1 + size m) cs n)
      → ((s : Spot) → HoldsFrom k bs t s → Own k bs t s ⊎ Two s)
      → (T (claims_fit bs t) → (s : Spot) → HoldsFrom (k + 1) bs m s ⊎ HoldsFrom (k + 1 + size m) cs n s → HoldsFrom k bs t s)
      → AnswersFrom k bs t (entering k bs t then verdict_from (k + 1) bs m then verdict_from (k + 1 + size m) cs n then must (all_duplicable bs f) (fault UsedTwice k) accepted)
  two_parts f z two none p q split more =
      node k bs t Two _
      (rest_part k (k + 1) (k + 1 + size m) bs m _ _ (omega arith) refl p
      (rest_part k (k + 1 + size m) (k + 1 + size m + size n) cs n _ _ (omega arith) refl q
      (rest_leaving k (k + 1 + size m + size n) bs t _ (omega arith) (leaving k bs t f two none))))
      split (λ s l. inr (inr l))
      (λ fit s h. elim h [ inl i ↦ more fit s (inl i) | inr r ↦ elim r [ inl i ↦ more fit s (inr i) | inr l ↦ own_holds k bs t s l.1 ] ])

split_app : (s : Spot) (k : ℕ) (bs : List Ty) (c : Ty) (m n : Term Ty) → HoldsFrom k bs (app c m n) s → Own k bs (app c m n) s ⊎ Two k bs bs (app c m n) m n s
split_app s k bs c m n (ds, p, itself, r, e) = inl (refl, e, r)
split_app s k bs c m n (ds, p, of_function i, r, e) = inr (inl (ds, p, i, r, e))
split_app s k bs c m n (ds, p, of_argument i, r, e) = inr (inr (inl (ds, p, i, r, e)))

split_pair : (s : Spot) (k : ℕ) (bs : List Ty) (c : Ty) (m n : Term Ty) → HoldsFrom k bs (pair c m n) s → Own k bs (pair c m n) s ⊎ Two k bs bs (pair c m n) m n s
split_pair s k bs c m n (ds, p, itself, r, e) = inl (refl, e, r)
split_pair s k bs c m n (ds, p, of_left i, r, e) = inr (inl (ds, p, i, r, e))
split_pair s k bs c m n (ds, p, of_right i, r, e) = inr (inr (inl (ds, p, i, r, e)))

abbrev within_use : List Ty → Term Ty → List Ty
within_use bs m = right_of (claim_of m) ∷ left_of (claim_of m) ∷ bs

split_let : (s : Spot) (k : ℕ) (bs : List Ty) (c : Ty) (m n : Term Ty) → HoldsFrom k bs (let_pair c m n) s → Own k bs (let_pair c m n) s ⊎ Two k bs (within_use bs m) (let_pair c m n) m n s
split_let s k bs c m n (ds, p, itself, r, e) = inl (refl, e, r)
split_let s k bs c m n (ds, p, of_given i, r, e) = inr (inl (ds, p, i, r, e))
split_let s k bs c m n (ds, p, of_use i a b f h, r, e) =
    let d = claim_of m in
    let x : marks d ≡ i = marks_is d i (tensor a b) f refl in
    let y : first d ≡ a = first_is d i (tensor a b) f in
    let z : second d ≡ b = second_is d i (tensor a b) f in
    let q : bangs i b ∷ bangs i a ∷ bs ≡ within_use bs m = cc in
    inr (inr (inl (ds, p, subst (λ cs. Inside s.cell ds p (k + 1 + size m) cs n) q h, r, e)))

-- A function, whose body stands below one binder more.
module _ (k : ℕ) (bs : List Ty) (c : Ty) (m : Term Ty) where
  abbrev Body : Spot → Type 0
  Body s = HoldsFrom (k + 1) (first c ∷ bs) m s ⊎ Leaving k bs (lam c m) s

  more_body : T (claims_fit bs (lam c m)) → (s : Spot) → Body s → HoldsFrom k bs (lam c m) s
  more_body fit s (inl (ds, p, i, r, e)) =
      (ds, p, of_body (marks c) (first c) (claim_of m) (under_marks_is c (arrow (first c) (claim_of m)) ((same_exact (core c) (arrow (first c) (claim_of m))).0 fit)) i, r, e)
  more_body fit s (inr l) = own_holds k bs (lam c m) s l.1

split_lam : (s : Spot) (k : ℕ) (bs : List Ty) (c : Ty) (m : Term Ty) → HoldsFrom k bs (lam c m) s → Own k bs (lam c m) s ⊎ Body k bs c m s
split_lam s k bs c m (ds, p, itself, r, e) = inl (refl, e, r)
split_lam s k bs c m (ds, p, of_body i a b f h, r, e) =
    inr (inl (ds, p, subst (λ t. Inside s.cell ds p (k + 1) (t ∷ bs) m) (sym (first_is c i (arrow a b) f)) h, r, e))

-- A condition and its two branches.
module _ (k : ℕ) (bs : List Ty) (c : Ty) (q m n : Term Ty) where
  abbrev Three : Spot → Type 0
  Three s = HoldsFrom (k + 1) bs q s ⊎ (HoldsFrom (k + 1 + size q) bs m s ⊎ (HoldsFrom (k + 1 + size q + size m) bs n s ⊎ Leaving k bs (if_then_else c q m n) s))

  more_if : (s : Spot) → Three s → HoldsFrom k bs (if_then_else c q m n) s
  more_if s (inl (ds, p, i, r, e)) = (ds, p, of_condition i, r, e)
  more_if s (inr (inl (ds, p, i, r, e))) = (ds, p, of_one i, r, e)
  more_if s (inr (inr (inl (ds, p, i, r, e)))) = (ds, p, of_zero i, r, e)
  more_if s (inr (inr (inr l))) = own_holds k bs (if_then_else c q m n) s l.1

split_if : (s : Spot) (k : ℕ) (bs : List Ty) (c : Ty) (q m n : Term Ty) → HoldsFrom k bs (if_then_else c q m n) s → Own k bs (if_then_else c q m n) s ⊎ Three k bs c q m n s
split_if s k bs c q m n (ds, p, itself, r, e) = inl (refl, e, r)
split_if s k bs c q m n (ds, p, of_condition i, r, e) = inr (inl (ds, p, i, r, e))
split_if s k bs c q m n (ds, p, of_one i, r, e) = inr (inr (inl (ds, p, i, r, e)))
split_if s k bs c q m n (ds, p, of_zero i, r, e) = inr (inr (inr (inl (ds, p, i, r, e))))

-- Below binders the verdict is the first row that holds, too.
pub first_row_from : (k : ℕ) (bs : List Ty) (m : Term Ty) → AnswersFrom k bs m (verdict_from k bs m)
first_row_from k bs (var c x) = leaf_node k bs (var c x) (λ y i. elim i [ ]) (λ r. elim r [ ]) (λ s. own_var s k bs c x)
first_row_from k bs (const c q) = leaf_node k bs (const c q) (λ y i. elim i [ ]) (λ r. elim r [ ]) (λ s. own_const s k bs c q)
first_row_from k bs (star c) = leaf_node k bs (star c) (λ y i. elim i [ ]) (λ r. elim r [ ]) (λ s. own_star s k bs c)
first_row_from k bs (lam c m) =
    node k bs (lam c m) (Body k bs c m) _
    (rest_part k (k + 1) (k + 1 + size m) (first c ∷ bs) m _ _ (omega arith) refl (first_row_from (k + 1) (first c ∷ bs) m)
    (rest_leaving k (k + 1 + size m) bs (lam c m) _ (omega arith) (leaving_function k bs c m)))
    (λ s. split_lam s k bs c m) (λ s l. inr l) (more_body k bs c m)
first_row_from k bs (app c m n) =
    two_parts k bs bs (app c m n) m n (λ x. uses m x && uses n x) refl
    (λ x. (λ h. let u = (T_and (uses m x) (uses n x)).0 h in function_and_argument (used_free x m u.0) (used_free x n u.1), elim [ function_and_argument f g ↦ (T_and _ _).1 (free_used f, free_used g) ]))
    (λ r. elim r [ ]) (first_row_from (k + 1) bs m) (first_row_from (k + 1 + size m) bs n) (λ s. split_app s k bs c m n)
    (λ _ s h. elim h [ inl i ↦ (i.0, i.1, of_function i.2, i.3, i.4) | inr i ↦ (i.0, i.1, of_argument i.2, i.3, i.4) ])
first_row_from k bs (pair c m n) =
    two_parts k bs bs (pair c m n) m n (λ x. uses m x && uses n x) refl
    (λ x. (λ h. let u = (T_and (uses m x) (uses n x)).0 h in left_and_right (used_free x m u.0) (used_free x n u.1), elim [ left_and_right f g ↦ (T_and _ _).1 (free_used f, free_used g) ]))
    (λ r. elim r [ ]) (first_row_from (k + 1) bs m) (first_row_from (k + 1 + size m) bs n) (λ s. split_pair s k bs c m n)
    (λ _ s h. elim h [ inl i ↦ (i.0, i.1, of_left i.2, i.3, i.4) | inr i ↦ (i.0, i.1, of_right i.2, i.3, i.4) ])
first_row_from k bs (if_then_else c q m n) =
    node k bs (if_then_else c q m n) (Three k bs c q m n) _
    (rest_part k (k + 1) (k + 1 + size q) bs q _ _ (omega arith) refl (first_row_from (k + 1) bs q)
    (rest_part k (k + 1 + size q) (k + 1 + size q + size m) bs m _ _ (omega arith) refl (first_row_from (k + 1 + size q) bs m)
    (rest_part k (k + 1 + size q + size m) (k + 1 + size q + size m + size n) bs n _ _ (omega arith) refl (first_row_from (k + 1 + size q + size m) bs n)
    (rest_leaving k (k + 1 + size q + size m + size n) bs (if_then_else c q m n) _ (omega arith) (leaving k bs (if_then_else c q m n) (λ x. uses q x && (uses m x || uses n x)) shared (λ r. elim r [ ]))))))
    (λ s. split_if s k bs c q m n) (λ s l. inr (inr (inr l))) (λ _. more_if k bs c q m n)
  where
    shared : (x : Var) → T (uses q x && (uses m x || uses n x)) ↔ InTwo x (if_then_else c q m n)
    shared x = (
      λ h. let u = (T_and (uses q x) (uses m x || uses n x)).0 h in
          condition_and_branch (used_free x q u.0) (elim ((TOr (uses m x) (uses n x)).0 u.1) [ inl v ↦ inl (used_free x m v) | inr v ↦ inr (used_free x n v) ]),
      elim [ condition_and_branch f g ↦ (T_and _ _).1 (free_used f, (TOr _ _).1 (elim g [ inl v ↦ inl (free_used v) | inr v ↦ inr (free_used v) ])) ],
    )
first_row_from k bs (let_pair c m n) =
    two_parts k bs (within_use bs m) (let_pair c m n) m n (λ x. uses m x && uses n (under (under x))) refl
    (λ x. (λ h. let u = (T_and (uses m x) (uses n (under (under x)))).0 h in given_and_use (used_free x m u.0) (used_free (under (under x)) n u.1), elim [ given_and_use f g ↦ (T_and _ _).1 (free_used f, free_used g) ]))
    (λ r. elim r [ ]) (first_row_from (k + 1) bs m) (first_row_from (k + 1 + size m) (within_use bs m) n) (λ s. split_let s k bs c m n)
    (λ fit s h. elim h [
      | inl i ↦ (i.0, i.1, of_given i.2, i.3, i.4)
      | inr i ↦ (
          let d = claim_of m in
          let e = simp claims at fit in
          (i.0, i.1, of_use (marks d) (first d) (second d) (under_marks_is d (tensor (first d) (second d)) e.0) i.2, i.3, i.4)
          )
    ])

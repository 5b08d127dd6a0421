-- Steps of the calculus are made on cells.
use Rattle.std.proofs.Common.{◌≡◌, ℕ, ◌≤◌, subst, ◌+◌, true, false, List, [], ◌∷◌, ◌++◌, map, length, take, drop, sym, refl, ap, ap₂, ◌∙◌, arith}
use Rattle.std.proofs.lemmas.List.{append_assoc, append-nil, length-append, take_at, drop_at}
use Rattle.calculus.specs.Types.{Ty}
use Rattle.calculus.specs.Terms.{bit_of, held, var, const, app, pair, if_then_else, let_pair, size, Running, free_fun, free_arg, free_left, free_right, free_test, free_pair}
use Rattle.calculus.specs.Names.{WellTyped}
use Rattle.calculus.specs.Cells.{running_cells, cell_of}
use Rattle.calculus.specs.Reduction.{Effect, prepares, reads, Reduces, apply_function, open_pair, take_then, take_else, prepare_qubit, read_qubit, apply_gate, in_argument, in_function, in_left, in_right, in_condition, in_pair}
use Rattle.calculus.specs.Safety.{Alike, alike_silent, alike_prepares, alike_reads, alike_applies}
use Rattle.calculus.specs.declared.cells.TermCell.{TermCell}
use Rattle.calculus.proofs.Values.{free_present, none_present}
use Rattle.finder.specs.Finding.{answer}
use Rattle.finder.specs.Laws.{Means, Asks}
use Rattle.finder.specs.Steps.{step_rule, step_cell}
use Rattle.finder.proofs.Places.{counted}
use Rattle.finder.proofs.Reduction.{search_is_reduction}
use Rattle.finder.specs.declared.rules.Rule.{Rule}
use Rattle.finder.specs.declared.rules.Rule.TheVariants.{Function, Pair, Then, Else, Prepare, Read, Gates}
use Rattle.stepper.specs.declared.writing.Answer.{Answer}
use Rattle.stepper.specs.declared.writing.Answer.TheVariants.{Nothing, Handle, Outcome}
use Rattle.stepper.specs.Laws.{Closed, answer_of, Fits, fits_function, fits_pair, fits_then, fits_else, fits_prepare, fits_read, fits_gates, Answered, MakesStep, is_answered, StepLaws}
use Rattle.stepper.specs.Next.{trees, left, next_cells}
use Rattle.stepper.specs.Parts.{taken, after}
use Rattle.stepper.specs.Substitution.{substitute}
use Rattle.stepper.specs.Writing.{answer_cell}
use Rattle.stepper.proofs.Allowed.{each_next}
use Rattle.stepper.proofs.Claims.{unclaims}
use Rattle.stepper.proofs.Parts.{after_more}
use Rattle.stepper.proofs.Terms.{first_term, after_term, substituted_cells}

-- at a redex the next term is what is left of its trees, between the cells before and those after
at_redex : (b ds : List TermCell) (x y : TermCell) (at : ℕ) (rule : Rule) (answer : Answer) → at ≡ length b + 0
    → next_cells (b ++ (x ∷ y ∷ ds)) rule at answer ≡ b ++ (left rule answer ds ++ after (trees rule) ds)
at_redex b ds x y at rule answer e =
    let front : take at (b ++ (x ∷ y ∷ ds)) ≡ b = take_at b (x ∷ y ∷ ds) at (omega arith) in
    let whole : (b ++ (x ∷ y ∷ [])) ++ ds ≡ b ++ (x ∷ y ∷ ds) = append_assoc b (x ∷ y ∷ []) ds in
    let back : drop (at + 2) (b ++ (x ∷ y ∷ ds)) ≡ ds = ap (drop (at + 2)) (sym whole) ∙ drop_at (b ++ (x ∷ y ∷ [])) ds (at + 2) (omega (arith, length-append b (x ∷ y ∷ []))) in
    ap₂ (λ us vs. us ++ (left rule answer vs ++ after (trees rule) vs)) front back

-- after two terms, and after three
after_two : (m n : Running) (rest : List TermCell) → after 2 (running_cells m ++ (running_cells n ++ rest)) ≡ rest
after_two m n rest = after_more 1 1 (running_cells m ++ (running_cells n ++ rest)) ∙ ap (after 1) (after_term m (running_cells n ++ rest)) ∙ after_term n rest

after_three : (m n p : Running) (rest : List TermCell) → after 3 (running_cells m ++ (running_cells n ++ (running_cells p ++ rest))) ≡ rest
after_three m n p rest = after_more 2 1 (running_cells m ++ (running_cells n ++ (running_cells p ++ rest))) ∙ ap (after 1) (after_two m n (running_cells p ++ rest)) ∙ after_term p rest

second_term : (m n : Running) (rest : List TermCell) → taken 1 (after 1 (running_cells m ++ (running_cells n ++ rest))) ≡ running_cells n
second_term m n rest = ap (taken 1) (after_term m (running_cells n ++ rest)) ∙ first_term n rest

-- a step's cells in the midst of others
abbrev Made : {m n : Running} {e : Effect} → Reduces m e n → Type 0
Made {m} {n} {e} d = (b a : List TermCell) (at : ℕ) → at ≡ length b + step_cell d → Closed m → next_cells (b ++ (running_cells m ++ a)) (step_rule d) at (answer_of e) ≡ b ++ (running_cells n ++ a)

-- the part that is worked is the last of a node, or the first
in_last : {m n : Running} {e : Effect} (d : Reduces m e n) → Made d → (c : TermCell) (v : Running) (b a : List TermCell) (at : ℕ) → at ≡ length b + (1 + size v + step_cell d) → Closed m
    → next_cells (b ++ ((c ∷ (running_cells v ++ running_cells m)) ++ a)) (step_rule d) at (answer_of e) ≡ b ++ ((c ∷ (running_cells v ++ running_cells n)) ++ a)
in_last {m} {n} {e} d f c v b a at p h =
    ap (λ ds. next_cells ds (step_rule d) at (answer_of e)) (sym (parts (running_cells m)))
    ∙ f (b ++ (c ∷ running_cells v)) a at (omega (arith, length-append b (c ∷ running_cells v), counted v)) h
    ∙ parts (running_cells n)
  where
    parts : (ys : List TermCell) → (b ++ (c ∷ running_cells v)) ++ (ys ++ a) ≡ b ++ ((c ∷ (running_cells v ++ ys)) ++ a)
    parts ys = append_assoc b (c ∷ running_cells v) (ys ++ a) ∙ ap (λ ds. b ++ (c ∷ ds)) (sym (append_assoc (running_cells v) ys a))

in_first : {m n : Running} {e : Effect} (d : Reduces m e n) → Made d → (c : TermCell) (ys b a : List TermCell) (at : ℕ) → at ≡ length b + (1 + step_cell d) → Closed m
    → next_cells (b ++ ((c ∷ (running_cells m ++ ys)) ++ a)) (step_rule d) at (answer_of e) ≡ b ++ ((c ∷ (running_cells n ++ ys)) ++ a)
in_first {m} {n} {e} d f c ys b a at p h =
    ap (λ ds. next_cells ds (step_rule d) at (answer_of e)) (sym (parts (running_cells m)))
    ∙ f (b ++ (c ∷ [])) (ys ++ a) at (omega (arith, length-append b (c ∷ []))) h
    ∙ parts (running_cells n)
  where
    parts : (xs : List TermCell) → (b ++ (c ∷ [])) ++ (xs ++ (ys ++ a)) ≡ b ++ ((c ∷ (xs ++ ys)) ++ a)
    parts xs = append_assoc b (c ∷ []) (xs ++ (ys ++ a)) ∙ ap (λ ds. b ++ (c ∷ ds)) (sym (append_assoc xs ys a))

made : {m n : Running} {e : Effect} (d : Reduces m e n) → Made d
made (apply_function {m = m} {v = v} w) b a at e h =
    let body = running_cells m in
    let argument = running_cells v in
    let ds = body ++ (argument ++ a) in
    let value = second_term m v a in
    ap (λ es. next_cells (b ++ (cell_of 97 0 0 ∷ cell_of 108 0 0 ∷ es)) Function at Nothing) (append_assoc body argument a)
    ∙ at_redex b ds (cell_of 97 0 0) (cell_of 108 0 0) at Function Nothing e
    ∙ ap₂ (λ us vs. b ++ (us ++ vs)) (ap (λ us. substitute (us ∷ []) (0 ∷ []) ds) value ∙ substituted_cells (v ∷ []) ((λ i f. h i (free_arg f)), tt) m (argument ++ a)) (after_two m v a)
made (open_pair {n = n} {v = v} {w = w} x y) b a at e h =
    let left_cells = running_cells v in
    let right_cells = running_cells w in
    let inside = running_cells n in
    let ds = left_cells ++ (right_cells ++ (inside ++ a)) in
    let body : after 2 ds ≡ inside ++ a = after_two v w (inside ++ a) in
    ap (λ es. next_cells (b ++ (cell_of 100 0 0 ∷ cell_of 112 0 0 ∷ es)) Pair at Nothing) (append_assoc (left_cells ++ right_cells) inside a ∙ append_assoc left_cells right_cells (inside ++ a))
    ∙ at_redex b ds (cell_of 100 0 0) (cell_of 112 0 0) at Pair Nothing e
    ∙ ap₂ (λ us vs. b ++ (us ++ vs))
    (ap₂ (λ us vs. substitute (us ∷ vs ∷ []) (0 ∷ []) (after 2 ds)) (second_term v w (inside ++ a)) (first_term v (right_cells ++ (inside ++ a)))
    ∙ ap (substitute (right_cells ∷ left_cells ∷ []) (0 ∷ [])) body
    ∙ substituted_cells (w ∷ v ∷ []) ((λ i f. h i (free_pair (free_right f))), ((λ i f. h i (free_pair (free_left f))), tt)) n a)
    (after_three v w n a)
made (take_then {m = m} {n = n}) b a at e h =
    let then_cells = running_cells m in
    let else_cells = running_cells n in
    ap (λ es. next_cells (b ++ (cell_of 105 0 0 ∷ cell_of 49 0 0 ∷ es)) Then at Nothing) (append_assoc then_cells else_cells a)
    ∙ at_redex b (then_cells ++ (else_cells ++ a)) (cell_of 105 0 0) (cell_of 49 0 0) at Then Nothing e
    ∙ ap₂ (λ us vs. b ++ (us ++ vs)) (first_term m (else_cells ++ a)) (after_two m n a)
made (take_else {m = m} {n = n}) b a at e h =
    let then_cells = running_cells m in
    let else_cells = running_cells n in
    ap (λ es. next_cells (b ++ (cell_of 105 0 0 ∷ cell_of 48 0 0 ∷ es)) Else at Nothing) (append_assoc then_cells else_cells a)
    ∙ at_redex b (then_cells ++ (else_cells ++ a)) (cell_of 105 0 0) (cell_of 48 0 0) at Else Nothing e
    ∙ ap₂ (λ us vs. b ++ (us ++ vs)) (second_term m n a) (after_two m n a)
made (prepare_qubit {e = t} {b = true} {h = i}) b a at e h = at_redex b (cell_of 49 0 0 ∷ a) (cell_of 97 0 0) (cell_of 110 0 0) at Prepare (Handle i) e
made (prepare_qubit {e = t} {b = false} {h = i}) b a at e h = at_redex b (cell_of 48 0 0 ∷ a) (cell_of 97 0 0) (cell_of 110 0 0) at Prepare (Handle i) e
made (read_qubit {h = i} {b = true}) b a at e h = at_redex b (cell_of 113 i 0 ∷ a) (cell_of 97 0 0) (cell_of 109 0 0) at Read (Outcome true) e
made (read_qubit {h = i} {b = false}) b a at e h = at_redex b (cell_of 113 i 0 ∷ a) (cell_of 97 0 0) (cell_of 109 0 0) at Read (Outcome false) e
made (apply_gate {u = u} {a = x} o) b a at e h =
    at_redex b (running_cells x ++ a) (cell_of 97 0 0) _ at Gates Nothing e
    ∙ ap₂ (λ us vs. b ++ (us ++ vs)) (first_term x a) (after_term x a)
made (in_argument {m = f} d) b a at e h = in_last d (made d) (cell_of 97 0 0) f b a at e (λ i g. h i (free_arg g))
made (in_function {v = v} w d) b a at e h = in_first d (made d) (cell_of 97 0 0) (running_cells v) b a at e (λ i g. h i (free_fun g))
made (in_left {n = v} d) b a at e h = in_first d (made d) (cell_of 112 0 0) (running_cells v) b a at e (λ i g. h i (free_left g))
made (in_right {v = v} w d) b a at e h = in_last d (made d) (cell_of 112 0 0) v b a at e (λ i g. h i (free_right g))
made (in_condition {m = m} {n = n} d) b a at e h = in_first d (made d) (cell_of 105 0 0) (running_cells m ++ running_cells n) b a at e (λ i g. h i (free_test g))
made (in_pair {n = v} d) b a at e h = in_first d (made d) (cell_of 100 0 0) (running_cells v) b a at e (λ i g. h i (free_pair g))

steps : {m n : Running} {e : Effect} (d : Reduces m e n) → Closed m → next_cells (running_cells m) (step_rule d) (step_cell d) (answer_of e) ≡ running_cells n
steps {m} {n} {e} d h =
    let zero : step_cell d ≡ 0 + step_cell d = omega arith in
    ap (λ ds. next_cells ds (step_rule d) (step_cell d) (answer_of e)) (sym (append-nil (running_cells m)))
    ∙ made d [] [] (step_cell d) zero h
    ∙ append-nil (running_cells n)

-- the same step, with the answer that it has
with_its_own : {m n : Running} {e : Effect} (d : Reduces m e n) (a : Answer) → Alike e e → answer_of e ≡ a → Answered d a
with_its_own {n = n} {e = e} d a s r = record { effect = e; next = n; step = d; same_rule = refl; same_cell = refl; alike = s; answers = r }

answered : {m n : Running} {e : Effect} (d : Reduces m e n) (a : Answer) → Fits (step_rule d) a → Answered d a
answered (apply_function v) _ fits_function = with_its_own (apply_function v) Nothing alike_silent refl
answered (open_pair v w) _ fits_pair = with_its_own (open_pair v w) Nothing alike_silent refl
answered take_then _ fits_then = with_its_own take_then Nothing alike_silent refl
answered take_else _ fits_else = with_its_own take_else Nothing alike_silent refl
answered (prepare_qubit {c = c} {d = x} {e = y} {b = b}) _ (fits_prepare {h = k} l) = record { effect = prepares b k; next = var c (held k); step = prepare_qubit; same_rule = refl; same_cell = refl; alike = alike_prepares; answers = refl }
answered (read_qubit {c = c} {h = h}) _ (fits_read {b = r}) = record { effect = reads h r; next = const c (bit_of r); step = read_qubit; same_rule = refl; same_cell = refl; alike = alike_reads; answers = refl }
answered (apply_gate o) _ fits_gates = with_its_own (apply_gate o) Nothing alike_applies refl
answered (in_argument {c = c} {m = m} d) a f =
    let w = answered d a f in
    record { effect = w.effect; next = app c m w.next; step = in_argument w.step; same_rule = w.same_rule; same_cell = ap (λ k. 1 + size m + k) w.same_cell; alike = w.alike; answers = w.answers }
answered (in_function {c = c} {v = v} x d) a f =
    let w = answered d a f in
    record { effect = w.effect; next = app c w.next v; step = in_function x w.step; same_rule = w.same_rule; same_cell = ap (λ k. 1 + k) w.same_cell; alike = w.alike; answers = w.answers }
answered (in_left {c = c} {n = n} d) a f =
    let w = answered d a f in
    record { effect = w.effect; next = pair c w.next n; step = in_left w.step; same_rule = w.same_rule; same_cell = ap (λ k. 1 + k) w.same_cell; alike = w.alike; answers = w.answers }
answered (in_right {c = c} {v = v} x d) a f =
    let w = answered d a f in
    record { effect = w.effect; next = pair c v w.next; step = in_right x w.step; same_rule = w.same_rule; same_cell = ap (λ k. 1 + size v + k) w.same_cell; alike = w.alike; answers = w.answers }
answered (in_condition {c = c} {m = m} {n = n} d) a f =
    let w = answered d a f in
    record { effect = w.effect; next = if_then_else c w.next m n; step = in_condition w.step; same_rule = w.same_rule; same_cell = ap (λ k. 1 + k) w.same_cell; alike = w.alike; answers = w.answers }
answered (in_pair {c = c} {n = n} d) a f =
    let w = answered d a f in
    record { effect = w.effect; next = let_pair c w.next n; step = in_pair w.step; same_rule = w.same_rule; same_cell = ap (λ k. 1 + k) w.same_cell; alike = w.alike; answers = w.answers }

pub same_left : (rule : Rule) (a b : Answer) (cs : List TermCell) → length (left rule a cs) ≡ length (left rule b cs)
same_left Function a b cs = refl
same_left Pair a b cs = refl
same_left Then a b cs = refl
same_left Else a b cs = refl
same_left Prepare a b cs = refl
same_left Read a b cs = refl
same_left Gates a b cs = refl

pub same_count : (cs : List TermCell) (rule : Rule) (at : ℕ) (a b : Answer) → length (next_cells cs rule at a) ≡ length (next_cells cs rule at b)
same_count cs rule at a b =
    let ds = drop (at + 2) cs in
    let zs = after (trees rule) ds in
    omega (
      arith,
      length-append (take at cs) (left rule a ds ++ zs),
      length-append (take at cs) (left rule b ds ++ zs),
      length-append (left rule a ds) zs,
      length-append (left rule b ds) zs,
      same_left rule a b ds,
    )

closed : (m : Running) (a : Ty) → WellTyped m a → Closed m
closed m a (γ, w, d) i f = none_present (w.no_binder i) (free_present d f)

means : (cs : List TermCell) {m n : Running} {e : Effect} (d : Reduces m e n) → Means cs m → Closed m → Fits (step_rule d) (answer_of e)
    → length (next_cells cs (step_rule d) (step_cell d) (answer_of e)) ≤ 1024 → Means (next_cells cs (step_rule d) (step_cell d) (answer_of e)) n
means cs {e = e} d h k f l = record {
  few = l;
  each_allowed = each_next cs (step_rule d) (step_cell d) (answer_of e) f h.each_allowed;
  written = unclaims cs (step_rule d) (step_cell d) (answer_of e) ∙ ap (λ ds. next_cells ds (step_rule d) (step_cell d) (answer_of e)) h.written ∙ steps d k;
}

pub makes_step : (cs : List TermCell) (rule : Rule) (at : ℕ) (a : Answer) → MakesStep cs rule at a
makes_step cs rule at a m h k f g =
    let (e, n, d, r, c) = (search_is_reduction.step cs m rule at h).0 f in
    let w = answered d a (subst (λ x. Fits x a) (sym r) g) in
    let rule_is : step_rule w.step ≡ rule = w.same_rule ∙ r in
    let cell_is : step_cell w.step ≡ at = w.same_cell ∙ c in
    let asked : Asks cs (step_rule w.step) (step_cell w.step) w.effect = search_is_reduction.asks cs m w.next w.effect h w.step in (
      w.effect,
      w.next,
      w.step,
      rule_is,
      cell_is,
      subst (λ x. Asks cs rule x w.effect) cell_is (subst (λ x. Asks cs x (step_cell w.step) w.effect) rule_is asked),
      w.answers,
      unclaims cs rule at a
          ∙ ap (λ ds. next_cells ds rule at a) h.written
          ∙ ap₂ (λ x y. next_cells (running_cells m) x y a) (sym rule_is) (sym cell_is)
          ∙ ap (next_cells (running_cells m) (step_rule w.step) (step_cell w.step)) (sym w.answers)
          ∙ steps w.step k,
    )

disregarded : (cs : List TermCell) (rule : Rule) (at : ℕ) (a b : Answer) → is_answered rule ≡ false → next_cells cs rule at a ≡ next_cells cs rule at b
disregarded cs Function at a b e = refl
disregarded cs Pair at a b e = refl
disregarded cs Then at a b e = refl
disregarded cs Else at a b e = refl
disregarded cs Prepare at a b e = absurd (cc)
disregarded cs Read at a b e = absurd (cc)
disregarded cs Gates at a b e = refl

stands : (cs : List TermCell) (rule : Rule) (at : ℕ) (a : Answer) → is_answered rule ≡ true → next_cells cs rule at a ≡ take at cs ++ (answer_cell a ∷ after 1 (drop (at + 2) cs))
stands cs Function at a e = absurd (cc)
stands cs Pair at a e = absurd (cc)
stands cs Then at a e = absurd (cc)
stands cs Else at a e = absurd (cc)
stands cs Prepare at a e = refl
stands cs Read at a e = refl
stands cs Gates at a e = absurd (cc)

pub step_laws : StepLaws
step_laws = record {
  steps = steps;
  means = means;
  answered = answered;
  found = makes_step;
  disregarded = disregarded;
  stands = stands;
  unclaims = unclaims;
  same_count = same_count;
  substitutes = λ vs m h. ap (substitute (map running_cells vs) (0 ∷ [])) (sym (append-nil (running_cells m))) ∙ substituted_cells vs h m [];
  closed = closed;
}

-- What a call that has the first cells of a table makes of a stage.
use Rattle.std.proofs.Common.{◌≡◌, ℕ, ◌+◌, ◌≤◌, true, min, List, [], ◌++◌, length, take, drop, Ok, Err, Result, OnErr, MatchResult, refl, sym, ap, ap₂, ◌∙◌, subst, append_assoc, arith}
use Rattle.std.specs.Result.{IsErrAnd, is_ok}
use Rattle.std.proofs.lemmas.List.{length-append, length-drop, length-take-le, take_min, take_at, drop_at, drop_all, drop-append-le, take-append-drop}
use Rattle.std.proofs.lemmas.Result.{err_from_is_err_and}
use Rattle.calculus.specs.declared.cells.TermCell.{TermCell}
use Rattle.calculus.specs.declared.cells.TypeCell.{TypeCell}
use Rattle.verdict.specs.Faults.{Verdict, accepted}
use Rattle.registers.specs.declared.register.Register.{Ghosts}
use Rattle.registers.specs.Telling.{told}
use Rattle.controller.specs.declared.faults.ControllerFault.{ControllerFault}
use Rattle.controller.specs.declared.faults.Refusal.{Refusal}
use Rattle.controller.specs.declared.faults.Stop.{Stop}
use Rattle.controller.specs.declared.control.Controller.{Controller}
use Rattle.controller.specs.declared.shot.Shot.{Shot}
use Rattle.controller.specs.Loading.{load_answer}
use Rattle.controller.specs.Running.{desk, RunAnswer}
use Rattle.controller.specs.Shots.{Held, held, nothing_held}
use Rattle.controller.specs.Stepping.{Made, count_made, placed, step_made, StepLeaves}
use Rattle.controller.specs.Tables.{begun_with}
use Rattle.controller.specs.Unloading.{Ends, abandon_answer, collect_answer}
use Rattle.player.specs.declared.turns.Done.{Done}
use Rattle.player.specs.declared.turns.Done.TheVariants.{Loaded, Stepped}
use Rattle.player.specs.declared.turns.TurnFault.TheVariants.{Refused}
use Rattle.player.specs.declared.turns.Turn.{Turn}
use Rattle.player.specs.Stages.{Stage, Reply, stage, desk_of, replied, as_run, as_collected, as_abandoned, after_load, load_made, TurnMakes, StepLeads, StepMakes, RunMakes, CollectLeads, CollectMakes, AbandonLeads, AbandonMakes}

-- as many as a room has, of a table that may have fewer
drop_min : {X : Type 0} (n : ℕ) (xs : List X) → drop (min n (length xs)) xs ≡ drop n xs
drop_min n xs = grind (arith, drop_all)

-- the front of a table is as long as the room, or as the table
front_length : {X : Type 0} (room n : ℕ) (xs : List X) → n ≡ min room (length xs) → length (take n xs) ≡ n
front_length room n xs e = length-take-le n xs (omega arith)

pub same_room : {X : Type 0} (room n : ℕ) (xs : List X) → n ≡ min room (length xs) → length (take n xs) ≡ min room (length xs)
same_room room n xs e = front_length room n xs e ∙ e

-- a table whose front was begun with some cells was begun with them
begun_front : {X : Type 0} (xs v w : List X) (n : ℕ) → n ≤ length w → v ≡ begun_with xs (take n w) → length v ≡ n → v ++ drop n w ≡ begun_with xs w
begun_front {X = X} xs v w n l e s =
    let front : length (take n w) ≡ n = length-take-le n w l in
    let few : length xs ≤ length (take n w) = within xs (take n w) (ap length (sym e) ∙ s ∙ sym front) in
    ap (λ z. z ++ drop n w) e ∙ append_assoc xs (drop (length xs) (take n w)) (drop n w)
    ∙ ap (λ z. xs ++ z) (sym (drop-append-le (length xs) (take n w) (drop n w) few) ∙ ap (drop (length xs)) (take-append-drop n w))
  where
    within : (xs ys : List X) → length (begun_with xs ys) ≡ length ys → length xs ≤ length ys
    within xs ys e = let l = length-append xs (drop (length xs) ys) in let d = length-drop (length xs) ys in omega arith

-- a table keeps its length where its front does
same_length : {X : Type 0} (v w : List X) (n : ℕ) → n ≤ length w → length v ≡ n → length (v ++ drop n w) ≡ length w
same_length v w n l q = length-append v (drop n w) ∙ ap (λ k. length v + k) (length-drop n w) ∙ omega arith

-- a front that stays leaves its table
same_front : {X : Type 0} (v w : List X) (n : ℕ) → v ≡ take n w → v ++ drop n w ≡ w
same_front v w n e = ap (λ z. z ++ drop n w) e ∙ take-append-drop n w

-- the reply to a call that was refused
pub refused_reply : {A : Type 0} (f : A → Done) (x : Result A Refusal) (e : Refusal) (y : Reply) → x ≡ Err e → IsErrAnd y (λ t. t ≡ Refused e) → y ≡ replied f x
refused_reply f x e y q h = let p = err_from_is_err_and y h in p.1 ∙ ap Err p.2 ∙ ap (replied f) (sym q)

module _ {R : Type 0} (kind : Ghosts R) where
  front_step : (s s' : Shot) (r r' : R) (w v : List TermCell) (n : ℕ) (x : Result (Made kind.Content) ControllerFault) → n ≤ length w → length v ≡ n
      → StepLeaves kind x s s' r r' (take n w) v → StepLeads kind x (stage (held s) r w [] []) (stage (held s') r' (v ++ drop n w) [] [])
  front_step s s' r r' w v n (Ok t) l q p =
      (p.1, ap₂ (λ h z. stage h r' z [] []) p.0 (begun_front t.cells v w n l p.2 q))
  front_step s s' r r' w v n (Err f) l q p =
      ap₂ (λ h z. stage h r' z [] []) (ap held p.0) (same_front v w n p.2) ∙ ap (λ z. stage (held s) z w [] []) p.1

  pub step_made_here : (room n : ℕ) (s s' : Shot) (r r' : R) (w v : List TermCell) (x : Result ℕ Refusal) (y : Reply) → n ≡ min room (length w) → length v ≡ length (take n w)
      → x ≡ placed (held s).steps (count_made (step_made kind.changes (told kind r) (held s) (length (take n w))))
      → StepLeaves kind (step_made kind.changes (told kind r) (held s) (length (take n w))) s s' r r' (take n w) v
      → y ≡ replied Stepped x → StepMakes kind room (stage (held s) r w [] []) (stage (held s') r' (v ++ drop n w) [] []) y
  step_made_here room n s s' r r' w v x y e q a p z =
      let few = front_length room n w e in
      let made = λ (k : ℕ). step_made kind.changes (told kind r) (held s) k in
      let same : length (take n w) ≡ min room (length w) = few ∙ e in (
        z ∙ ap (replied Stepped) (a ∙ ap (λ k. placed (held s).steps (count_made (made k))) same),
        front_step s s' r r' w v n (made (min room (length w))) (omega arith) (q ∙ few) (subst (λ k. StepLeaves kind (made k) s s' r r' (take n w) v) same p),
      )

  same_desk : (room n : ℕ) (h : Held) (r : R) (w v : List TermCell) → n ≡ min room (length w) → length v ≡ n → record { shot = h; register = r; work = v } ≡ desk_of room (stage h r (v ++ drop n w) [] [])
  same_desk room n h r w v e q = ap (λ z. record { shot = h; register = r; work = z }) (front room n w v e q)
    where
      front : (room n : ℕ) (w v : List TermCell) → n ≡ min room (length w) → length v ≡ n → v ≡ take room (v ++ drop n w)
      front room n w v e q =
          let long : length (v ++ drop n w) ≡ length w = same_length v w n (omega arith) q in
          sym (take_at v (drop n w) n q) ∙ ap (λ k. take k (v ++ drop n w)) (e ∙ ap (min room) (sym long)) ∙ take_min room (v ++ drop n w)

  pub run_made_here : (budget room n : ℕ) (s s' : Shot) (r r' : R) (w v : List TermCell) (x : Result (ℕ × Stop) Refusal) (y : Reply) → n ≡ min room (length w) → length v ≡ length (take n w)
      → RunAnswer kind budget (desk s r (take n w)) (desk s' r' v) x → OnErr x ((s' ≡ s) × (r' ≡ r) × (v ≡ take n w))
      → y ≡ replied as_run x → RunMakes kind budget room (stage (held s) r w [] []) (stage (held s') r' (v ++ drop n w) [] []) y
  run_made_here budget room n s s' r r' w v x y e q a o z =
      let few = front_length room n w e in
      let long : length (v ++ drop n w) ≡ length w = same_length v w n (omega arith) (q ∙ few) in
      let begin : desk s r (take n w) ≡ desk_of room (stage (held s) r w [] []) = ap (λ t. record { shot = held s; register = r; work = t }) (ap (λ k. take k w) e ∙ take_min room w) in
      record {
        answer = x;
        runs = subst (λ d. RunAnswer kind budget (desk_of room (stage (held s) r w [] [])) d x) (same_desk room n (held s') r' w v e (q ∙ few)) (subst (λ d. RunAnswer kind budget d (desk s' r' v) x) begin a);
        reply = z;
        rest = sym (drop_min room (v ++ drop n w)) ∙ ap (λ k. drop k (v ++ drop n w)) (ap (min room) long ∙ sym e) ∙ drop_at v (drop n w) n (q ∙ few) ∙ ap (λ k. drop k w) e ∙ drop_min room w;
        others = (refl, refl);
        refused = stays x o;
      }
    where
      stays : (x : Result (ℕ × Stop) Refusal) → OnErr x ((s' ≡ s) × (r' ≡ r) × (v ≡ take n w)) → OnErr x (stage (held s') r' (v ++ drop n w) [] [] ≡ stage (held s) r w [] [])
      stays (Ok n) o = tt
      stays (Err f) o = ap₂ (λ h z. stage h r' z [] []) (ap held o.0) (same_front v w n o.2) ∙ ap (λ z. stage (held s) z w [] []) o.1

  pub collect_made_here : (room n kind_room m : ℕ) (s s' : Shot) (r r' : R) (value v : List TermCell) (kinds k : List TypeCell) (x : Result (ℕ × ℕ) Refusal) (y : Reply)
      → n ≡ min room (length value) → m ≡ min kind_room (length kinds) → length v ≡ length (take n value) → length k ≡ length (take m kinds)
      → x ≡ collect_answer (held s) (length (take n value)) (length (take m kinds))
      → MatchResult x (λ _. Ends kind s' r r') (λ _. (s' ≡ s) × (r' ≡ r))
      → MatchResult x (λ _. (v ≡ begun_with (held s).cells (take n value)) × (k ≡ begun_with (held s).kinds (take m kinds))) (λ _. (v ≡ take n value) × (k ≡ take m kinds))
      → y ≡ replied as_collected x
      → CollectMakes kind room kind_room (stage (held s) r [] value kinds) (stage (held s') r' [] (v ++ drop n value) (k ++ drop m kinds)) y
  collect_made_here room n kind_room m s s' r r' value v kinds k x y e f q u a p t z =
      let few = front_length room n value e in
      let few_kinds = front_length kind_room m kinds f in
      let same : x ≡ collect_answer (held s) (min room (length value)) (min kind_room (length kinds)) = a ∙ ap₂ (collect_answer (held s)) (few ∙ e) (few_kinds ∙ f) in
      (z ∙ ap (replied as_collected) same, subst (λ x. CollectLeads kind x (stage (held s) r [] value kinds) (stage (held s') r' [] (v ++ drop n value) (k ++ drop m kinds))) same (leads x p t))
    where
      leads : (x : Result (ℕ × ℕ) Refusal) → MatchResult x (λ _. Ends kind s' r r') (λ _. (s' ≡ s) × (r' ≡ r))
          → MatchResult x (λ _. (v ≡ begun_with (held s).cells (take n value)) × (k ≡ begun_with (held s).kinds (take m kinds))) (λ _. (v ≡ take n value) × (k ≡ take m kinds))
          → CollectLeads kind x (stage (held s) r [] value kinds) (stage (held s') r' [] (v ++ drop n value) (k ++ drop m kinds))
      leads (Ok c) p t =
          let few = front_length room n value e in
          let few_kinds = front_length kind_room m kinds f in (
            p.1,
            ap (λ h. stage h r' [] (v ++ drop n value) (k ++ drop m kinds)) p.0
                ∙ ap₂ (λ a b. stage nothing_held r' [] a b) (begun_front (held s).cells v value n (omega arith) t.0 (q ∙ few)) (begun_front (held s).kinds k kinds m (omega arith) t.1 (u ∙ few_kinds)),
          )
      leads (Err c) p t =
          ap₂ (λ h z. stage h z [] (v ++ drop n value) (k ++ drop m kinds)) (ap held p.0) p.1
          ∙ ap₂ (λ a b. stage (held s) r [] a b) (same_front v value n t.0) (same_front k kinds m t.1)

  pub abandon_made_here : (s s' : Shot) (r r' : R) (x : Result (Unit {0}) Refusal) (y : Reply) → x ≡ abandon_answer (held s)
      → MatchResult x (λ _. Ends kind s' r r') (λ _. (s' ≡ s) × (r' ≡ r)) → y ≡ replied as_abandoned x
      → AbandonMakes kind (stage (held s) r [] [] []) (stage (held s') r' [] [] []) y
  abandon_made_here s s' r r' x y a p z =
      (z ∙ ap (replied as_abandoned) a, subst (λ x. AbandonLeads kind x (stage (held s) r [] [] []) (stage (held s') r' [] [] [])) a (leads x p))
    where
      leads : (x : Result (Unit {0}) Refusal) → MatchResult x (λ _. Ends kind s' r r') (λ _. (s' ≡ s) × (r' ≡ r)) → AbandonLeads kind x (stage (held s) r [] [] []) (stage (held s') r' [] [] [])
      leads (Ok u) p = (p.1, ap (λ h. stage h r' [] [] []) p.0)
      leads (Err f) p = ap₂ (λ h z. stage h z [] [] []) (ap held p.0) p.1

-- what stays of a controller whose call is refused
pub same_for_refused : {R X A : Type 0} {kind : Ghosts R} (c c' : Controller R kind) (v w : List X) (x : Result A Refusal) → OnErr x ((c' ≡ c) × (v ≡ w)) → OnErr x ((c'.shot ≡ c.shot) × (c'.register ≡ c.register) × (v ≡ w))
same_for_refused c c' v w (Ok n) o = tt
same_for_refused c c' v w (Err f) o = (ap (λ k. k.shot) o.0, ap (λ k. k.register) o.0, o.1)

pub same_if_refused : {R A : Type 0} {kind : Ghosts R} (c c' : Controller R kind) (P : A → Type 0) (x : Result A Refusal) → MatchResult x P (λ _. c' ≡ c) → MatchResult x P (λ _. (c'.shot ≡ c.shot) × (c'.register ≡ c.register))
same_if_refused c c' P (Ok n) o = o
same_if_refused c c' P (Err f) o = (ap (λ k. k.shot) o, ap (λ k. k.register) o)

-- a verdict that tells an accepted program
pub is_accepted : (v : Verdict) → is_ok v ≡ true → v ≡ accepted
is_accepted (Ok u) e = refl
is_accepted (Err f) e = cc

-- The same beside tables that the call has no part of.
module _ {R : Type 0} (kind : Ghosts R) where
  abbrev pub beside : List TermCell → List TermCell → List TypeCell → Stage R → Stage R
  beside work value kinds a = stage a.shot a.register work value kinds

  after_load_beside : (types : List TypeCell) (terms work value : List TermCell) (kinds : List TypeCell) (a : Stage R) (x : Result ℕ Refusal) → beside work value kinds (after_load types terms a x) ≡ after_load types terms (beside work value kinds a) x
  after_load_beside types terms work value kinds a (Ok n) = refl
  after_load_beside types terms work value kinds a (Err f) = refl

  pub load_beside : (types : List TypeCell) (terms work value : List TermCell) (kinds : List TypeCell) (a b : Stage R) (y : Reply) (v : Verdict)
      → (y, b) ≡ load_made kind types terms a v → (y, beside work value kinds b) ≡ load_made kind types terms (beside work value kinds a) v
  load_beside types terms work value kinds a b y (Ok u) e =
      let x = load_answer (kind.meaning a.register).makes a.shot terms in
      ap (λ (p : Reply × Stage R). (p.0, beside work value kinds p.1)) e ∙ ap (λ s. (replied Loaded x, s)) (after_load_beside types terms work value kinds a x)
  load_beside types terms work value kinds a b y (Err f) e = ap (λ (p : Reply × Stage R). (p.0, beside work value kinds p.1)) e

  step_leads : (value : List TermCell) (kinds : List TypeCell) (a b : Stage R) (x : Result (Made kind.Content) ControllerFault)
      → StepLeads kind x a b → StepLeads kind x (beside a.work value kinds a) (beside b.work value kinds b)
  step_leads value kinds a b (Ok t) p = (p.0, ap (λ (s : Stage R). beside s.work value kinds s) p.1)
  step_leads value kinds a b (Err f) p = ap (λ (s : Stage R). beside s.work value kinds s) p

  pub step_beside : (room : ℕ) (value : List TermCell) (kinds : List TypeCell) (a b : Stage R) (y : Reply) → StepMakes kind room a b y → StepMakes kind room (beside a.work value kinds a) (beside b.work value kinds b) y
  step_beside room value kinds a b y p = (p.0, step_leads value kinds a b (step_made kind.changes (told kind a.register) a.shot (min room (length a.work))) p.1)

  pub run_beside : (budget room : ℕ) (value : List TermCell) (kinds : List TypeCell) (a b : Stage R) (y : Reply) → RunMakes kind budget room a b y → RunMakes kind budget room (beside a.work value kinds a) (beside b.work value kinds b) y
  run_beside budget room value kinds a b y p = record {
    answer = p.answer;
    runs = p.runs;
    reply = p.reply;
    rest = p.rest;
    others = (refl, refl);
    refused = stays p.answer p.refused;
  }
    where
      stays : (x : Result (ℕ × Stop) Refusal) → OnErr x (b ≡ a) → OnErr x (beside b.work value kinds b ≡ beside a.work value kinds a)
      stays (Ok n) o = tt
      stays (Err f) o = ap (λ (s : Stage R). beside s.work value kinds s) o

  collect_leads : (work : List TermCell) (a b : Stage R) (x : Result (ℕ × ℕ) Refusal) → CollectLeads kind x a b → CollectLeads kind x (beside work a.value a.kinds a) (beside work b.value b.kinds b)
  collect_leads work a b (Ok n) p = (p.0, ap (λ (s : Stage R). beside work s.value s.kinds s) p.1)
  collect_leads work a b (Err f) p = ap (λ (s : Stage R). beside work s.value s.kinds s) p

  pub collect_beside : (room kind_room : ℕ) (work : List TermCell) (a b : Stage R) (y : Reply) → CollectMakes kind room kind_room a b y → CollectMakes kind room kind_room (beside work a.value a.kinds a) (beside work b.value b.kinds b) y
  collect_beside room kind_room work a b y p = (p.0, collect_leads work a b (collect_answer a.shot (min room (length a.value)) (min kind_room (length a.kinds))) p.1)

  abandon_leads : (work value : List TermCell) (kinds : List TypeCell) (a b : Stage R) (x : Result (Unit {0}) Refusal) → AbandonLeads kind x a b → AbandonLeads kind x (beside work value kinds a) (beside work value kinds b)
  abandon_leads work value kinds a b (Ok u) p = (p.0, ap (beside work value kinds) p.1)
  abandon_leads work value kinds a b (Err f) p = ap (beside work value kinds) p

  pub abandon_beside : (work value : List TermCell) (kinds : List TypeCell) (a b : Stage R) (y : Reply) → AbandonMakes kind a b y → AbandonMakes kind (beside work value kinds a) (beside work value kinds b) y
  abandon_beside work value kinds a b y p = (p.0, abandon_leads work value kinds a b (abandon_answer a.shot) p.1)

  -- the same turn, as it is matched
  pub turn_makes : (t u : Turn) (a b : Stage R) (y : Reply) → t ≡ u → TurnMakes kind u a b y → TurnMakes kind t a b y
  turn_makes t u a b y e p = subst (λ z. TurnMakes kind z a b y) (sym e) p

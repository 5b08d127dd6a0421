-- The step on cells is the step of a row: the term reduces, the register acts, and what is named no more is let go; or the sheet refuses it.
use Rattle.std.proofs.Common.{◌≡◌, ℕ, ◌<◌, ◌≤◌, Bool, true, false, cond, ◌↔◌, List, [], ◌∷◌, length, drop, get_or, nat_lt, nat_le, Some, Option, Ok, Err, Result, sym, refl, ap, ◌∙◌, subst, inl, inr, ⊎_elim, arith}
use Rattle.calculus.specs.declared.cells.TermCell.{TermCell}
use Rattle.calculus.specs.Types.{Ty}
use Rattle.calculus.specs.Terms.{Running, size}
use Rattle.calculus.specs.Cells.{cell_of, running_cells, unclaimed}
use Rattle.calculus.specs.Names.{Names, In, Rising}
use Rattle.calculus.specs.Reduction.{Value, Effect, silent, prepares, reads, applies, Reduces, apply_function, open_pair, take_then, take_else, prepare_qubit, read_qubit, apply_gate, in_argument, in_function, in_left, in_right, in_condition, in_pair}
use Rattle.calculus.specs.Safety.{Goes, Alike, alike_silent, alike_prepares, alike_reads, alike_applies}
use Rattle.calculus.proofs.Requests.{one_request}
use Rattle.calculus.proofs.Determinism.{rests}
use Rattle.std.proofs.lemmas.List.{length-map}
use Rattle.finder.proofs.Places.{counted as cells_counted}
use Rattle.registers.specs.declared.fault.RegisterReason.{RegisterReason}
use Rattle.registers.specs.declared.fault.RegisterReason.TheVariants.{NoPulses, Full, GateNotMade, WrongCount, NotLive, GivenTwice}
use Rattle.registers.specs.declared.fault.RegisterFault.{RegisterFault}
use Rattle.registers.specs.Meaning.{Meaning, Changes, Live, Fresh, counted, after_prepare, after_read, after_let_go}
use Rattle.registers.specs.Answers.{number_of, prepare_answer, gate_answer, read_answer}
use Rattle.registers.specs.Sheet.{Call, to_prepare, to_gate, to_read, to_let_go, Exact, reason_of}
use Rattle.registers.specs.Sheet.{Holds as SheetHolds}
use Rattle.registers.proofs.Sheet.{refusals_are_exact}
use Rattle.finder.specs.Finding.{answer}
use Rattle.finder.specs.Laws.{Means}
use Rattle.finder.specs.Steps.{step_rule, step_cell}
use Rattle.finder.specs.declared.rules.Rule.{Rule}
use Rattle.finder.proofs.Reduction.{search_is_reduction}
use Rattle.stepper.specs.Laws.{Closed, answer_of, Fits, fits_function, fits_pair, fits_then, fits_else, fits_prepare, fits_read, fits_gates, Answered}
use Rattle.stepper.specs.Naming.{dropped, names}
use Rattle.stepper.specs.Next.{next_cells}
use Rattle.stepper.specs.declared.writing.Answer.{Answer}
use Rattle.stepper.specs.declared.writing.Answer.TheVariants.{Nothing, Handle, Outcome}
use Rattle.stepper.proofs.Dropped.{names_laws}
use Rattle.stepper.proofs.Steps.{step_laws}
use Rattle.rows.specs.Members.{step}
use Rattle.rows.specs.Places.{Place}
use Rattle.rows.specs.Asking.{call_of, Calls, asks, drops, SpendsPulse, PreparesQubit, Overflows}
use Rattle.rows.specs.Refusing.{most_cells, Holds, nothing_to_step, short_to_step, step_of_value, no_rule, too_long, register_refuses, Refused, Answers}
use Rattle.rows.specs.Stepping.{Accepts, Acts, without, Steps}
use Rattle.rows.proofs.Lists.{lit_after_false, lit_within}
use Rattle.rows.proofs.Kept.{KeptTerm, acted, prepare_room}
use Rattle.rows.proofs.Sound.{same_term, some_none, only_want}
use Rattle.rows.proofs.Wants.{none_some}
use Rattle.rows.proofs.Names.{asked_named}
use Rattle.calculus.specs.declared.gates.Gate.{Gate}
use Rattle.rows.proofs.Steps.{value_or_goes}
use Rattle.rows.proofs.Going.{first}
use Rattle.controller.specs.declared.faults.ControllerFault.{ControllerFault}
use Rattle.controller.specs.declared.faults.ControllerFault.TheVariants.{NoRule, TooLong, Register}
use Rattle.registers.specs.Telling.{Told}
use Rattle.controller.specs.Faults.{fault_number}
use Rattle.controller.specs.Asking.{passed, asked, after_asked}
use Rattle.controller.specs.Letting.{released, released_all}
use Rattle.controller.specs.Stepping.{Made, made, made_or_fault, advanced, taken, stepped}
use Rattle.controller.specs.Keeping.{place}
use Rattle.controller.proofs.Asked.{Within, Reads, redex_reads, asked_by, after_by, rule_asks, rule_makes}

-- Handles that are live are let go of, one after the other.
module _ {C : Type 0} (changes : Changes C) where
  released_live : (h : ℕ) (r : Meaning C) → Live r h → released changes r h ≡ after_let_go changes r h
  released_live h r l = ap (λ b. cond b (after_let_go changes r h) r) l

  released_without : (hs : List ℕ) (r : Meaning C) → Rising hs → ((h : ℕ) → In h hs → Live r h) → released_all changes hs r ≡ without changes hs r
  released_without [] r q l = refl
  released_without (h ∷ hs) r q l =
      ap (released_all changes hs) (released_live h r (l h (inl refl)))
      ∙ released_without hs (after_let_go changes r h) q.1 (λ k i. (lit_after_false r.live h k).1 (l k (inr i), λ e. let b = q.0 k i in omega arith))

-- what the register may answer to a step's effect
abbrev Possible : Effect → Type 0
Possible silent = Unit {0}
Possible (prepares b h) = h < 32
Possible (reads h b) = Unit {0}
Possible (applies u hs) = Unit {0}

effect_fits : {p q : Running} {e : Effect} (d : Reduces p e q) → Possible e → Fits (step_rule d) (answer_of e)
effect_fits (apply_function v) x = fits_function
effect_fits (open_pair v w) x = fits_pair
effect_fits take_then x = fits_then
effect_fits take_else x = fits_else
effect_fits prepare_qubit x = fits_prepare x
effect_fits read_qubit x = fits_read
effect_fits (apply_gate o) x = fits_gates
effect_fits (in_argument d) x = effect_fits d x
effect_fits (in_function v d) x = effect_fits d x
effect_fits (in_left d) x = effect_fits d x
effect_fits (in_right v d) x = effect_fits d x
effect_fits (in_condition d) x = effect_fits d x
effect_fits (in_pair d) x = effect_fits d x

handle_fits : {p q : Running} {b : Bool} {k : ℕ} (d : Reduces p (prepares b k) q) (h : ℕ) → h < 32 → Fits (step_rule d) (Handle h)
handle_fits prepare_qubit h l = fits_prepare l
handle_fits (in_argument d) h l = handle_fits d h l
handle_fits (in_function v d) h l = handle_fits d h l
handle_fits (in_left d) h l = handle_fits d h l
handle_fits (in_right v d) h l = handle_fits d h l
handle_fits (in_condition d) h l = handle_fits d h l
handle_fits (in_pair d) h l = handle_fits d h l

outcome_fits : {p q : Running} {b : Bool} {k : ℕ} (d : Reduces p (reads k b) q) (o : Bool) → Fits (step_rule d) (Outcome o)
outcome_fits read_qubit o = fits_read
outcome_fits (in_argument d) o = outcome_fits d o
outcome_fits (in_function v d) o = outcome_fits d o
outcome_fits (in_left d) o = outcome_fits d o
outcome_fits (in_right v d) o = outcome_fits d o
outcome_fits (in_condition d) o = outcome_fits d o
outcome_fits (in_pair d) o = outcome_fits d o

same_calls : {e e' : Effect} → Alike e e' → call_of e ≡ call_of e'
same_calls alike_silent = refl
same_calls alike_prepares = refl
same_calls alike_reads = refl
same_calls alike_applies = refl

same_call : {c d : Call} → Some c ≡ Some d → c ≡ d
same_call e = cc

pub from_41 : (reason : RegisterReason) → 41 ≤ number_of reason
from_41 NoPulses = omega arith
from_41 Full = omega arith
from_41 GateNotMade = omega arith
from_41 WrongCount = omega arith
from_41 NotLive = omega arith
from_41 GivenTwice = omega arith

module _ {C : Type 0} (changes : Changes C) (t : Told C) (free : Fresh t.meaning t.fresh) {m : Running} {a : Ty} (kept : KeptTerm m a t.meaning)
    (cs : List TermCell) (means : Means cs m) (bare : unclaimed cs ≡ cs) where
  closed : Closed m
  closed = step_laws.closed m a kept.typed

  abbrev pub here : Place C
  here = place (Some (m, a)) t.meaning

  cells_are : cs ≡ running_cells m
  cells_are = sym bare ∙ means.written

  -- what a step that is made comes to
  pub record Done (x : Made C) : Type 0 where
    pub next : Running
    pub makes : Steps changes m t.meaning next x.register
    pub next_means : Means x.cells next
    pub next_bare : unclaimed x.cells ≡ x.cells
    pub not_refused : (w : ℕ) → 1024 ≤ w → Refused here (step w) → ⊥

  abbrev made_with : Rule → ℕ → Answer → Meaning C → Made C
  made_with rule at x mid = record { cells = next_cells cs rule at x; register = released_all changes (dropped (names cs) (names (next_cells cs rule at x))) mid }

  moved : {rule rule' : Rule} {at at' : ℕ} {x x' : Answer} (mid : Meaning C) → rule ≡ rule' → at ≡ at' → x ≡ x' → Done (made_with rule at x mid) → Done (made_with rule' at' x' mid)
  moved {rule = rule} {rule' = rule'} {at = at} {at' = at'} {x = x} mid p q r d =
      subst (λ z. Done (made_with rule' at' z mid)) r (subst (λ z. Done (made_with rule' z x mid)) q (subst (λ z. Done (made_with z at x mid)) p d))

  -- no pulse and no room is wanted for calls that are accepted
  no_pulse_wanted : {n : Running} {e : Effect} → Reduces m e n → ((call : Call) → call_of e ≡ Some call → Accepts t.meaning call) → SpendsPulse m → t.meaning.pulses ≡ 0 → ⊥
  no_pulse_wanted {n = n} {e = e} d ok (call, asks {e = e'} {n = n'} i q, s) z = ok call (same_calls ((one_request m n n' e e' d i).0) ∙ q) NoPulses (s, z)
  no_pulse_wanted d ok (call, drops i f g, s) z = s

  no_room_wanted : {n : Running} {e : Effect} → Reduces m e n → ((call : Call) → call_of e ≡ Some call → Accepts t.meaning call) → PreparesQubit m → t.meaning.capacity ≤ counted t.meaning.live → ⊥
  no_room_wanted {n = n} {e = e} d ok (call, asks {e = e'} {n = n'} i q, s) z = ok call (same_calls ((one_request m n n' e e' d i).0) ∙ q) Full (s, z)
  no_room_wanted d ok (call, drops i f g, s) z = s

  not_long : {n : Running} {e : Effect} → Reduces m e n → size n ≤ 1024 → Overflows most_cells m → ⊥
  not_long {n = n} {e = e} d l (e', n', d', o) = let s = (one_request m n n' e e' d d').1 in omega arith

  -- a step whose call is accepted is not refused
  accepted : {n : Running} {e : Effect} → Reduces m e n → size n ≤ 1024 → ((call : Call) → call_of e ≡ Some call → Accepts t.meaning call) → (w : ℕ) → 1024 ≤ w → Refused here (step w) → ⊥
  accepted d short ok w l x =
      ⊎_elim (not_long d short) (λ y. ⊎_elim (λ z. no_pulse_wanted d ok z.0 z.1) (λ z. no_room_wanted d ok z.0 z.1) y) ((only_want refl kept w l (λ v. rests v d)).0 x)

  finish : {n : Running} {e : Effect} (d : Reduces m e n) → Fits (step_rule d) (answer_of e) → length (next_cells cs (step_rule d) (step_cell d) Nothing) ≤ 1024
      → ((call : Call) → call_of e ≡ Some call → Accepts t.meaning call) → (mid : Meaning C) → Acts changes t.meaning e mid
      → Done (made_with (step_rule d) (step_cell d) (answer_of e) mid)
  finish {n = n} {e = e} d fits few ok mid acts = record {
    next = n;
    makes = record {
      effect = e;
      reduces = d;
      between = mid;
      acts = acts;
      dropped = gone;
      rising = rises;
      dropped_are = are;
      after = released_without changes gone mid rises live;
    };
    next_means = after;
    next_bare = step_laws.unclaims cs (step_rule d) (step_cell d) (answer_of e) ∙ ap (λ ds. next_cells ds (step_rule d) (step_cell d) (answer_of e)) bare;
    not_refused = accepted d size_fits ok;
  }
    where
      ncs : List TermCell
      ncs = next_cells cs (step_rule d) (step_cell d) (answer_of e)

      fits_few : length ncs ≤ 1024
      fits_few = subst (λ k. k ≤ 1024) (step_laws.same_count cs (step_rule d) (step_cell d) Nothing (answer_of e)) few

      after : Means ncs n
      after = step_laws.means cs d means closed fits fits_few

      size_fits : size n ≤ 1024
      size_fits = let q = ap length after.written in let r = cells_counted n in let u = length-map ncs (λ c. cell_of c.op c.argument 0) in let v = fits_few in omega arith

      gone : List ℕ
      gone = dropped (names cs) (names ncs)

      rises : Rising gone
      rises = names_laws.rising (names cs) (names ncs)

      are : (h : ℕ) → In h gone ↔ (Names m h × (Names n h → ⊥))
      are h = names_laws.dropped_exact cs ncs m n h means after

      live : (h : ℕ) → In h gone → Live mid h
      live h i = ((acted changes e kept.long acts).live_after h).1 (inl ((kept.same h).1 (((are h).0 i).0)))

  -- a step is made, or the sheet refuses it
  abbrev pub Comes : Result (Made C) ControllerFault → Type 0
  Comes (Ok x) = Done x
  Comes (Err f) = (w : ℕ) → 1024 ≤ w → Answers here (step w) (Some (fault_number f))

  same_running : {m' : Running} {a' : Ty} → here.loaded ≡ Some (m', a') → m' ≡ m
  same_running q = same_term refl q

  -- Of the rows below the n-th none holds for a step with a long enough table, where none does that can.
  none_below : {f w : ℕ} → Holds here f (step w) → 1024 ≤ w → (n : ℕ) → f < n → (35 < n → Value m → ⊥) → (36 < n → (e : Effect) × (k : Running) × Reduces m e k)
      → (37 < n → Overflows most_cells m → ⊥) → (41 < n → (call : Call) → Calls m call → (reason : RegisterReason) → number_of reason < n → SheetHolds t.meaning reason call → ⊥) → ⊥
  none_below (nothing_to_step q) l n b v g o c = some_none refl q
  none_below (short_to_step q) l n b v g o c = omega arith
  none_below (step_of_value q x) l n b v g o c = v b (subst Value (same_running q) x)
  none_below (no_rule q x r) l n b v g o c = let (e, k, d) = g b in r e k (subst (λ (y : Running). Reduces y e k) (sym (same_running q)) d)
  none_below (too_long q x) l n b v g o c = o b (subst (Overflows most_cells) (same_running q) x)
  none_below (register_refuses {call = call} reason q x h) l n b v g o c =
      c (let z = from_41 reason in omega arith) call (subst (λ (y : Running). Calls y call) (same_running q) x) reason b h

  -- a live handle that is let go of is refused by no row
  let_go_fine : (h : ℕ) → Live t.meaning h → (reason : RegisterReason) → SheetHolds t.meaning reason (to_let_go h) → ⊥
  let_go_fine h l NoPulses x = x.0
  let_go_fine h l Full x = x.0
  let_go_fine h l GateNotMade x = x
  let_go_fine h l WrongCount x = x
  let_go_fine h l NotLive x = x.2 (subst (λ i. Live t.meaning i) x.1 l)
  let_go_fine h l GivenTwice x = x

  -- the register refuses the step's call by the lowest row that holds for it, and the step is refused by that one
  refused_by : {n : Running} {e : Effect} (d : Reduces m e n) → size n ≤ 1024 → (call : Call) → call_of e ≡ Some call → (f : RegisterFault) → Exact t.meaning call (Some f.reason) → (w : ℕ) → 1024 ≤ w
      → Answers here (step w) (Some (fault_number (Register f)))
  refused_by {n = n} {e = e} d short call q f x w l = (
    register_refuses f.reason refl (asks d q) x.0,
    λ other h b. none_below h l (number_of f.reason) b (λ _ v. rests v d) (λ _. (e, n, d)) (λ _. not_long d short) (λ _. calls),
  )
    where
      calls : (c : Call) → Calls m c → (reason : RegisterReason) → number_of reason < number_of f.reason → SheetHolds t.meaning reason c → ⊥
      calls c (asks {e = e'} {n = n'} d' r) reason b h =
          let z : Some call ≡ Some c = sym q ∙ (same_calls (one_request m n n' e e' d d').0 ∙ r) in
          x.1 reason b (subst (SheetHolds t.meaning reason) (same_call (sym z)) h)
      calls c (drops {h = h} d' i j) reason b x = let_go_fine h ((kept.same h).1 i) reason x

  next_size : {n : Running} {e : Effect} (d : Reduces m e n) → length (next_cells cs (step_rule d) (step_cell d) Nothing) ≡ size n
  next_size {n = n} {e = e} d =
      step_laws.same_count cs (step_rule d) (step_cell d) Nothing (answer_of e)
      ∙ ap (λ ds. length (next_cells ds (step_rule d) (step_cell d) (answer_of e))) cells_are
      ∙ ap length (step_laws.steps d closed) ∙ cells_counted n

  counted_size : {n : Running} {e : Effect} (d : Reduces m e n) → length (next_cells cs (step_rule d) (step_cell d) Nothing) ≤ 1024 → size n ≤ 1024
  counted_size d few = let z = next_size d in omega arith

  only_call : (e : Effect) {call : Call} → call_of e ≡ Some call → Accepts t.meaning call → (c : Call) → call_of e ≡ Some c → Accepts t.meaning c
  only_call e {call = call} q ok c r = subst (Accepts t.meaning) (let z : ◌≡◌ {A = Option Call} (Some call) (Some c) = sym q ∙ r in let y : call ≡ c = cc in y) ok

  prepare_says : (x : Result ℕ RegisterFault) → prepare_answer t.meaning t.depth t.fresh ≡ x → (b : Bool) → Exact t.meaning (to_prepare b) (reason_of x)
  prepare_says x q b = subst (λ y. Exact t.meaning (to_prepare b) (reason_of y)) q (refusals_are_exact t.meaning t.depth t.fresh false (to_prepare b))

  prepare_gives : (h : ℕ) → prepare_answer t.meaning t.depth t.fresh ≡ Ok h → h ≡ t.fresh
  prepare_gives h q = grind arith

  by_prepare : {n : Running} {b : Bool} {k : ℕ} (d : Reduces m (prepares b k) n) → length (next_cells cs (step_rule d) (step_cell d) Nothing) ≤ 1024
      → after_asked t (drop (step_cell d) cs) changes (step_rule d) ≡ after_by t changes (prepares b k)
      → (x : Result ℕ RegisterFault) → prepare_answer t.meaning t.depth t.fresh ≡ x → Comes (made_or_fault changes t cs (step_rule d) (step_cell d) (passed Handle x))
  by_prepare {b = b} d few after (Err f) q = refused_by d (counted_size d few) (to_prepare b) refl f (prepare_says (Err f) q b)
  by_prepare {n = n} {b = b} {k = k} d few after (Ok h) q = go h (prepare_gives h q)
    where
      ok : Accepts t.meaning (to_prepare b)
      ok = prepare_says (Ok h) q b

      room : (0 < t.meaning.pulses) × (counted t.meaning.live < t.meaning.capacity)
      room = prepare_room t.meaning b ok

      fresh : (t.fresh < 32) × (get_or t.meaning.live t.fresh false ≡ false)
      fresh = free room.0 room.1

      same : Answered d (Handle t.fresh)
      same = step_laws.answered d (Handle t.fresh) (handle_fits d t.fresh fresh.0)

      with_fresh : {e : Effect} {n' : Running} → Alike (prepares b k) e → (d' : Reduces m e n') → answer_of e ≡ Handle t.fresh → step_rule d' ≡ step_rule d → step_cell d' ≡ step_cell d
          → Done (made_with (step_rule d) (step_cell d) (Handle t.fresh) (after_by t changes (prepares b k)))
      with_fresh (alike_prepares {k = j}) d' e r s =
          let j_is : j ≡ t.fresh = cc in
          moved (after_by t changes (prepares b k)) r s e
          (finish d' (handle_fits d' j (subst (λ i. i < 32) (sym j_is) fresh.0)) (subst (λ y. length (next_cells cs y (step_cell d') Nothing) ≤ 1024) (sym r) (subst (λ y. length (next_cells cs (step_rule d) y Nothing) ≤ 1024) (sym s) few))
          (only_call (prepares b j) refl ok) (after_by t changes (prepares b k)) (ok, (λ p c. subst (λ i. (i < 32) × (get_or t.meaning.live i false ≡ false)) (sym j_is) (free p c)), ap (λ i. after_prepare changes t.meaning i b) (sym j_is)))

      go : (h : ℕ) → h ≡ t.fresh → Comes (made_or_fault changes t cs (step_rule d) (step_cell d) (Ok (Handle h)))
      go h z = subst (λ i. Done (made changes t cs (step_rule d) (step_cell d) (Handle i))) (sym z)
          (subst (λ y. Done (made_with (step_rule d) (step_cell d) (Handle t.fresh) y)) (sym after) (with_fresh same.alike same.step same.answers same.same_rule same.same_cell))

  read_says : (h : ℕ) (x : Result Bool RegisterFault) → read_answer t.meaning t.depth h (t.outcome h) ≡ x → Exact t.meaning (to_read h) (reason_of x)
  read_says h x q = subst (λ y. Exact t.meaning (to_read h) (reason_of y)) q (refusals_are_exact t.meaning t.depth 0 (t.outcome h) (to_read h))

  read_gives : (h : ℕ) (o : Bool) → read_answer t.meaning t.depth h (t.outcome h) ≡ Ok o → o ≡ t.outcome h
  read_gives h o q = grind arith

  by_read : {n : Running} {h : ℕ} {o : Bool} (d : Reduces m (reads h o) n) → length (next_cells cs (step_rule d) (step_cell d) Nothing) ≤ 1024
      → after_asked t (drop (step_cell d) cs) changes (step_rule d) ≡ after_by t changes (reads h o)
      → (x : Result Bool RegisterFault) → read_answer t.meaning t.depth h (t.outcome h) ≡ x → Comes (made_or_fault changes t cs (step_rule d) (step_cell d) (passed Outcome x))
  by_read {h = h} d few after (Err f) q = refused_by d (counted_size d few) (to_read h) refl f (read_says h (Err f) q)
  by_read {n = n} {h = h} {o = o} d few after (Ok b) q = go b (read_gives h b q)
    where
      ok : Accepts t.meaning (to_read h)
      ok = read_says h (Ok b) q

      same : Answered d (Outcome (t.outcome h))
      same = step_laws.answered d (Outcome (t.outcome h)) (outcome_fits d (t.outcome h))

      with_outcome : {e : Effect} {n' : Running} → Alike (reads h o) e → (d' : Reduces m e n') → answer_of e ≡ Outcome (t.outcome h) → step_rule d' ≡ step_rule d → step_cell d' ≡ step_cell d
          → Done (made_with (step_rule d) (step_cell d) (Outcome (t.outcome h)) (after_by t changes (reads h o)))
      with_outcome (alike_reads {b = i}) d' e r s =
          let i_is : i ≡ t.outcome h = cc in
          moved (after_by t changes (reads h o)) r s e
          (finish d' (outcome_fits d' i) (subst (λ y. length (next_cells cs y (step_cell d') Nothing) ≤ 1024) (sym r) (subst (λ y. length (next_cells cs (step_rule d) y Nothing) ≤ 1024) (sym s) few))
          (only_call (reads h i) refl ok) (after_by t changes (reads h o)) (ok, ap (λ y. after_read changes t.meaning h y) (sym i_is)))

      go : (b : Bool) → b ≡ t.outcome h → Comes (made_or_fault changes t cs (step_rule d) (step_cell d) (Ok (Outcome b)))
      go b z = subst (λ i. Done (made changes t cs (step_rule d) (step_cell d) (Outcome i))) (sym z)
          (subst (λ y. Done (made_with (step_rule d) (step_cell d) (Outcome (t.outcome h)) y)) (sym after) (with_outcome same.alike same.step same.answers same.same_rule same.same_cell))

  gate_says : (u : Gate) (hs : List ℕ) (x : Result (Unit {0}) RegisterFault) → gate_answer t.meaning t.depth u hs ≡ x → Exact t.meaning (to_gate u hs) (reason_of x)
  gate_says u hs x q = subst (λ y. Exact t.meaning (to_gate u hs) (reason_of y)) q (refusals_are_exact t.meaning t.depth 0 false (to_gate u hs))

  by_gate : {n : Running} {u : Gate} {hs : List ℕ} (d : Reduces m (applies u hs) n) → length (next_cells cs (step_rule d) (step_cell d) Nothing) ≤ 1024
      → after_asked t (drop (step_cell d) cs) changes (step_rule d) ≡ after_by t changes (applies u hs)
      → (x : Result (Unit {0}) RegisterFault) → gate_answer t.meaning t.depth u hs ≡ x → Comes (made_or_fault changes t cs (step_rule d) (step_cell d) (passed (λ z. Nothing) x))
  by_gate {u = u} {hs = hs} d few after (Err f) q = refused_by d (counted_size d few) (to_gate u hs) refl f (gate_says u hs (Err f) q)
  by_gate {u = u} {hs = hs} d few after (Ok z) q =
      let ok = gate_says u hs (Ok z) q in
      subst (λ y. Done (made_with (step_rule d) (step_cell d) Nothing y)) (sym after)
      (finish d (effect_fits d tt) few (only_call (applies u hs) refl ok) (after_by t changes (applies u hs)) (ok, refl))

  by_effect : {n : Running} (e : Effect) (d : Reduces m e n) → length (next_cells cs (step_rule d) (step_cell d) Nothing) ≤ 1024
      → after_asked t (drop (step_cell d) cs) changes (step_rule d) ≡ after_by t changes e → Comes (made_or_fault changes t cs (step_rule d) (step_cell d) (asked_by t e))
  by_effect silent d few after =
      subst (λ y. Done (made_with (step_rule d) (step_cell d) Nothing y)) (sym after)
      (finish d (effect_fits d tt) few (λ call q. absurd (none_some q)) t.meaning refl)
  by_effect (prepares b k) d few after = by_prepare d few after (prepare_answer t.meaning t.depth t.fresh) refl
  by_effect (reads h o) d few after = by_read d few after (read_answer t.meaning t.depth h (t.outcome h)) refl
  by_effect (applies u hs) d few after = by_gate d few after (gate_answer t.meaning t.depth u hs) refl

  named_within : (h : ℕ) → Names m h → h < 32
  named_within h f = let z = lit_within t.meaning.live h ((kept.same h).1 f) in let l = kept.long in omega arith

  effect_within : {n : Running} (e : Effect) → Reduces m e n → Within e
  effect_within silent d = tt
  effect_within (prepares b k) d = tt
  effect_within (reads h o) d = named_within h (asked_named h d refl)
  effect_within (applies u hs) d = λ h i. named_within h (asked_named h d i)

  reads_at : {n : Running} {e : Effect} (d : Reduces m e n) → Reads (drop (step_cell d) cs) e
  reads_at {n = n} {e = e} d =
      let (p, q, r, due, rule, zero_cell) = search_is_reduction.redex m n e d in
      let (ds, s) = search_is_reduction.stands m p (step_cell d) due in
      subst (λ xs. Reads xs e) (sym (ap (drop (step_cell d)) cells_are ∙ s)) (redex_reads r zero_cell ds (effect_within e d))

  advance : {n : Running} {e : Effect} (d : Reduces m e n) → step_cell d < length cs → Comes (advanced changes t cs (step_rule d) (step_cell d))
  advance {n = n} {e = e} d l = subst Comes (sym first_test) (by (nat_lt 1024 (length (next_cells cs (step_rule d) (step_cell d) Nothing))) refl)
    where
      asks_this : asked t (drop (step_cell d) cs) (step_rule d) ≡ asked_by t e
      asks_this = rule_asks t d (drop (step_cell d) cs) (reads_at d)

      rest_of : Bool → Result (Made C) ControllerFault
      rest_of b = cond b (Err TooLong) (made_or_fault changes t cs (step_rule d) (step_cell d) (asked t (drop (step_cell d) cs) (step_rule d)))

      first_test : advanced changes t cs (step_rule d) (step_cell d) ≡ rest_of (nat_lt 1024 (length (next_cells cs (step_rule d) (step_cell d) Nothing)))
      first_test = ap (λ b. cond b (Err NoRule) (rest_of (nat_lt 1024 (length (next_cells cs (step_rule d) (step_cell d) Nothing))))) (let z : nat_le (length cs) (step_cell d) ≡ false = grind arith in z)

      by : (b : Bool) → nat_lt 1024 (length (next_cells cs (step_rule d) (step_cell d) Nothing)) ≡ b → Comes (rest_of b)
      by true q = λ w k. (too_long refl (e, n, d, (let z = next_size d in grind arith)), λ other h b. none_below h k 37 b (λ _ v. rests v d) (λ _. (e, n, d)) (λ y. absurd (omega arith)) (λ y. absurd (omega arith)))
      by false q =
          subst (λ x. Comes (made_or_fault changes t cs (step_rule d) (step_cell d) x)) (sym asks_this)
          (by_effect e d (let z : length (next_cells cs (step_rule d) (step_cell d) Nothing) ≤ 1024 = grind arith in z) (rule_makes t changes d (drop (step_cell d) cs) (reads_at d)))

  pub stepping : Comes (stepped changes t cs)
  stepping = ⊎_elim at_value goes (value_or_goes kept)
    where
      at_value : Value m → Comes (stepped changes t cs)
      at_value v = subst (λ x. Comes (taken changes t cs x)) (sym ((search_is_reduction.value cs m means).1 v)) (λ w k. (step_of_value refl v, λ other h b. none_below h k 35 b (λ y. absurd (omega arith)) (λ y. absurd (omega arith)) (λ y. absurd (omega arith)) (λ y. absurd (omega arith))))

      with_step : (e : Effect) (n : Running) (d : Reduces m e n) → Comes (stepped changes t cs)
      with_step e n d =
          let found : answer cs ≡ Ok (Some (step_rule d, step_cell d)) = (search_is_reduction.step cs m (step_rule d) (step_cell d) means).1 (e, n, d, refl, refl) in
          subst (λ x. Comes (taken changes t cs x)) (sym found) (advance d (search_is_reduction.within cs (step_rule d) (step_cell d) found))

      goes : Goes m → Comes (stepped changes t cs)
      goes g = with_step (first g).0 (first g).1 (first g).2

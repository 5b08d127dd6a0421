-- The answers of a register go through the rows of the sheet in the order of their numbers.
use Rattle.std.proofs.Common.{◌≡◌, ℕ, zero, suc, ◌<◌, ◌≤◌, Bool, true, false, not, eqb, leb, List, [], ◌∷◌, length, get_or, Result, sym, refl, ap, ◌∙◌, ⊎_elim, arith}
use Rattle.std.proofs.lemmas.Bool.{cond_both, eqb-true, eqb-false, eq-eqb, leb-true, leb-false, and_parts, and_cases, or_cases, or_right, not-true, not-false, both_ways, false≢true}
use Rattle.calculus.specs.Gates.{operands_of}
use Rattle.calculus.specs.declared.gates.Gate.{Gate}
use Rattle.registers.specs.declared.fault.RegisterReason.{RegisterReason}
use Rattle.registers.specs.declared.fault.RegisterReason.TheVariants.{NoPulses, Full, GateNotMade, WrongCount, NotLive, GivenTwice}
use Rattle.registers.specs.declared.fault.RegisterFault.{RegisterFault}
use Rattle.registers.specs.Meaning.{Meaning, Live, counted}
use Rattle.registers.specs.Answers.{number_of, prepare_answer, gate_answer, read_answer, let_go_answer, all_live, among, distinct}
use Rattle.registers.specs.Sheet.{to_prepare, to_gate, to_read, to_let_go, to_clear, Among, Twice, Holds, Exact, reason_of, RefusalsAreExact}

pub not_all_live : (live : List Bool) (on : List ℕ) → all_live live on ≡ false → (h : ℕ) × Among h on × (get_or live h false ≡ false)
not_all_live live [] e = absurd (false≢true (sym e))
not_all_live live (h ∷ hs) e =
    ⊎_elim
    (λ here. (h, (0, omega arith, refl), here))
    (λ rest. let r = not_all_live live hs rest in (r.0, (suc r.1.0, (let b = r.1.1 in omega arith), r.1.2), r.2))
    (and_cases (get_or live h false) (all_live live hs) e)

pub each_live : (live : List Bool) (on : List ℕ) (h i : ℕ) → all_live live on ≡ true → i < length on → get_or on i 0 ≡ h → get_or live h false ≡ true
each_live live [] h i e b f = absurd (omega arith)
each_live live (k ∷ ks) h zero e b f = ap (λ x. get_or live x false) (sym f) ∙ (and_parts (get_or live k false) (all_live live ks) e).0
each_live live (k ∷ ks) h (suc i) e b f = each_live live ks h i (and_parts (get_or live k false) (all_live live ks) e).1 (omega arith) f

pub is_among : (h : ℕ) (on : List ℕ) → among h on ≡ true → Among h on
is_among h [] e = absurd (false≢true e)
is_among h (k ∷ ks) e =
    ⊎_elim
    (λ here. (0, omega arith, sym (eqb-true h k here)))
    (λ rest. let r = is_among h ks rest in (suc r.0, (let b = r.1 in omega arith), r.2))
    (or_cases (eqb h k) (among h ks) e)

pub among_from : (h : ℕ) (on : List ℕ) (i : ℕ) → i < length on → get_or on i 0 ≡ h → among h on ≡ true
among_from h [] i b e = absurd (omega arith)
among_from h (k ∷ ks) zero b e = rw (eq-eqb h k (sym e)) refl
among_from h (k ∷ ks) (suc i) b e = or_right (eqb h k) (among h ks) (among_from h ks i (omega arith) e)

pub is_twice : (on : List ℕ) → distinct on ≡ false → Twice on
is_twice [] e = absurd (false≢true (sym e))
is_twice (h ∷ hs) e =
    ⊎_elim
    (λ here. let r = is_among h hs (not-false (among h hs) here) in (0, suc r.0, omega arith, (let b = r.1 in omega arith), sym r.2))
    (λ rest. let r = is_twice hs rest in (suc r.0, suc r.1, (let a = r.2 in omega arith), (let b = r.3 in omega arith), r.4))
    (and_cases (not (among h hs)) (distinct hs) e)

pub not_twice : (on : List ℕ) (i j : ℕ) → distinct on ≡ true → i < j → j < length on → get_or on i 0 ≡ get_or on j 0 → ⊥
not_twice [] i j e a b f = absurd (omega arith)
not_twice (h ∷ hs) zero zero e a b f = omega arith
not_twice (h ∷ hs) zero (suc j) e a b f =
    let p = and_parts (not (among h hs)) (distinct hs) e in
    both_ways (among h hs) (not-true (among h hs) p.0) (among_from h hs j (omega arith) (sym f))
not_twice (h ∷ hs) (suc i) zero e a b f = omega arith
not_twice (h ∷ hs) (suc i) (suc j) e a b f = not_twice hs i j (and_parts (not (among h hs)) (distinct hs) e).1 (omega arith) (omega arith) f

all_below : (reason : RegisterReason) → number_of reason < 47
all_below NoPulses = omega arith
all_below Full = omega arith
all_below GateNotMade = omega arith
all_below WrongCount = omega arith
all_below NotLive = omega arith
all_below GivenTwice = omega arith

-- For each call: no row of a number below n holds, if none does of those that can hold for the call.
module _ {C : Type 0} (m : Meaning C) (n : ℕ) (no_pulse : 41 < n → m.pulses ≡ 0 → ⊥) where
  prepare_none : (bit : Bool) → (42 < n → m.capacity ≤ counted m.live → ⊥) → (reason : RegisterReason) → number_of reason < n → Holds m reason (to_prepare bit) → ⊥
  prepare_none bit full NoPulses l h = no_pulse l h.1
  prepare_none bit full Full l h = full l h.1
  prepare_none bit full GateNotMade l h = h
  prepare_none bit full WrongCount l h = h
  prepare_none bit full NotLive l h = h.1
  prepare_none bit full GivenTwice l h = h

  read_none : (k : ℕ) → (45 < n → (Live m k → ⊥) → ⊥) → (reason : RegisterReason) → number_of reason < n → Holds m reason (to_read k) → ⊥
  read_none k dead NoPulses l h = no_pulse l h.1
  read_none k dead Full l h = h.0
  read_none k dead GateNotMade l h = h
  read_none k dead WrongCount l h = h
  read_none k dead NotLive l h = dead l (λ live. h.2 (ap (λ x. get_or m.live x false) (sym h.1) ∙ live))
  read_none k dead GivenTwice l h = h

gate_none : {C : Type 0} (m : Meaning C) (gate : Gate) (on : List ℕ) (n : ℕ) → (41 < n → m.pulses ≡ 0 → ⊥)
    → (43 < n → m.makes gate ≡ false → ⊥) → (44 < n → (length on ≡ operands_of gate → ⊥) → ⊥) → (45 < n → all_live m.live on ≡ true) → (46 < n → Twice on → ⊥)
    → (reason : RegisterReason) → number_of reason < n → Holds m reason (to_gate gate on) → ⊥
gate_none m gate on n pulse made count live apart NoPulses l h = pulse l h.1
gate_none m gate on n pulse made count live apart Full l h = h.0
gate_none m gate on n pulse made count live apart GateNotMade l h = made l h
gate_none m gate on n pulse made count live apart WrongCount l h = count l h
gate_none m gate on n pulse made count live apart NotLive l h = h.2 (each_live m.live on h.0 h.1.0 (live l) h.1.1 h.1.2)
gate_none m gate on n pulse made count live apart GivenTwice l h = apart l h

let_go_none : {C : Type 0} (m : Meaning C) (n k : ℕ) → (45 < n → (Live m k → ⊥) → ⊥) → (reason : RegisterReason) → number_of reason < n → Holds m reason (to_let_go k) → ⊥
let_go_none m n k dead NoPulses l h = h.0
let_go_none m n k dead Full l h = h.0
let_go_none m n k dead GateNotMade l h = h
let_go_none m n k dead WrongCount l h = h
let_go_none m n k dead NotLive l h = dead l (λ live. h.2 (ap (λ x. get_or m.live x false) (sym h.1) ∙ live))
let_go_none m n k dead GivenTwice l h = h

clear_none : {C : Type 0} (m : Meaning C) (reason : RegisterReason) → Holds m reason to_clear → ⊥
clear_none m NoPulses h = h.0
clear_none m Full h = h.0
clear_none m GateNotMade h = h
clear_none m WrongCount h = h
clear_none m NotLive h = h.1
clear_none m GivenTwice h = h

module _ {C : Type 0} (m : Meaning C) (depth : RegisterReason → ℕ) where
  exact_prepare : (fresh : ℕ) (bit : Bool) → Exact m (to_prepare bit) (reason_of (prepare_answer m depth fresh))
  exact_prepare fresh bit =
      cond_both (eqb m.pulses 0) _ _ (λ r. Exact m (to_prepare bit) (reason_of r))
      (λ e. ((tt, eqb-true m.pulses 0 e), prepare_none m 41 (λ l _. omega arith) bit (λ l _. omega arith)))
      (λ pulse. cond_both (leb m.capacity (counted m.live)) _ _ (λ r. Exact m (to_prepare bit) (reason_of r))
      (λ e. ((tt, leb-true _ _ e), prepare_none m 42 (λ _. eqb-false m.pulses 0 pulse) bit (λ l _. omega arith)))
      (λ room reason. prepare_none m 47 (λ _. eqb-false m.pulses 0 pulse) bit (λ _ h. let r = leb-false _ _ room in omega arith) reason (all_below reason)))

  exact_read : (k : ℕ) (outcome : Bool) → Exact m (to_read k) (reason_of (read_answer m depth k outcome))
  exact_read k outcome =
      cond_both (eqb m.pulses 0) _ _ (λ r. Exact m (to_read k) (reason_of r))
      (λ e. ((tt, eqb-true m.pulses 0 e), read_none m 41 (λ l _. omega arith) k (λ l _. omega arith)))
      (λ pulse. cond_both (get_or m.live k false) _ _ (λ r. Exact m (to_read k) (reason_of r))
      (λ live reason. read_none m 47 (λ _. eqb-false m.pulses 0 pulse) k (λ _ dead. dead live) reason (all_below reason))
      (λ dead. ((k, refl, both_ways _ dead), read_none m 45 (λ _. eqb-false m.pulses 0 pulse) k (λ l _. omega arith))))

  exact_let_go : (k : ℕ) → Exact m (to_let_go k) (reason_of (let_go_answer m depth k))
  exact_let_go k =
      cond_both (get_or m.live k false) _ _ (λ r. Exact m (to_let_go k) (reason_of r))
      (λ live reason. let_go_none m 47 k (λ _ dead. dead live) reason (all_below reason))
      (λ dead. ((k, refl, both_ways _ dead), let_go_none m 45 k (λ l _. omega arith)))

  exact_gate : (gate : Gate) (on : List ℕ) → Exact m (to_gate gate on) (reason_of (gate_answer m depth gate on))
  exact_gate gate on =
      let rows = gate_none m gate on in
      let P : Result (Unit {0}) RegisterFault → Type 0 = λ r. Exact m (to_gate gate on) (reason_of r) in
      cond_both (eqb m.pulses 0) _ _ P
      (λ e. ((tt, eqb-true m.pulses 0 e), rows 41 (λ l _. omega arith) (λ l _. omega arith) (λ l _. omega arith) (λ l. absurd (omega arith)) (λ l _. omega arith)))
      (λ e₁. let pulse : m.pulses ≡ 0 → ⊥ = eqb-false m.pulses 0 e₁ in
      cond_both (not (m.makes gate)) _ _ P
      (λ e. (not-true (m.makes gate) e, rows 43 (λ _. pulse) (λ l _. omega arith) (λ l _. omega arith) (λ l. absurd (omega arith)) (λ l _. omega arith)))
      (λ e₂. let made : m.makes gate ≡ false → ⊥ = λ no. both_ways _ no (not-false (m.makes gate) e₂) in
      cond_both (not (eqb (length on) (operands_of gate))) _ _ P
      (λ e. (eqb-false _ _ (not-true _ e), rows 44 (λ _. pulse) (λ _. made) (λ l _. omega arith) (λ l. absurd (omega arith)) (λ l _. omega arith)))
      (λ e₃. let fits : (length on ≡ operands_of gate → ⊥) → ⊥ = λ no. no (eqb-true _ _ (not-false _ e₃)) in
      cond_both (not (all_live m.live on)) _ _ P
      (λ e. let d = not_all_live m.live on (not-true _ e) in
      ((d.0, d.1, both_ways _ d.2), rows 45 (λ _. pulse) (λ _. made) (λ _. fits) (λ l. absurd (omega arith)) (λ l _. omega arith)))
      (λ e₄. let live : all_live m.live on ≡ true = not-false _ e₄ in
      cond_both (not (distinct on)) _ _ P
      (λ e. (is_twice on (not-true _ e), rows 46 (λ _. pulse) (λ _. made) (λ _. fits) (λ _. live) (λ l _. omega arith)))
      (λ e₅ reason. rows 47 (λ _. pulse) (λ _. made) (λ _. fits) (λ _. live) (λ _ t. not_twice on t.0 t.1 (not-false _ e₅) t.2 t.3 t.4) reason (all_below reason))))))

pub refusals_are_exact : {C : Type 0} → RefusalsAreExact C
refusals_are_exact m depth fresh outcome (to_prepare bit) = exact_prepare m depth fresh bit
refusals_are_exact m depth fresh outcome (to_gate gate on) = exact_gate m depth gate on
refusals_are_exact m depth fresh outcome (to_read h) = exact_read m depth h outcome
refusals_are_exact m depth fresh outcome (to_let_go h) = exact_let_go m depth h
refusals_are_exact m depth fresh outcome to_clear = clear_none m

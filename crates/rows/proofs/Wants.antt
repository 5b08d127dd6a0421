-- Why a register that has what a term names live refuses a call of the term's next step: for want of a pulse or of room.
use Rattle.std.proofs.Common.{◌≡◌, ℕ, zero, suc, ◌<◌, ◌≤◌, Bool, true, ◌⊎◌, List, [], ◌∷◌, length, get_or, Some, None, sym, refl, ◌∙◌, subst, inl, inr, arith}
use Rattle.calculus.specs.declared.gates.Gate.{Gate}
use Rattle.calculus.specs.Gates.{operands_of}
use Rattle.calculus.specs.Terms.{Running}
use Rattle.calculus.specs.Reduction.{Effect, silent, prepares, reads, applies, Reduces}
use Rattle.calculus.specs.Names.{Names, In, Distinct}
use Rattle.registers.specs.declared.fault.RegisterReason.{RegisterReason}
use Rattle.registers.specs.declared.fault.RegisterReason.TheVariants.{NoPulses, Full, GateNotMade, WrongCount, NotLive, GivenTwice}
use Rattle.registers.specs.Meaning.{Meaning, Live, counted}
use Rattle.registers.specs.Sheet.{Call, to_prepare, to_gate, to_read, to_let_go, Spends, Prepares, Holds}
use Rattle.rows.specs.Members.{NamesGate}
use Rattle.rows.specs.Asking.{call_of, Calls, asks, drops}
use Rattle.rows.proofs.Lists.{false_true}
use Rattle.rows.proofs.Names.{asked_named, asked_fits, called_named}

pub none_some : {A : Type 0} {x : A} → None ≡ Some x → ⊥
none_some e = let z : ◌≡◌ {A = ℕ} 0 1 = cc in omega arith

pub same_call : {c d : Call} → Some c ≡ Some d → c ≡ d
same_call e = cc

is_in : (h : ℕ) (on : List ℕ) (i : ℕ) → i < length on → get_or on i 0 ≡ h → In h on
is_in h [] i b e = absurd (omega arith)
is_in h (k ∷ ks) zero b e = inl (sym e)
is_in h (k ∷ ks) (suc i) b e = inr (is_in h ks i (omega arith) e)

in_twice : (on : List ℕ) (i j : ℕ) → Distinct on → i < j → j < length on → get_or on i 0 ≡ get_or on j 0 → ⊥
in_twice [] i j d a b e = omega arith
in_twice (k ∷ ks) zero zero d a b e = omega arith
in_twice (k ∷ ks) zero (suc j) d a b e = d.0 (is_in k ks j (omega arith) (sym e))
in_twice (k ∷ ks) (suc i) zero d a b e = omega arith
in_twice (k ∷ ks) (suc i) (suc j) d a b e = in_twice ks i j d.1 (omega arith) (omega arith) e

module _ {C : Type 0} (r : Meaning C) where
  -- a pulse or room is wanted for the call
  abbrev pub Want : Call → Type 0
  Want call = (Spends call × (r.pulses ≡ 0)) ⊎ (Prepares call × (r.capacity ≤ counted r.live))

  prepare_want : (b : Bool) (reason : RegisterReason) → Holds r reason (to_prepare b) → Want (to_prepare b)
  prepare_want b NoPulses h = inl h
  prepare_want b Full h = inr h
  prepare_want b GateNotMade h = absurd h
  prepare_want b WrongCount h = absurd h
  prepare_want b NotLive h = absurd h.1
  prepare_want b GivenTwice h = absurd h

  read_want : (k : ℕ) (reason : RegisterReason) → Live r k → Holds r reason (to_read k) → Want (to_read k)
  read_want k NoPulses live h = inl h
  read_want k Full live h = inr h
  read_want k GateNotMade live h = absurd h
  read_want k WrongCount live h = absurd h
  read_want k NotLive live h = absurd (h.2 (subst (Live r) h.1 live))
  read_want k GivenTwice live h = absurd h

  let_go_want : (k : ℕ) (reason : RegisterReason) → Live r k → Holds r reason (to_let_go k) → Want (to_let_go k)
  let_go_want k NoPulses live h = inl h
  let_go_want k Full live h = inr h
  let_go_want k GateNotMade live h = absurd h
  let_go_want k WrongCount live h = absurd h
  let_go_want k NotLive live h = absurd (h.2 (subst (Live r) h.1 live))
  let_go_want k GivenTwice live h = absurd h

  gate_want : (u : Gate) (hs : List ℕ) (reason : RegisterReason) → r.makes u ≡ true → length hs ≡ operands_of u → ((h : ℕ) → In h hs → Live r h) → Distinct hs
      → Holds r reason (to_gate u hs) → Want (to_gate u hs)
  gate_want u hs NoPulses made fits live apart h = inl h
  gate_want u hs Full made fits live apart h = inr h
  gate_want u hs GateNotMade made fits live apart h = absurd (false_true (sym h ∙ made))
  gate_want u hs WrongCount made fits live apart h = absurd (h fits)
  gate_want u hs NotLive made fits live apart h = absurd (h.2 (live h.0 (is_in h.0 hs h.1.0 h.1.1 h.1.2)))
  gate_want u hs GivenTwice made fits live apart h = absurd (in_twice hs h.0 h.1 apart h.2 h.3 h.4)

  -- What the register has of a term.
  pub record Serves (m : Running) : Type 0 where
    pub live : (h : ℕ) → Names m h → Live r h
    pub made : (u : Gate) → NamesGate u m → r.makes u ≡ true
    pub apart : {n : Running} {u : Gate} {hs : List ℕ} → Reduces m (applies u hs) n → Distinct hs

  module _ {m : Running} (s : Serves m) where
    asked_want : {n : Running} (e : Effect) (call : Call) (reason : RegisterReason) → Reduces m e n → call_of e ≡ Some call → Holds r reason call → Want call
    asked_want silent call reason i q h = absurd (none_some q)
    asked_want (prepares b k) call reason i q h = subst Want (same_call q) (prepare_want b reason (subst (Holds r reason) (sym (same_call q)) h))
    asked_want (reads k b) call reason i q h =
        subst Want (same_call q) (read_want k reason (s.live k (asked_named k i refl)) (subst (Holds r reason) (sym (same_call q)) h))
    asked_want (applies u hs) call reason i q h =
        subst Want (same_call q)
        (gate_want u hs reason (s.made u (called_named i refl)) (asked_fits i) (λ k j. s.live k (asked_named k i j)) (s.apart i) (subst (Holds r reason) (sym (same_call q)) h))

    pub wants : (call : Call) (reason : RegisterReason) → Calls m call → Holds r reason call → Want call
    wants call reason (asks {e = e} i q) h = asked_want e call reason i q h
    wants call reason (drops {h = k} i f g) h = let_go_want k reason (s.live k f) h

-- What is left of a register when a qubit was prepared, read or not, and let go.
use Rattle.std.proofs.Common.{◌≡◌, ℕ, ◌-◌, ◌<◌, Bool, true, false, get_or, set, Ok, Err, Result, sym, refl, ap, ◌∙◌, subst, inr, arith, MatchResult}
use Rattle.std.proofs.lemmas.List.{set-set, set-get_or, get_or-set_same}
use Rattle.std.proofs.lemmas.Bool.Decides.{nat_tests}
use Rattle.registers.specs.declared.fault.RegisterReason.{RegisterReason}
use Rattle.registers.specs.declared.fault.RegisterReason.TheVariants.{NoPulses}
use Rattle.registers.specs.declared.fault.RegisterFault.{RegisterFault}
use Rattle.registers.specs.declared.register.Register.{Ghosts}
use Rattle.registers.specs.Answers.{read_answer}
use Rattle.registers.specs.Deeds.{prepares, lets_go, Does}
use Rattle.registers.specs.Depth.{depths}
use Rattle.registers.specs.Meaning.{Meaning, Live, after_read, after_let_go}
use Rattle.registers.proofs.Accepted.{prepare_accepted, read_accepted}
use Rattle.clients.specs.Uses.{spent, WasRead, NotRead}

read_refused : {C : Type 0} (m : Meaning C) (depth : RegisterReason → ℕ) (h : ℕ) (outcome : Bool) (f : RegisterFault)
    → Live m h → Err f ≡ read_answer m depth h outcome → (f ≡ record { reason = NoPulses; depth = depth NoPulses }) × (m.pulses ≡ 0)
read_refused m depth h outcome f live e = (grind (arith, nat_tests), grind (arith, nat_tests))

-- a handle that was not live is live and then no more
back : {C : Type 0} (m : Meaning C) (h n k : ℕ) (content : C) → get_or m.live h false ≡ false → n ≡ m.pulses - k
    → record { capacity = m.capacity; makes = m.makes; live = set (set m.live h true) h false; pulses = n; content = content } ≡ spent m k content
back m h n k content dead e =
    let live = set-set m.live h true false ∙ ap (λ b. set m.live h b) (sym dead) ∙ set-get_or m.live h false in
    (λ i. record { capacity = m.capacity; makes = m.makes; live = live i; pulses = e i; content = content })

module _ {R : Type 0} (kind : Ghosts R) (r p q s : R) (bit : Bool) (prepared : Does kind r (prepares (kind.fresh r) bit) p) (gone : Does kind q (lets_go (kind.fresh r)) s) where
  abbrev m : Meaning kind.Content
  m = kind.meaning r

  abbrev h : ℕ
  h = kind.fresh r

  free : (h < 32) × (get_or m.live h false ≡ false)
  free = let a = prepare_accepted m (depths (kind.passed_up r)) h h prepared.0 in (kind.owed r).free a.1 a.2

  now_live : Live (kind.meaning p) h
  now_live = rw prepared.1 (get_or-set_same m.live h true false (let w = (kind.owed r).wide in let f = free.0 in omega arith))

  pub uses : (x : Result Bool RegisterFault) → x ≡ read_answer (kind.meaning p) (depths (kind.passed_up p)) h (kind.outcome p h)
      → MatchResult x (λ b. kind.meaning q ≡ after_read kind.changes (kind.meaning p) h b) (λ _. q ≡ p)
      → MatchResult x (WasRead kind r s bit) (NotRead kind r s bit)
  uses (Ok b) e state =
      let a = prepare_accepted m (depths (kind.passed_up r)) h h prepared.0 in
      let d = read_accepted (kind.meaning p) (depths (kind.passed_up p)) h (kind.outcome p h) b e in
      let n = ap (λ x. x.pulses) prepared.1 in
      record {
        pulses = let x = d.1 in let y = a.1 in omega arith;
        room = a.2;
        calls = (p, prepared, (q, (e, state), (s, gone, refl)));
        answered = d.0;
        after = gone.1 ∙ ap (λ x. after_let_go kind.changes x h) (state ∙ ap (λ x. after_read kind.changes x h b) prepared.1) ∙ back m h _ 2 _ free.1 (omega arith);
      }
  uses (Err f) e state =
      let a = prepare_accepted m (depths (kind.passed_up r)) h h prepared.0 in
      let d = read_refused (kind.meaning p) (depths (kind.passed_up p)) h (kind.outcome p h) f now_live e in
      let n = ap (λ x. x.pulses) prepared.1 in
      inr (record {
        pulses = let x = d.1 in let y = a.1 in omega arith;
        room = a.2;
        calls = (p, prepared, (s, subst (λ x. Does kind x (lets_go h) s) state gone, refl));
        refused = d.0;
        after = gone.1 ∙ ap (λ x. after_let_go kind.changes x h) (ap kind.meaning state ∙ prepared.1) ∙ back m h _ 1 _ free.1 refl;
      })

-- the same of the handle that the prepare answered
pub uses_handle : {R : Type 0} (kind : Ghosts R) (r p q s : R) (bit : Bool) (h : ℕ) → Does kind r (prepares h bit) p → Does kind q (lets_go h) s
    → (x : Result Bool RegisterFault) → x ≡ read_answer (kind.meaning p) (depths (kind.passed_up p)) h (kind.outcome p h)
    → MatchResult x (λ b. kind.meaning q ≡ after_read kind.changes (kind.meaning p) h b) (λ _. q ≡ p)
    → MatchResult x (WasRead kind r s bit) (NotRead kind r s bit)
uses_handle kind r p q s bit h prepared gone x e state =
    let fresh = (prepare_accepted (kind.meaning r) (depths (kind.passed_up r)) (kind.fresh r) h prepared.0).0 in
    subst
    (λ k. Does kind r (prepares k bit) p → Does kind q (lets_go k) s
    → x ≡ read_answer (kind.meaning p) (depths (kind.passed_up p)) k (kind.outcome p k)
    → MatchResult x (λ b. kind.meaning q ≡ after_read kind.changes (kind.meaning p) k b) (λ _. q ≡ p)
    → MatchResult x (WasRead kind r s bit) (NotRead kind r s bit))
    (sym fresh) (λ a b c d. uses kind r p q s bit a b x c d) prepared gone e state

-- A term that goes on asks for one thing, so whether it spends, prepares or overflows can be told.
use Rattle.std.proofs.Common.{◌≡◌, ℕ, ◌<◌, ◌⊎◌, ◌↔◌, true, Some, refl, subst, inl, inr, ⊎_elim}
use native.Mathlib.Decide.{dec_lt}
use Rattle.calculus.specs.Terms.{Running, size}
use Rattle.calculus.specs.Reduction.{Value, Effect, silent, prepares, reads, applies, Reduces}
use Rattle.calculus.specs.Safety.{Alike, alike_silent, alike_prepares, alike_reads, alike_applies, Goes, goes_silent, goes_prepare, goes_read, goes_gate}
use Rattle.calculus.proofs.Determinism.{rests}
use Rattle.calculus.proofs.Requests.{one}
use Rattle.registers.specs.Sheet.{Call, to_prepare, to_gate, to_read, Prepares}
use Rattle.rows.specs.Asking.{call_of, asks, drops, SpendsPulse, PreparesQubit, Overflows}
use Rattle.rows.specs.Refusing.{most_cells}
use Rattle.rows.proofs.Wants.{none_some}

pub first : {m : Running} → Goes m → (e : Effect) × (n : Running) × Reduces m e n
first (goes_silent r) = (_, _, r)
first (goes_prepare b r) = (_, _, (r 0).1)
first (goes_read h x r) = (_, _, (r true).1)
first (goes_gate u hs d x r) = (_, _, r)

pub no_value : {m : Running} → Goes m → Value m → ⊥
no_value g v = rests v (first g).2

pub overflows? : {m : Running} → Goes m → Dec (Overflows most_cells m)
overflows? {m} g = go (first g) (dec_lt most_cells (size (first g).1))
  where
    go : (f : (e : Effect) × (n : Running) × Reduces m e n) → Dec (most_cells < size f.1) → Dec (Overflows most_cells m)
    go f (yes l) = yes (f.0, f.1, f.2, l)
    go f (no x) = no (λ o. x (subst (λ (k : ℕ). most_cells < k) (one o.2 f.2).1 o.3))

abbrev IsPrepare : Effect → Type 0
IsPrepare silent = ⊥
IsPrepare (prepares b h) = Unit {0}
IsPrepare (reads h b) = ⊥
IsPrepare (applies u hs) = ⊥

silent_spends : {e : Effect} (call : Call) → Alike silent e → call_of e ≡ Some call → ⊥
silent_spends call alike_silent q = none_some q

not_prepares : {e e' : Effect} (call : Call) → Alike e e' → (IsPrepare e → ⊥) → call_of e' ≡ Some call → Prepares call → ⊥
not_prepares call alike_silent n q p = none_some q
not_prepares call alike_prepares n q p = n tt
not_prepares call (alike_reads {h = h}) n q p = subst Prepares (let e : call ≡ to_read h = cc in e) p
not_prepares call (alike_applies {u = u} {hs = hs}) n q p = subst Prepares (let e : call ≡ to_gate u hs = cc in e) p

pub silent_spends_none : {m n : Running} → Reduces m silent n → SpendsPulse m → ⊥
silent_spends_none r (call, asks i q, s) = silent_spends call (one r i).0 q
silent_spends_none r (call, drops i f g, s) = s

pub prepares_none : {m n : Running} {e : Effect} → Reduces m e n → (IsPrepare e → ⊥) → PreparesQubit m → ⊥
prepares_none r x (call, asks i q, s) = not_prepares call (one r i).0 x q s
prepares_none r x (call, drops i f g, s) = s

pub spends? : {m : Running} → Goes m → Dec (SpendsPulse m)
spends? (goes_silent r) = no (silent_spends_none r)
spends? (goes_prepare b r) = yes (to_prepare b, asks (r 0).1 refl, tt)
spends? (goes_read h x r) = yes (to_read h, asks (r true).1 refl, tt)
spends? (goes_gate u hs d x r) = yes (to_gate u hs, asks r refl, tt)

pub prepares? : {m : Running} → Goes m → Dec (PreparesQubit m)
prepares? (goes_silent r) = no (prepares_none r (λ x. x))
prepares? (goes_prepare b r) = yes (to_prepare b, asks (r 0).1 refl, tt)
prepares? (goes_read h x r) = no (prepares_none (r true).1 (λ x. x))
prepares? (goes_gate u hs d x r) = no (prepares_none r (λ x. x))

pub or? : {A B : Type 0} → Dec A → Dec B → Dec (A ⊎ B)
or? (yes a) q = yes (inl a)
or? (no n) (yes b) = yes (inr b)
or? (no n) (no m) = no (⊎_elim n m)

pub and? : {A B : Type 0} → Dec A → Dec B → Dec (A × B)
and? (no n) q = no (λ p. n p.0)
and? (yes a) (yes b) = yes (a, b)
and? (yes a) (no m) = no (λ p. m p.1)

pub as? : {A B : Type 0} → A ↔ B → Dec B → Dec A
as? e (yes b) = yes (e.1 b)
as? e (no n) = no (λ a. n (e.0 a))

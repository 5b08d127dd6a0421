-- The lemmas as the specs state them.
use Rattle.std.proofs.Common.{◌≡◌, ℕ, zero, suc, ◌≤◌, Bool, ◌⊎◌, Some, None, Option, refl, inl, inr, arith}
use Rattle.calculus.specs.Types.{Duplicable, Ty, qbit, bang, bangs, Sub, sub_use, sub_keep}
use Rattle.calculus.specs.Terms.{Const, bit_of, const, lam, pair, Running}
use Rattle.calculus.specs.Contexts.{Context, DuplicableAt}
use Rattle.calculus.specs.Lemmas.{SubtypingLaws, OnlyQubits, TypingLaws}
use Rattle.calculus.proofs.Subtyping.{Marking, a_bang, no_bang, marking, sub_refl, sub_trans, sub_drop, sub_bangs}
use Rattle.calculus.proofs.Narrowing.{AtLeast, no_less, at_sub, carry}
use Rattle.calculus.proofs.Values.{value_duplicable, QubitAt, no_qubit, a_qubit, Plain}
use Rattle.calculus.proofs.Canonical.{bits, functions, pairs, Form, form_bit, form_measure, form_prepare, form_gate, form_lam, form_pair, canonical, raise}
use Rattle.calculus.proofs.Substitution.{put_in}

marked_by : (n m : ℕ) {a b : Ty} → (m ≡ 0) ⊎ (1 ≤ n) → Sub a b → Sub (bangs n a) (bangs m b)
marked_by zero zero h p = p
marked_by zero (suc m) h p = absurd (omega arith)
marked_by (suc n) m h p = sub_bangs n m p

below : {a b : Ty} → Sub a (bang b) → (c : Ty) × (a ≡ bang c)
below (sub_use p) = (_, refl)
below (sub_keep p) = (_, refl)

pub subtyping_laws : SubtypingLaws
subtyping_laws = record { reflexive = sub_refl; transitive = λ a b c. sub_trans; marked = λ n m a b. marked_by n m; below_bang = λ a b. below }

at_least : {o u : Option Ty} → ((t : Ty) → u ≡ Some t → (s : Ty) × (o ≡ Some s) × Sub s t) → AtLeast o u
at_least {o} {u} f = go u refl
  where
    go : (w : Option Ty) → u ≡ w → AtLeast o w
    go None e = no_less
    go (Some t) e = let q = f t e in rw q.1 (at_sub q.2)

duplicable_type : (t : Ty) → Marking t → Duplicable t → (b : Ty) × (Some t ≡ Some (bang b))
duplicable_type t (a_bang {a = b}) d = (b, refl)
duplicable_type t (no_bang n) d = absurd (n d)

duplicable_some : (o : Option Ty) → DuplicableAt o → (b : Ty) × (o ≡ Some (bang b))
duplicable_some None d = elim d [ ]
duplicable_some (Some t) d = duplicable_type t (marking t) d

qubit : {o : Option Ty} → (o ≡ None) ⊎ (o ≡ Some qbit) → QubitAt o
qubit (inl e) = rw e no_qubit
qubit (inr e) = rw e a_qubit

plain : {γ : Context} → OnlyQubits γ → Plain γ
plain q = (q.no_binder, λ h. qubit (q.qubits h))

of_function : {v : Running} → Form v functions → ((m : Running) × (v ≡ lam tt m)) ⊎ ((k : Const) × (v ≡ const tt k) × ((o : Bool) → k ≡ bit_of o → ⊥))
of_function form_lam = inl (_, refl)
of_function form_measure = inr (_, refl, λ o e. grind arith)
of_function form_prepare = inr (_, refl, λ o e. grind arith)
of_function form_gate = inr (_, refl, λ o e. grind arith)

of_pair : {v : Running} → Form v pairs → (w : Running) × (u : Running) × (v ≡ pair tt w u)
of_pair form_pair = (_, _, refl)

of_bit : {v : Running} → Form v bits → (o : Bool) × (v ≡ const tt (bit_of o))
of_bit form_bit = (_, refl)

pub typing_laws : TypingLaws
typing_laws = record {
  narrowed = λ γ δ m a b r p n. carry r p (λ x f. at_least (λ t. n x t f));
  duplicable_value = λ γ v a x is r f. duplicable_some (γ x) (value_duplicable is r tt f);
  substitution = λ k γ γ₁ γ₂ m v a b s is r q. put_in k s is r q;
  marked_substitution = λ k n γ γ₁ γ₂ m v a b s is r q. put_in k s is r (raise q (sub_drop n (sub_refl a)));
  function_value = λ γ v a b q is r. of_function (canonical (plain q) is r);
  pair_value = λ γ v a b q is r. of_pair (canonical (plain q) is r);
  bit_value = λ γ v q is r. of_bit (canonical (plain q) is r);
}

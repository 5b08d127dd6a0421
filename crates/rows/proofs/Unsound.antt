-- The places that are not sound, each but for one claim.
use Rattle.std.proofs.Common.{◌≡◌, ℕ, zero, suc, true, false, Bool, List, [], ◌∷◌, Some, None, refl, sym, subst, inl, inr, ⊎_elim, arith}
use Rattle.std.specs.Prelude.{slice_index_or}
use Rattle.calculus.specs.declared.gates.Gate.TheVariants.{H}
use Rattle.calculus.specs.Types.{Ty, bit, qbit, bang, sub_qbit, sub_use, sub_bit, sub_arrow, Sub}
use Rattle.calculus.specs.Terms.{gate, bound, held, var, const, app, Running, free_var, free_arg, free_fun}
use Rattle.calculus.specs.Contexts.{Context, empty, to_right}
use Rattle.calculus.specs.Typing.{Derives, Unclaimed, rule_variable, rule_constant, rule_application}
use Rattle.calculus.specs.Reduction.{Value, value_var, value_const, applies, Reduces, on_h, apply_gate}
use Rattle.calculus.specs.Names.{Names, WellTyped, Distinct, Way, way_held, way_const, way_pair}
use Rattle.calculus.proofs.Determinism.{rests}
use Rattle.calculus.proofs.Requests.{one}
use Rattle.calculus.proofs.Values.{QubitAt, no_qubit, a_qubit}
use Rattle.calculus.proofs.Ways.{well_typed, no_way_names_twice}
use Rattle.registers.specs.declared.fault.RegisterReason.TheVariants.{GateNotMade}
use Rattle.registers.specs.Meaning.{none_live}
use Rattle.rows.specs.Asking.{asks}
use Rattle.rows.specs.Refusing.{register_refuses}
use Rattle.rows.specs.Sample.{register_with, one_live}
use Rattle.rows.specs.Sound.{LiveAreNamed, OnlyWantStops}
use Rattle.rows.specs.Unsound.{runs_at, zero_bit, qubit, UnsoundPlaces}
use Rattle.rows.proofs.Going.{prepares_none}
use Rattle.rows.proofs.Lists.{none_lit}
use Rattle.rows.proofs.Sound.{Wanted}

-- the context of the qubit 0
abbrev of_first : Context
of_first (bound i) = None
of_first (held zero) = Some qbit
of_first (held (suc h)) = None

qubits_of_first : (h : ℕ) → QubitAt (of_first (held h))
qubits_of_first zero = a_qubit
qubits_of_first (suc h) = no_qubit

bit_typed : WellTyped zero_bit bit
bit_typed = well_typed {γ = empty} (λ i. refl) (λ h. no_qubit) (rule_constant tt (sub_use sub_bit))

qubit_derived : Derives Unclaimed of_first qubit qbit
qubit_derived = rule_variable tt refl sub_qbit

qubit_typed : WellTyped qubit qbit
qubit_typed = well_typed {γ = of_first} (λ i. refl) qubits_of_first qubit_derived

abbrev flipped : Running
flipped = app tt (const tt (gate H)) qubit

flipped_typed : WellTyped flipped qbit
flipped_typed = well_typed {γ = of_first} (λ i. refl) qubits_of_first
    (rule_application {γ₁ = empty} {γ₂ = of_first} tt (λ x. to_right) (rule_constant tt (sub_use (sub_arrow sub_qbit sub_qbit))) qubit_derived)

-- A value is not asked to step.
rests_there : {m : Running} {a : Ty} {live : List Bool} → Value m → OnlyWantStops m (runs_at m a live)
rests_there v w l n = absurd (n v)

bit_names : (h : ℕ) → Names zero_bit h → ⊥
bit_names h f = elim f [ ]

qubit_names : {h k : ℕ} → Names (var tt (held k)) h → h ≡ k
qubit_names free_var = refl

flipped_names : {h : ℕ} → Names flipped h → h ≡ 0
flipped_names (free_fun f) = elim f [ ]
flipped_names (free_arg f) = qubit_names f

-- the one live handle is 0
one_lit : (h : ℕ) → slice_index_or one_live h false ≡ true → h ≡ 0
one_lit zero e = refl
one_lit (suc h) e = absurd (none_lit 31 h e)

-- 0 has no type of qubits
zero_no_qubit : WellTyped zero_bit qbit → ⊥
zero_no_qubit t = go t.2
  where
    below : Sub (bang bit) qbit → ⊥
    below (sub_use s) = elim s [ ]

    go : {γ : Context} → Derives Unclaimed γ zero_bit qbit → ⊥
    go (rule_constant c s) = below s

none_named : LiveAreNamed zero_bit (register_with none_live 1 none_live)
none_named = record {
  same = λ h. ((λ l. absurd (none_lit 32 h l)), λ f. absurd (bit_names h f));
  named = [];
  named_are = λ h. (absurd, λ f. bit_names h f);
  named_once = tt;
  counts = refl;
  no_way_twice = no_way;
}
  where
    no_way : (hs : List ℕ) → Way zero_bit hs → Distinct hs
    no_way hs way_const = tt

one_named : LiveAreNamed flipped (register_with one_live 1 one_live)
one_named = record {
  same = λ h. ((λ l. subst (Names flipped) (sym (one_lit h l)) (free_arg free_var)), λ f. subst (λ (k : ℕ). slice_index_or one_live k false ≡ true) (sym (flipped_names f)) refl);
  named = 0 ∷ [];
  named_are = λ h. (⊎_elim (λ e. subst (Names flipped) (sym e) (free_arg free_var)) absurd, λ f. inl (flipped_names f));
  named_once = (absurd, tt);
  counts = refl;
  no_way_twice = λ hs w. no_way_names_twice flipped qbit hs flipped_typed w;
}

flips : Reduces flipped (applies H (0 ∷ [])) qubit
flips = apply_gate on_h

stops_unwanted : OnlyWantStops flipped (runs_at flipped qbit one_live) → ⊥
stops_unwanted o = go ((o 1024 (omega arith) (λ v. rests v flips)).0 (43, register_refuses GateNotMade refl (asks flips refl) refl))
  where
    go : Wanted flipped (runs_at flipped qbit one_live) → ⊥
    go (inl o) = let c = (one flips o.2).1 in let l = o.3 in omega arith
    go (inr (inl y)) = let z = y.1 in omega arith
    go (inr (inr y)) = prepares_none flips (λ x. x) y.0

pub unsound_places : UnsoundPlaces
unsound_places = record {
  left_live = λ s. s.0 0 refl;
  live_unnamed = record { not_sound = λ s. bit_names 0 ((s.0.same 0).0 refl); typed = bit_typed; stops = rests_there value_const };
  named_dead = record { not_sound = λ s. none_lit 32 0 ((s.0.same 0).1 free_var); typed = qubit_typed; stops = rests_there value_var };
  another_type = record { not_sound = λ s. zero_no_qubit s.1; names = none_named; stops = rests_there value_const };
  gate_not_made = record { not_sound = λ s. stops_unwanted s.2; names = one_named; typed = flipped_typed };
  named_twice = λ n. (n.no_way_twice _ (way_pair way_held way_held)).0 (inl refl);
}

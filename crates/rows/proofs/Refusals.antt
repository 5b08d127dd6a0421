-- The rows at their places.
use Rattle.std.proofs.Common.{◌≡◌, ℕ, ◌<◌, ◌≤◌, length, Some, None, refl}
use Rattle.std.proofs.Common.{sym, ap, subst, inl, inr, arith}
use Rattle.calculus.specs.declared.gates.Gate.TheVariants.{H}
use Rattle.calculus.specs.Types.{Ty, qbit, arrow}
use Rattle.calculus.specs.Terms.{gate, Term, const, app, Running, size}
use Rattle.calculus.specs.Cells.{type_cells}
use Rattle.calculus.specs.Reduction.{Value, value_const, Effect, Reduces}
use Rattle.calculus.specs.Reduction.{in_argument, in_function}
use Rattle.registers.specs.declared.fault.RegisterReason.{RegisterReason}
use Rattle.registers.specs.declared.fault.RegisterReason.TheVariants.{NoPulses, Full, GateNotMade}
use Rattle.registers.specs.declared.fault.RegisterReason.TheVariants.{WrongCount, NotLive}
use Rattle.registers.specs.declared.fault.RegisterReason.TheVariants.{GivenTwice}
use Rattle.registers.specs.Answers.{number_of}
use Rattle.rows.specs.Members.{NamesGate, gate_here, Program, Member, load, step, run, collect}
use Rattle.rows.specs.Places.{Place}
use Rattle.rows.specs.Refusing.{Holds, nothing_to_step, nothing_to_run, nothing_to_collect}
use Rattle.rows.specs.Refusing.{nothing_to_abandon, already_loaded, gate_not_made, short_to_step}
use Rattle.rows.specs.Refusing.{short_to_run, step_of_value, no_rule, too_long, no_value_yet}
use Rattle.rows.specs.Refusing.{short_to_collect, register_refuses}
use Rattle.rows.specs.Doing.{refused, loads, steps, runs, collects, abandons}
use Rattle.rows.specs.Unsound.{zero_bit}
use Rattle.rows.specs.Refusals.{at_value, RefusedStays, SampleRefusals}
use Rattle.rows.proofs.Sound.{same_term, same_type, some_none}

pub refused_stays : (C : Type 0) → RefusedStays C
refused_stays C changes p q x (refused f) r = refl
refused_stays C changes p q x (loads n) r = absurd (n r)
refused_stays C changes p q x (steps n t) r = absurd (n r)
refused_stays C changes p q x (runs n l t s) r = absurd (n r)
refused_stays C changes p q x (collects n) r = absurd (n r)
refused_stays C changes p q x (abandons n) r = absurd (n r)

from_41 : (reason : RegisterReason) → 41 ≤ number_of reason
from_41 NoPulses = omega arith
from_41 Full = omega arith
from_41 GateNotMade = omega arith
from_41 WrongCount = omega arith
from_41 NotLive = omega arith
from_41 GivenTwice = omega arith

module _ {C : Type 0} {p : Place C} where
  from_31 : {f : ℕ} {x : Member} → Holds p f x → 31 ≤ f
  from_31 (nothing_to_step q) = omega arith
  from_31 (nothing_to_run q) = omega arith
  from_31 (nothing_to_collect q) = omega arith
  from_31 (nothing_to_abandon q) = omega arith
  from_31 (already_loaded q) = omega arith
  from_31 (gate_not_made u g q) = omega arith
  from_31 (short_to_step l) = omega arith
  from_31 (short_to_run l) = omega arith
  from_31 (step_of_value q v) = omega arith
  from_31 (no_rule q v r) = omega arith
  from_31 (too_long q o) = omega arith
  from_31 (no_value_yet q v) = omega arith
  from_31 (short_to_collect q l) = omega arith
  from_31 (register_refuses reason q c h) = let l = from_41 reason in omega arith

  none_below : {x : Member} (other : ℕ) → Holds p other x → other < 31 → ⊥
  none_below other h l = let m = from_31 h in omega arith

  load_32 : {x : Program} (other : ℕ) → Holds p other (load x) → other < 32 → ⊥
  load_32 other (already_loaded q) l = omega arith
  load_32 other (gate_not_made u g q) l = omega arith

  load_33 : {x : Program} → p.loaded ≡ None → (other : ℕ) → Holds p other (load x) → other < 33 → ⊥
  load_33 e other (already_loaded q) l = some_none q e
  load_33 e other (gate_not_made u g q) l = omega arith

  module _ {m : Running} {a : Ty} (e : p.loaded ≡ Some (m, a)) where
    step_34 : {w : ℕ} (other : ℕ) → Holds p other (step w) → other < 34 → ⊥
    step_34 other (nothing_to_step q) l = some_none e q
    step_34 other (short_to_step k) l = omega arith
    step_34 other (step_of_value q v) l = omega arith
    step_34 other (no_rule q v r) l = omega arith
    step_34 other (too_long q o) l = omega arith
    step_34 other (register_refuses reason q c h) l = let k = from_41 reason in omega arith

    step_35 : (other : ℕ) → Holds p other (step 1024) → other < 35 → ⊥
    step_35 other (nothing_to_step q) l = some_none e q
    step_35 other (short_to_step k) l = omega arith
    step_35 other (step_of_value q v) l = omega arith
    step_35 other (no_rule q v r) l = omega arith
    step_35 other (too_long q o) l = omega arith
    step_35 other (register_refuses reason q c h) l = let k = from_41 reason in omega arith

    step_36 : (Value m → ⊥) → (other : ℕ) → Holds p other (step 1024) → other < 36 → ⊥
    step_36 n other (nothing_to_step q) l = some_none e q
    step_36 n other (short_to_step k) l = omega arith
    step_36 n other (step_of_value q v) l = n (subst Value (same_term e q) v)
    step_36 n other (no_rule q v r) l = omega arith
    step_36 n other (too_long q o) l = omega arith
    step_36 n other (register_refuses reason q c h) l = let k = from_41 reason in omega arith

    run_34 : {b w : ℕ} (other : ℕ) → Holds p other (run b w) → other < 34 → ⊥
    run_34 other (nothing_to_run q) l = some_none e q
    run_34 other (short_to_run k) l = omega arith

    collect_38 : {t k : ℕ} (other : ℕ) → Holds p other (collect t k) → other < 38 → ⊥
    collect_38 other (nothing_to_collect q) l = some_none e q
    collect_38 other (no_value_yet q v) l = omega arith
    collect_38 other (short_to_collect q v) l = omega arith

    collect_39 : {t k : ℕ} → Value m → (other : ℕ) → Holds p other (collect t k) → other < 39 → ⊥
    collect_39 v other (nothing_to_collect q) l = some_none e q
    collect_39 v other (no_value_yet q n) l = n (subst Value (sym (same_term e q)) v)
    collect_39 v other (short_to_collect q x) l = omega arith

no_rest : (e : Effect) (n : Running) → Reduces (app tt zero_bit zero_bit) e n → ⊥
no_rest e n (in_argument r) = elim r [ ]
no_rest e n (in_function v r) = elim r [ ]

no_value : {m n : Running} → Value (app tt m n) → ⊥
no_value v = elim v [ ]

all_fits : (other : ℕ) → Holds at_value other (collect 1 1) → ⊥
all_fits other (nothing_to_collect q) = some_none refl q
all_fits other (no_value_yet q n) = n (subst Value (sym (same_term refl q)) value_const)
all_fits other (short_to_collect q (inl l)) = let c = ap size (same_term refl q) in omega arith
all_fits other (short_to_collect q (inr l)) = let c = ap (λ t. length (type_cells t)) (same_type refl q) in omega arith

names_h : {m : Term Ty} → m ≡ const (arrow qbit qbit) (gate H) → NamesGate H m
names_h e = subst (NamesGate H) (sym e) gate_here

pub sample_refusals : SampleRefusals
sample_refusals = record {
  nothing_to_step = (nothing_to_step refl, none_below);
  nothing_to_run = (nothing_to_run refl, none_below);
  nothing_to_collect = (nothing_to_collect refl, none_below);
  nothing_to_abandon = (nothing_to_abandon refl, none_below);
  already_loaded = λ x. (already_loaded refl, load_32);
  gate_not_made = λ x e. (gate_not_made H (names_h e) refl, load_33 refl);
  short_to_step = (short_to_step (omega arith), step_34 refl);
  short_to_run = (short_to_run (omega arith), run_34 refl);
  step_of_value = (step_of_value refl value_const, step_35 refl);
  no_rule = (no_rule refl no_value no_rest, step_36 refl no_value);
  no_value_yet = (no_value_yet refl no_value, collect_38 refl);
  short_of_cells = (short_to_collect refl (inl (omega arith)), collect_39 refl value_const);
  short_of_kinds = (short_to_collect refl (inr (omega arith)), collect_39 refl value_const);
  collected = all_fits;
}

-- The sample row.
use Rattle.std.proofs.Common.{◌≡◌, ℕ, ◌≤◌, Bool, true, false, List, [], ◌∷◌, length, set, Some, sym, refl, ap, subst, inl, inr, ⊎_elim, arith}
use Rattle.calculus.specs.declared.gates.Gate.{Gate}
use Rattle.calculus.specs.Types.{bit, sub_bit, sub_qbit, sub_use, sub_arrow}
use Rattle.calculus.specs.Terms.{bit_of, new, held, var, const, app, Running, size, free_var, free_lam, free_fun, free_arg}
use Rattle.calculus.specs.Contexts.{empty, to_left}
use Rattle.calculus.specs.Typing.{Derives, Claimed, rule_constant, rule_function, rule_application}
use Rattle.calculus.specs.Cells.{type_cells}
use Rattle.calculus.specs.Reduction.{Value, value_var, value_const, silent, prepares, Reduces, apply_function, prepare_qubit, in_argument}
use Rattle.calculus.specs.Names.{Names}
use Rattle.calculus.proofs.Determinism.{rests}
use Rattle.calculus.proofs.Requests.{one}
use Rattle.registers.specs.declared.fault.RegisterReason.{RegisterReason}
use Rattle.registers.specs.declared.fault.RegisterReason.TheVariants.{NoPulses, Full, GateNotMade, WrongCount, NotLive, GivenTwice}
use Rattle.registers.specs.Meaning.{none_live}
use Rattle.registers.specs.Sheet.{to_prepare, Holds as RegisterHolds}
use Rattle.rows.specs.Members.{NamesGate, gate_lam, gate_fun, gate_arg, Program, load, step, collect}
use Rattle.rows.specs.Places.{Place, New}
use Rattle.rows.specs.Refusing.{Holds, already_loaded, gate_not_made, nothing_to_collect, no_value_yet, short_to_collect, Refused}
use Rattle.rows.specs.Doing.{no_more, one_more, Does, loads, steps, collects}
use Rattle.rows.specs.Rows.{row_end, row_next}
use Rattle.rows.specs.Sample.{bits, place_with, dropping, function, one_live, start, SampleRow}
use Rattle.rows.proofs.Going.{silent_spends_none, prepares_none}
use Rattle.rows.proofs.Kept.{Kept, does, new as starts}
use Rattle.rows.proofs.Sound.{Wanted, only_want, some_none, same_term, same_type}

derived : Derives Claimed empty dropping bit
derived = rule_application {γ₁ = empty} {γ₂ = empty} refl (λ x. to_left) (rule_function refl refl (rule_constant refl (sub_use sub_bit)))
    (rule_application {γ₁ = empty} {γ₂ = empty} refl (λ x. to_left) (rule_constant refl (sub_use (sub_arrow sub_bit sub_qbit))) (rule_constant refl (sub_use sub_bit)))

abbrev program : Program
program = record { term = dropping; accepted = derived; short = omega arith }

is_new : New bits start
is_new = record { nothing = refl; given = start.register; small = omega arith; cleared = refl }

no_gate : {u : Gate} → NamesGate u dropping → ⊥
no_gate (gate_fun (gate_lam g)) = elim g [ ]
no_gate (gate_arg (gate_fun g)) = elim g [ ]
no_gate (gate_arg (gate_arg g)) = elim g [ ]

load_taken : {f : ℕ} → Holds start f (load program) → ⊥
load_taken (already_loaded q) = some_none q refl
load_taken (gate_not_made u g q) = no_gate g

-- the term before and after each step
abbrev before : Running
before = app tt function (app tt (const tt new) (const tt (bit_of true)))

abbrev between : Running
between = app tt function (var tt (held 0))

abbrev end : Running
end = const tt (bit_of false)

abbrev loaded_place : Place (List Bool)
loaded_place = place_with (Some (before, bit)) none_live 1 none_live

abbrev prepared_place : Place (List Bool)
prepared_place = place_with (Some (between, bit)) one_live 0 one_live

abbrev end_place : Place (List Bool)
end_place = place_with (Some (end, bit)) (set one_live 0 false) 0 (set one_live 0 false)

first : Does bits start (load program) loaded_place
first = loads (λ x. load_taken x.1)

reduces_first : Reduces before (prepares true 0) between
reduces_first = in_argument prepare_qubit

reduces_second : Reduces between silent end
reduces_second = apply_function value_var

second_taken : Kept loaded_place → Refused loaded_place (step 1024) → ⊥
second_taken k x = go ((only_want refl k 1024 (omega arith) (λ v. rests v reduces_first)).0 x)
  where
    go : Wanted before loaded_place → ⊥
    go (inl o) = let c = (one reduces_first o.2).1 in let l = o.3 in omega arith
    go (inr (inl y)) = let z = y.1 in omega arith
    go (inr (inr y)) = let z = y.1 in omega arith

third_taken : Kept prepared_place → Refused prepared_place (step 1024) → ⊥
third_taken k x = go ((only_want refl k 1024 (omega arith) (λ v. rests v reduces_second)).0 x)
  where
    go : Wanted between prepared_place → ⊥
    go (inl o) = let c = (one reduces_second o.2).1 in let l = o.3 in omega arith
    go (inr (inl y)) = silent_spends_none reduces_second y.0
    go (inr (inr y)) = prepares_none reduces_second (λ x. x) y.0

before_names : (h : ℕ) → Names before h → ⊥
before_names h (free_fun (free_lam f)) = elim f [ ]
before_names h (free_arg (free_fun f)) = elim f [ ]
before_names h (free_arg (free_arg f)) = elim f [ ]

between_names : (h : ℕ) → Names between h → h ≡ 0
between_names h (free_fun (free_lam f)) = elim f [ ]
between_names h (free_arg f) = go f
  where
    go : {h k : ℕ} → Names (var tt (held k)) h → h ≡ k
    go free_var = refl

end_names : (h : ℕ) → Names end h → ⊥
end_names h f = elim f [ ]

accepted : (reason : RegisterReason) → RegisterHolds loaded_place.register reason (to_prepare true) → ⊥
accepted NoPulses x = let z : ◌≡◌ {A = ℕ} 1 0 = x.1 in omega arith
accepted Full x = let z : 1 ≤ 0 = x.1 in omega arith
accepted GateNotMade x = x
accepted WrongCount x = x
accepted NotLive x = x.1
accepted GivenTwice x = x

second : Kept loaded_place → Does bits loaded_place (step 1024) prepared_place
second k = steps (second_taken k) (one_more refl (second_taken k) (record {
  effect = prepares true 0;
  reduces = reduces_first;
  between = _;
  acts = (accepted, (λ _ _. (omega arith, refl)), refl);
  dropped = [];
  rising = tt;
  dropped_are = λ h. (absurd, λ p. absurd (before_names h p.0));
  after = refl;
}) no_more)

third : Kept prepared_place → Does bits prepared_place (step 1024) end_place
third k = steps (third_taken k) (one_more refl (third_taken k) (record {
  effect = silent;
  reduces = reduces_second;
  between = _;
  acts = refl;
  dropped = 0 ∷ [];
  rising = ((λ k i. absurd i), tt);
  dropped_are = λ h. (⊎_elim (λ e. (subst (Names between) (sym e) (free_arg free_var), end_names h)) absurd, λ p. inl (between_names h p.0));
  after = refl;
}) no_more)

collect_taken : {f : ℕ} → Holds end_place f (collect 1 1) → ⊥
collect_taken (nothing_to_collect q) = some_none refl q
collect_taken (no_value_yet q n) = n (subst Value (sym (same_term refl q)) value_const)
collect_taken (short_to_collect q (inl l)) = let c = ap size (same_term refl q) in omega arith
collect_taken (short_to_collect q (inr l)) = let c = ap (λ t. length (type_cells t)) (same_type refl q) in omega arith

pub sample_row : SampleRow
sample_row =
    let k = does bits (starts bits is_new) first in
    let l = does bits k (second k) in
    record {
      program = program;
      its_term = refl;
      is_new = is_new;
      row = row_next first (row_next (second k) (row_next (third l) (row_next (collects (λ x. collect_taken x.1)) row_end)));
    }

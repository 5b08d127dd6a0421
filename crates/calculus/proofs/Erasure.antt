-- Derivations without their claims.
use Rattle.std.proofs.Common.{refl}
use Rattle.calculus.specs.Types.{Ty}
use Rattle.calculus.specs.Terms.{Var, Term, var, const, star, lam, app, pair, if_then_else, let_pair, erased, Free, free_var, free_lam, free_fun, free_arg, free_left, free_right, free_test, free_then, free_else, free_pair, free_body}
use Rattle.calculus.specs.Contexts.{Context, empty}
use Rattle.calculus.specs.Typing.{Derives, Claimed, Unclaimed, rule_variable, rule_constant, rule_unit, rule_function, rule_duplicable_function, rule_application, rule_pair, rule_condition, rule_let}
use Rattle.calculus.specs.Erasure.{ErasureLaws}
use Rattle.calculus.proofs.Values.{free_present, none_present}

free_erased : {C : Type 0} (m : Term C) (x : Var) → Free x (erased m) → Free x m
free_erased (var c y) x free_var = free_var
free_erased (const c k) x f = elim f [ ]
free_erased (star c) x f = elim f [ ]
free_erased (lam c m) x (free_lam f) = free_lam (free_erased m _ f)
free_erased (app c m n) x (free_fun f) = free_fun (free_erased m x f)
free_erased (app c m n) x (free_arg f) = free_arg (free_erased n x f)
free_erased (pair c m n) x (free_left f) = free_left (free_erased m x f)
free_erased (pair c m n) x (free_right f) = free_right (free_erased n x f)
free_erased (if_then_else c p m n) x (free_test f) = free_test (free_erased p x f)
free_erased (if_then_else c p m n) x (free_then f) = free_then (free_erased m x f)
free_erased (if_then_else c p m n) x (free_else f) = free_else (free_erased n x f)
free_erased (let_pair c m n) x (free_pair f) = free_pair (free_erased m x f)
free_erased (let_pair c m n) x (free_body f) = free_body (free_erased n _ f)

pub derives : {γ : Context} {m : Term Ty} {t : Ty} → Derives Claimed γ m t → Derives Unclaimed γ (erased m) t
derives (rule_variable p e s) = rule_variable tt e s
derives (rule_constant p s) = rule_constant tt s
derives (rule_unit n p e) = rule_unit n tt e
derives (rule_function p e d) = rule_function tt e (derives d)
derives (rule_duplicable_function {c = c} {m = m} n p e u d) = rule_duplicable_function n tt e (λ x f. u x (free_erased (lam c m) x f)) (derives d)
derives (rule_application p s d e) = rule_application tt s (derives d) (derives e)
derives (rule_pair k a b p s q d e) = rule_pair k a b tt s q (derives d) (derives e)
derives (rule_condition p s d e f) = rule_condition tt s (derives d) (derives e) (derives f)
derives (rule_let k a b p s d e) = rule_let k a b tt s (derives d) (derives e)

pub erasure_laws : ErasureLaws
erasure_laws = record {
  derives = λ γ m a d. derives d;
  starts = λ m a d. (empty, record { no_binder = λ i. refl; named = λ h f. absurd (none_present refl (free_present (derives d) f)); no_other = λ h f. refl }, derives d);
}

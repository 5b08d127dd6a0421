use Rattle.std.proofs.Common.{◌≡◌, ℕ, Bool, true, false, cond, leb, ltb, List, ◌-◌, length, take, drop, Some, Ok, Err, Result, refl, sym, ap, ◌∙◌, subst, arith}
use Rattle.std.proofs.lemmas.Bool.Decides.{nat_tests}
use Rattle.std.proofs.lemmas.List.{take_all, length-drop}
use Rattle.std.proofs.lemmas.Result.{err_from_is_err_and}
use Rattle.std.specs.Result.{IsErrAnd}
use Rattle.calculus.specs.declared.cells.TermCell.{TermCell}
use Rattle.finder.specs.declared.rules.Rule.{Rule}
use Rattle.registers.specs.Meaning.{Changes}
use Rattle.stepper.specs.declared.writing.Answer.TheVariants.{Nothing}
use Rattle.stepper.specs.Naming.{dropped, names}
use Rattle.stepper.specs.Next.{next_cells}
use Rattle.stepper.specs.Writing.{counted}
use Rattle.controller.specs.declared.faults.ControllerFault.{ControllerFault}
use Rattle.controller.specs.declared.faults.ControllerFault.TheVariants.{NoRule, TooLong}
use Rattle.registers.specs.Telling.{Told, told}
use Rattle.controller.specs.Asking.{asked, after_asked}
use Rattle.controller.specs.Letting.{released_all}
use Rattle.controller.specs.Stepping.{Made, made_or_fault, advanced, count_made, StepLeaves}
use Rattle.controller.proofs.shot.Shot.advance.Goals as goal

-- the answer of a test that refuses with a fault, and what comes after one that does not
abbrev tested : Bool → ControllerFault → Result (Unit {0}) ControllerFault
tested b f = cond b (Err f) (Ok tt)

passed_by : {A : Type 0} (b : Bool) (f : ControllerFault) (r : Result A ControllerFault) → Ok tt ≡ tested b f → cond b (Err f) r ≡ r
passed_by true f r h = cc
passed_by false f r h = refl

-- and one that does
refused_by : {A : Type 0} (b : Bool) (f e : ControllerFault) (r : Result A ControllerFault) → Err e ≡ tested b f → cond b (Err f) r ≡ Err e
refused_by true f e r h = cc
refused_by false f e r h = cc

not_over : (n : ℕ) (cs : List TermCell) → Some n ≡ counted cs → ltb 1024 (length cs) ≡ false
not_over n cs e = grind (arith, nat_tests)

-- the step at a cell that is there
abbrev counted_step : {C : Type 0} → Changes C → Told C → List TermCell → Rule → ℕ → Result (Made C) ControllerFault
counted_step changes r cs rule at = cond (ltb 1024 (length (next_cells cs rule at Nothing))) (Err TooLong) (made_or_fault changes r cs rule at (asked r (drop at cs) rule))

-- the cells from one on
from : (es cs : List TermCell) (at : ℕ) → es ≡ cs → take (length es - at) (drop at es) ≡ drop at cs
from es cs at e = take_all (length es - at) (drop at es) (omega (arith, length-drop at es)) ∙ ap (drop at) e

-- where the cell is there and the next term is counted, the step is what the register answers
asks : {C : Type 0} (changes : Changes C) (r : Told C) (cs ds : List TermCell) (rule : Rule) (at n m : ℕ) → ds ≡ cs → n ≡ length cs → Ok tt ≡ tested (leb n at) NoRule → Some m ≡ counted (next_cells ds rule at Nothing)
    → advanced changes r cs rule at ≡ made_or_fault changes r cs rule at (asked r (drop at cs) rule)
asks changes r cs ds rule at n m d l h e =
    passed_by (leb (length cs) at) NoRule _ (h ∙ ap (λ n. tested (leb n at) NoRule) l)
    ∙ ap (λ b. cond b (Err TooLong) (made_or_fault changes r cs rule at (asked r (drop at cs) rule))) (not_over m (next_cells cs rule at Nothing) (e ∙ ap (λ ds. counted (next_cells ds rule at Nothing)) d))

-- the answer of a step that hands a fault on
handed : {A : Type 0} (e : ControllerFault) (r : Result ℕ ControllerFault) (v : Result (Made A) ControllerFault) → IsErrAnd r (λ f. f ≡ e) → v ≡ Err e → r ≡ count_made v
handed e r v h k = let p = err_from_is_err_and r h in p.1 ∙ ap Err p.2 ∙ ap count_made (sym k)

pub returns-in_err-refuse_if : goal.returns-in_err-refuse_if
returns-in_err-refuse_if g c =
    let kind = g.R.Register in
    let cs = c.args.self.now.cells.items in
    let refused = refused_by (leb (length cs) c.args.at) NoRule c.in_err-refuse_if.field-0.0 (counted_step kind.changes (told kind c.args.register.now) cs c.args.rule c.args.at) (c.in_err-refuse_if.ensures ∙ ap (λ n. tested (leb n c.args.at) NoRule) c.len.ensures.value) in
    record {
      answer = handed _ _ _ c.from_residual.ensures.1 refused;
      state = subst (λ v. StepLeaves kind v c.args.self.now c.args.self.now c.args.register.now c.args.register.now c.args.work.now c.args.work.now) (sym refused) (refl, refl, refl);
    }

pub returns-in_err-answer-clause-answer : goal.returns-in_err-answer-clause-answer
returns-in_err-answer-clause-answer g c =
    let kind = g.R.Register in
    let cs = c.args.self.now.cells.items in
    let r = told kind c.args.register.now in
    let es = from _ cs c.args.at c.deref-2.ensures.0 in
    let refused = asks kind.changes r cs _ c.args.rule c.args.at _ _ c.deref.ensures.0 c.len.ensures.value c.in_ok-refuse_if.ensures (sym c.in_ok-ok_or.ensures.ok_part ∙ c.next.ensures.answer)
    ∙ ap (made_or_fault kind.changes r cs c.args.rule c.args.at) (sym (c.in_err-answer.ensures.answer ∙ ap (λ es. asked r es c.args.rule) es)) in
    handed _ _ _ c.from_residual-in_err-answer.ensures.1 refused

pub returns : goal.returns
returns g c =
    let kind = g.R.Register in
    let cs = c.args.self.now.cells.items in
    let r = told kind c.args.register.now in
    let es = from _ cs c.args.at c.deref-2.ensures.0 in
    let makes = asks kind.changes r cs _ c.args.rule c.args.at _ _ c.deref.ensures.0 c.len.ensures.value c.in_ok-refuse_if.ensures (sym c.in_ok-ok_or.ensures.ok_part ∙ c.next.ensures.answer)
    ∙ ap (made_or_fault kind.changes r cs c.args.rule c.args.at) (sym (c.in_ok-answer.ensures.answer ∙ ap (λ es. asked r es c.args.rule) es)) in
    let after = c.in_ok-answer.ensures.state ∙ ap (λ es. after_asked r es kind.changes c.args.rule) es in
    record {
      answer = ap Ok c.go_on.ensures.count ∙ ap count_made (sym makes);
      state = subst (λ v. StepLeaves kind v c.args.self.now c.go_on.new.self c.args.register.now c.go_on.new.register c.args.work.now c.go_on.new.work) (sym makes)
          (c.go_on.ensures.shot, c.go_on.ensures.register ∙ ap (released_all kind.changes (dropped (names cs) (names (next_cells cs c.args.rule c.args.at c.in_ok-answer.answer)))) after, c.go_on.ensures.work);
    }

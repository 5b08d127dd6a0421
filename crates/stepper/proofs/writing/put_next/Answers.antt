use Rattle.std.proofs.Common.{◌≡◌, ℕ, ◌+◌, List, ◌++◌, take, drop, refl, ap, ap₂, ◌∙◌, arith}
use Rattle.calculus.specs.declared.cells.TermCell.{TermCell}
use Rattle.finder.specs.declared.rules.Rule.{Rule}
use Rattle.stepper.specs.Next.{trees, left, next_cells}
use Rattle.stepper.specs.Parts.{after}
use Rattle.stepper.specs.Writing.{overlaid}
use Rattle.stepper.specs.declared.writing.Answer.{Answer}
use Rattle.stepper.proofs.Puts.{puts_more, puts_over, put_first, over_first}
use Rattle.stepper.proofs.writing.put_next.Goals as goal

-- the pieces of the next term, joined
joined : (cs xs ds : List TermCell) (rule : Rule) (at : ℕ) (answer : Answer) → xs ≡ take at cs → ds ≡ drop (at + 2) cs → xs ++ (left rule answer ds ++ after (trees rule) ds) ≡ next_cells cs rule at answer
joined cs xs ds rule at answer before trees_are = ap₂ (λ us ds. us ++ (left rule answer ds ++ after (trees rule) ds)) before trees_are

pub returns-in_err-put : goal.returns-in_err-put
returns-in_err-put c =
    let ds = c.split_redex.result.1.now in
    let all = joined c.args.cells.now _ ds c.args.rule c.args.at c.args.answer c.split_redex.ensures.before c.split_redex.ensures.trees in
    let over = puts_over {B = Unit {0}} (left c.args.rule c.args.answer ds ++ after (trees c.args.rule) ds) c.in_err-put.ensures in
    let same = over.same in
    let table : c.put.new.self.table.now ≡ overlaid c.args.table.now 0 (take 1024 (next_cells c.args.cells.now c.args.rule c.args.at c.args.answer)) =
    over_first c.args.table.now _ refl refl over all in
    record { answer = c.from_residual.ensures ∙ (over.count ∙ put_first _ _ all); table = grind (arith, same, table) }

pub returns-in_err-rest : goal.returns-in_err-rest
returns-in_err-rest c =
    let ds = c.split_redex.result.1.now in
    let all = joined c.args.cells.now _ ds c.args.rule c.args.at c.args.answer c.split_redex.ensures.before c.split_redex.ensures.trees in
    let over = puts_more c.in_ok-put.ensures (puts_over {B = Unit {0}} (after (trees c.args.rule) ds) c.in_err-rest.ensures.put) in
    let same = over.same in
    let table : c.put_left.new.self.table.now ≡ overlaid c.args.table.now 0 (take 1024 (next_cells c.args.cells.now c.args.rule c.args.at c.args.answer)) =
    over_first c.args.table.now _ refl refl over all in
    record { answer = c.from_residual-in_err-rest.ensures ∙ (over.count ∙ put_first _ _ all); table = grind (arith, same, table) }

pub returns-in_err-put-2 : goal.returns-in_err-put-2
returns-in_err-put-2 c =
    let xs = c.split_redex.result.0.now in
    let ds = c.split_redex.result.1.now in
    let all = ap (λ zs. xs ++ (left c.args.rule c.args.answer ds ++ zs)) c.in_ok-rest.ensures.after_trees
    ∙ joined c.args.cells.now xs ds c.args.rule c.args.at c.args.answer c.split_redex.ensures.before c.split_redex.ensures.trees in
    let over = puts_more c.in_ok-put.ensures (puts_more c.in_ok-rest.ensures.put c.in_err-put-2.ensures) in
    let same = over.same in
    let table : c.put-2.new.self.table.now ≡ overlaid c.args.table.now 0 (take 1024 (next_cells c.args.cells.now c.args.rule c.args.at c.args.answer)) =
    over_first c.args.table.now _ refl refl over all in
    record { answer = c.from_residual-in_err-put-2.ensures ∙ (over.count ∙ put_first _ _ all); table = grind (arith, same, table) }

pub returns-clause-answer : goal.returns-clause-answer
returns-clause-answer c =
    let xs = c.split_redex.result.0.now in
    let ds = c.split_redex.result.1.now in
    let all = ap (λ zs. xs ++ (left c.args.rule c.args.answer ds ++ zs)) c.in_ok-rest.ensures.after_trees
    ∙ joined c.args.cells.now xs ds c.args.rule c.args.at c.args.answer c.split_redex.ensures.before c.split_redex.ensures.trees in
    let whole = puts_more c.in_ok-put.ensures (puts_more c.in_ok-rest.ensures.put c.in_ok-put-2.ensures) in
    whole.count ∙ put_first _ _ all

pub returns-clause-table : goal.returns-clause-table
returns-clause-table c =
    let xs = c.split_redex.result.0.now in
    let ds = c.split_redex.result.1.now in
    let all = ap (λ zs. xs ++ (left c.args.rule c.args.answer ds ++ zs)) c.in_ok-rest.ensures.after_trees
    ∙ joined c.args.cells.now xs ds c.args.rule c.args.at c.args.answer c.split_redex.ensures.before c.split_redex.ensures.trees in
    let whole = puts_more c.in_ok-put.ensures (puts_more c.in_ok-rest.ensures.put c.in_ok-put-2.ensures) in
    let same = whole.same in
    let table : c.put-2.new.self.table.now ≡ overlaid c.args.table.now 0 (take 1024 (next_cells c.args.cells.now c.args.rule c.args.at c.args.answer)) =
    over_first c.args.table.now _ refl refl whole all in
    grind (arith, same, table)

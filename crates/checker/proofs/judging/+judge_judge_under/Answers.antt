use Rattle.std.proofs.Common.{◌≡◌, ◌+◌, ◌-◌, ◌∷◌, ◌⊎◌, ◌==◌, refl, sym, ap, ◌∙◌, subst, ap₂, arith, rules, IfSome}
use Rattle.std.proofs.lemmas.Result.{IfOk-weaker}
use Rattle.calculus.specs.Terms.{bound, under}
use Rattle.calculus.specs.Stripping.{first, marks}
use Rattle.calculus.specs.declared.cells.TermCell.{TermCell}
use Rattle.checker.specs.Judging.{term_of}
use Rattle.checker.specs.Scoping.{UsesOf, depth, in_scope, used_below}
use Rattle.subtyping.specs.Parting.{Components}
use Rattle.verdict.specs.Sharing.{uncaptured}
use Rattle.verdict.specs.Uses.{uses}
use Rattle.verdict.specs.Judging.{verdict_from}
use Rattle.checker.proofs.Entering.{leaf}
use Rattle.checker.proofs.Fits.{arrow_first, arrow_marks}
use Rattle.checker.proofs.Nodes.{letter_is}
use Rattle.checker.proofs.Parts.{then_go, then_refused, enter_refused, told, left_refused, given_refused, condition_refused, verdict_in, uses_in, lam_verdict, lam_uses, not_no_arrow, two_parts, let_parts, let_binders, given_pair, second_refused, two_left, two_shows, if_parts, then_branch_refused, else_branch_refused, three_left, three_shows, branches_show, var_accepted, var_bound, var_shows}
use Rattle.checker.proofs.Showing.{shows_none, shows_outside, shows_outside_two, uncaptured_shows}
use Rattle.checker.proofs.judging.+judge_judge_under.Goals as goal

-- the tests on entering

pub judge-returns-in_err-enter-clause-verdict : goal.judge-returns-in_err-enter-clause-verdict
judge-returns-in_err-enter-clause-verdict t c = told _ _ c.from_residual.ensures.1 ∙ enter_refused _ _ (term_of c.args.node) _ c.in_err-enter.ensures

-- v

pub judge-returns-in-v-clause-verdict : goal.judge-returns-in-v-clause-verdict
judge-returns-in-v-clause-verdict t c = var_accepted c.args.node c.args.scope.now c.in_ok-enter.ensures (letter_is c.cell-cell.ensures c.in-v.is)

pub judge-overflow_sub-len-in-v : goal.judge-overflow_sub-len-in-v
judge-overflow_sub-len-in-v t c =
    omega (arith, var_bound c.args.node c.args.scope.now c.in_ok-enter.ensures (letter_is c.cell-cell.ensures c.in-v.is), c.len.ensures.value, ap (λ (x : TermCell). x.argument) c.cell-cell.ensures)

pub judge-returns-in-v-clause-used : goal.judge-returns-in-v-clause-used
judge-returns-in-v-clause-used t c =
    var_shows c.args.node c.args.scope.now c.in_ok-enter.ensures (letter_is c.cell-cell.ensures c.in-v.is) _ (λ k. c.only.ensures k ∙ ap₂ (λ d x. k == (d - 1 - x)) c.len.ensures.value (ap (λ (x : TermCell). x.argument) c.cell-cell.ensures))

-- l

pub judge-unreachable-requires : goal.judge-unreachable-requires
judge-unreachable-requires t c =
    not_no_arrow c.args.node c.args.scope.now c.in_ok-enter.ensures (letter_is c.cell-cell.ensures c.in-l.is) _ _ c.take_apart-marks.ensures c.claim.ensures.claimed c.in_default-core.not-Arrow

pub judge-returns-in_err-used-in-l-clause-verdict : goal.judge-returns-in_err-used-in-l-clause-verdict
judge-returns-in_err-used-in-l-clause-verdict t c =
    let f = c.in_err-used-in-l.field-0.0 in
    let bs = ap (λ b. b ∷ in_scope c.args.scope.now) (sym (arrow_first _ _ c.take_apart-marks.ensures _ _ c.in-Arrow.is) ∙ ap first c.claim.ensures.claimed) in
    told f _ c.from_residual-in_err-used-in-l.ensures.1
    ∙ then_refused f _ _ (c.in_err-used-in-l.ensures.verdict ∙ ap (λ bs. verdict_from c.part.result.at bs (term_of c.part.result)) bs)
    ∙ sym (lam_verdict c.args.node c.args.scope.now c.in_ok-enter.ensures (letter_is c.cell-cell.ensures c.in-l.is) _ c.part.ensures)

pub judge-returns-in_ok-used-in-l : goal.judge-returns-in_ok-used-in-l
judge-returns-in_ok-used-in-l t c =
    let used = c.in_ok-used-in-l in
    let bs = ap (λ b. b ∷ in_scope c.args.scope.now) (sym (arrow_first _ _ c.take_apart-marks.ensures _ _ c.in-Arrow.is) ∙ ap first c.claim.ensures.claimed) in
    let s = c.args.scope.now in
    let m = c.part.result in
    let shown = shows_outside used.used (depth s) (uses (term_of m)) used.ensures.used in
    let k = letter_is c.cell-cell.ensures c.in-l.is in
    let all : UsesOf used.used (depth s) (term_of c.args.node) = λ i l. shown i l ∙ sym (lam_uses c.args.node s c.in_ok-enter.ensures k _ c.part.ensures (bound i)) in
    record {
      verdict = c.uncaptured.ensures.verdict
          ∙ ap (λ s. uncaptured c.args.node.at (in_scope s) c.take_apart-marks.result.0 (used_below used.used (depth s))) used.ensures.kept
          ∙ uncaptured_shows s c.args.node.at _ _ used.used (λ x. uses (term_of m) (under x)) (arrow_marks _ _ c.take_apart-marks.ensures _ _ c.in-Arrow.is ∙ ap marks c.claim.ensures.claimed) shown
          ∙ sym (then_go _ _ (used.ensures.verdict ∙ ap (λ bs. verdict_from m.at bs (term_of m)) bs))
          ∙ sym (lam_verdict c.args.node s c.in_ok-enter.ensures k _ c.part.ensures);
      used = IfOk-weaker c.uncaptured.result _ _ (λ u e. subst (λ u. UsesOf u (depth s) (term_of c.args.node)) (sym e) all) c.uncaptured.ensures.used;
      kept = used.ensures.kept;
    }

-- a and p

pub judge-returns-in_err-left-in-a-clause-verdict : goal.judge-returns-in_err-left-in-a-clause-verdict
judge-returns-in_err-left-in-a-clause-verdict t c =
    told _ _ c.from_residual-in_err-left-in-a.ensures.1
    ∙ left_refused c.args.node c.args.scope.now c.in_ok-enter.ensures _ c.part-in-a.ensures _ c.in_err-left-in-a.ensures.verdict (subst (λ (x : TermCell). (x.op ≡ 97) ⊎ (x.op ≡ 112)) c.cell-cell.ensures c.in-a.is)

pub judge-returns-in_err-right-in-a-clause-verdict : goal.judge-returns-in_err-right-in-a-clause-verdict
judge-returns-in_err-right-in-a-clause-verdict t c =
    let w = two_parts c.args.node c.args.scope.now c.in_ok-enter.ensures _ _ c.part-in-a.ensures c.part-in-a-2.ensures (subst (λ (x : TermCell). (x.op ≡ 97) ⊎ (x.op ≡ 112)) c.cell-cell.ensures c.in-a.is) in
    told _ _ c.from_residual-in_err-right-in-a.ensures.1 ∙ second_refused _ _ _ _ _ _ _ w _ c.in_ok-left-in-a.ensures.verdict (verdict_in c.part-in-a-2.result c.args.scope.now c.judge.new.scope _ c.in_ok-left-in-a.ensures.kept c.in_err-right-in-a.ensures.verdict)

pub judge-returns-in_ok-right-in-a : goal.judge-returns-in_ok-right-in-a
judge-returns-in_ok-right-in-a t c =
    let w = two_parts c.args.node c.args.scope.now c.in_ok-enter.ensures _ _ c.part-in-a.ensures c.part-in-a-2.ensures (subst (λ (x : TermCell). (x.op ≡ 97) ⊎ (x.op ≡ 112)) c.cell-cell.ensures c.in-a.is) in
    let left = c.in_ok-left-in-a in
    let right = c.in_ok-right-in-a in
    let kept = right.ensures.kept ∙ left.ensures.kept in
    let shown = uses_in c.part-in-a-2.result c.args.scope.now c.judge.new.scope right.right left.ensures.kept right.ensures.used in
    record {
      verdict = two_left _ _ _ c.args.scope.now c.judge-in-a.new.scope _ _ _ w left.left right.right _ kept left.ensures.used shown left.ensures.verdict
          (verdict_in c.part-in-a-2.result c.args.scope.now c.judge.new.scope _ left.ensures.kept right.ensures.verdict) c.apart.ensures.verdict;
      used = IfOk-weaker c.apart.result _ _ (λ u e. two_shows _ _ _ _ _ _ _ w u left.left right.right (depth c.args.scope.now) left.ensures.used shown e) c.apart.ensures.used;
      kept = kept;
    }

-- d

pub judge-unwrap-requires : goal.judge-unwrap-requires
judge-unwrap-requires t c =
    let pair = given_pair c.args.node c.args.scope.now c.in_ok-enter.ensures (letter_is c.cell-cell.ensures c.in-d.is) _ c.part-pair.ensures c.claim-in-d.result c.claim-in-d.ensures.claimed in
    search (rules, pair, c.components.ensures.pair)

pub judge-returns-in_err-given-in-d-clause-verdict : goal.judge-returns-in_err-given-in-d-clause-verdict
judge-returns-in_err-given-in-d-clause-verdict t c =
    told _ _ c.from_residual-in_err-given-in-d.ensures.1
    ∙ given_refused c.args.node c.args.scope.now c.in_ok-enter.ensures _ c.part-pair.ensures _ c.in_err-given-in-d.ensures.verdict (letter_is c.cell-cell.ensures c.in-d.is)

pub judge-returns-in_err-body-in-d-clause-verdict : goal.judge-returns-in_err-body-in-d-clause-verdict
judge-returns-in_err-body-in-d-clause-verdict t c =
    let w = let_parts c.args.node c.args.scope.now c.in_ok-enter.ensures _ _ c.part-pair.ensures c.part-in-d.ensures (letter_is c.cell-cell.ensures c.in-d.is) in
    let given = c.in_ok-given-in-d in
    let bs = let_binders c.claim-in-d.result _ _ _ c.args.scope.now _ (subst (λ o. IfSome o (λ p. Components c.claim-in-d.result p.0 p.1)) c.unwrap.ensures c.components.ensures.components) c.claim-in-d.ensures.claimed given.ensures.kept in
    told _ _ c.from_residual-in_err-body-in-d.ensures.1
    ∙ second_refused _ _ _ _ _ _ _ w _ given.ensures.verdict (c.in_err-body-in-d.ensures.verdict ∙ ap (λ bs. verdict_from c.part-in-d.result.at bs (term_of c.part-in-d.result)) bs)

pub judge-returns-in_ok-body-in-d : goal.judge-returns-in_ok-body-in-d
judge-returns-in_ok-body-in-d t c =
    let w = let_parts c.args.node c.args.scope.now c.in_ok-enter.ensures _ _ c.part-pair.ensures c.part-in-d.ensures (letter_is c.cell-cell.ensures c.in-d.is) in
    let given = c.in_ok-given-in-d in
    let bs = let_binders c.claim-in-d.result _ _ _ c.args.scope.now _ (subst (λ o. IfSome o (λ p. Components c.claim-in-d.result p.0 p.1)) c.unwrap.ensures c.components.ensures.components) c.claim-in-d.ensures.claimed given.ensures.kept in
    let s = c.args.scope.now in
    let body = c.in_ok-body-in-d in
    let kept = body.ensures.kept ∙ given.ensures.kept in
    let shown = shows_outside_two body.body (depth s) (uses (term_of c.part-in-d.result)) (subst (λ t. UsesOf body.body (depth t + 2) (term_of c.part-in-d.result)) given.ensures.kept body.ensures.used) in
    record {
      verdict = two_left _ _ _ s c.judge_under-in-d.new.scope _ _ _ w given.given body.body _ kept given.ensures.used shown given.ensures.verdict
          (body.ensures.verdict ∙ ap (λ bs. verdict_from c.part-in-d.result.at bs (term_of c.part-in-d.result)) bs) c.apart-in-d.ensures.verdict;
      used = IfOk-weaker c.apart-in-d.result _ _ (λ u e. two_shows _ _ _ _ _ _ _ w u given.given body.body (depth s) given.ensures.used shown e) c.apart-in-d.ensures.used;
      kept = kept;
    }

-- i

pub judge-returns-in_err-condition-in-i-clause-verdict : goal.judge-returns-in_err-condition-in-i-clause-verdict
judge-returns-in_err-condition-in-i-clause-verdict t c =
    told _ _ c.from_residual-in_err-condition-in-i.ensures.1
    ∙ condition_refused c.args.node c.args.scope.now c.in_ok-enter.ensures _ c.part-in-i.ensures _ c.in_err-condition-in-i.ensures.verdict (letter_is c.cell-cell.ensures c.in-i.is)

pub judge-returns-in_err-then-in-i-clause-verdict : goal.judge-returns-in_err-then-in-i-clause-verdict
judge-returns-in_err-then-in-i-clause-verdict t c =
    let first = c.in_ok-condition-in-i.ensures in
    told _ _ c.from_residual-in_err-then-in-i.ensures.1
    ∙ then_branch_refused c.args.node c.args.scope.now c.in_ok-enter.ensures _ _ c.part-in-i.ensures c.part-in-i-2.ensures (letter_is c.cell-cell.ensures c.in-i.is) _ first.verdict (verdict_in c.part-in-i-2.result c.args.scope.now c.judge-in-i.new.scope _ first.kept c.in_err-then-in-i.ensures.verdict)

pub judge-returns-in_err-other-in-i-clause-verdict : goal.judge-returns-in_err-other-in-i-clause-verdict
judge-returns-in_err-other-in-i-clause-verdict t c =
    let w = if_parts c.args.node c.args.scope.now c.in_ok-enter.ensures _ _ c.part-in-i.ensures c.part-in-i-2.ensures (letter_is c.cell-cell.ensures c.in-i.is) _ c.part-in-i-3.ensures in
    let s = c.args.scope.now in
    let first = c.in_ok-condition-in-i.ensures in
    let then = c.in_ok-then-in-i.ensures in
    told _ _ c.from_residual-in_err-other-in-i.ensures.1
    ∙ else_branch_refused _ _ _ _ _ w _ first.verdict (verdict_in c.part-in-i-2.result s c.judge-in-i.new.scope _ first.kept then.verdict) (verdict_in c.part-in-i-3.result s c.judge-in-i-2.new.scope _ (then.kept ∙ first.kept) c.in_err-other-in-i.ensures.verdict)

pub judge-returns-in_ok-other-in-i : goal.judge-returns-in_ok-other-in-i
judge-returns-in_ok-other-in-i t c =
    let w = if_parts c.args.node c.args.scope.now c.in_ok-enter.ensures _ _ c.part-in-i.ensures c.part-in-i-2.ensures (letter_is c.cell-cell.ensures c.in-i.is) _ c.part-in-i-3.ensures in
    let s = c.args.scope.now in
    let first = c.in_ok-condition-in-i in
    let then = c.in_ok-then-in-i in
    let other = c.in_ok-other-in-i in
    let kept = then.ensures.kept ∙ first.ensures.kept in
    let all_kept = other.ensures.kept ∙ kept in
    let branches =
    branches_show _ _ _ _ _ w c.either.result then.then other.other (depth s)
    (uses_in c.part-in-i-2.result s c.judge-in-i.new.scope then.then first.ensures.kept then.ensures.used) (uses_in c.part-in-i-3.result s c.judge-in-i-2.new.scope other.other kept other.ensures.used) c.either.ensures in
    record {
      verdict = three_left _ _ _ _ s c.judge-in-i-3.new.scope w first.condition c.either.result _ all_kept first.ensures.used branches first.ensures.verdict
          (verdict_in c.part-in-i-2.result s c.judge-in-i.new.scope _ first.ensures.kept then.ensures.verdict) (verdict_in c.part-in-i-3.result s c.judge-in-i-2.new.scope _ kept other.ensures.verdict) c.apart-in-i.ensures.verdict;
      used = IfOk-weaker c.apart-in-i.result _ _ (λ u e. three_shows _ _ _ _ _ w u first.condition c.either.result (depth s) first.ensures.used branches e) c.apart-in-i.ensures.used;
      kept = all_kept;
    }

-- a leaf

pub judge-returns-in_default : goal.judge-returns-in_default
judge-returns-in_default t c =
    let l = leaf c.args.node _ c.cell-cell.ensures (λ k. omega arith) (λ k. omega arith) (λ k. grind arith) (λ k. grind arith) (λ k. omega arith) (λ k. omega arith) in
    let s = c.args.scope.now in
    record {
      verdict = c.in_ok-enter.ensures ∙ sym (l.tested c.args.node.at (in_scope s));
      used = shows_none c.none.result (depth s) (uses (term_of c.args.node)) c.none.ensures l.unused;
      kept = refl;
    }

use Rattle.std.proofs.Common.{◌≡◌, length, replicate, ap, not, ◌==◌, arith, rules}
use Rattle.calculus.proofs.NewCells.{new_kind, new_cell}
use Rattle.termview.proofs.Tables.{failing_within, of_cells, of_fault, same_judgement}
use Rattle.termview.proofs.judging.judge.Goals as goal

pub judged-requires-in-Err-clause-few_kinds : goal.judged-requires-in-Err-clause-few_kinds
judged-requires-in-Err-clause-few_kinds c =
    let types = c.read.new.types in
    let long : length types ≡ 256 = search rules in
    let within = failing_within (λ k. not (k.kind == 0)) types (length types) 0 (omega arith) in
    omega (arith, long, c.kinds_there-kinds.ensures, within)

pub judged-requires-in-Err-clause-few_ops : goal.judged-requires-in-Err-clause-few_ops
judged-requires-in-Err-clause-few_ops c =
    let terms = c.read.new.terms in
    let long : length terms ≡ 512 = search rules in
    let within = failing_within (λ k. not (k.op == 0)) terms (length terms) 0 (omega arith) in
    omega (arith, long, c.ops_there-ops.ensures, within)

pub returns-in-Ok : goal.returns-in-Ok
returns-in-Ok c =
    let types = ap (replicate 256) (new_kind _ c.default-types.ensures) in
    let terms = ap (replicate 512) (new_cell _ c.default-terms.ensures) in
    let k = of_cells c.args.text.now _ _ _ _ (c.in-Ok.kinds, c.in-Ok.ops) c.checked-verdict.result types terms c.in-Ok.ensures.answer c.in-Ok.ensures.types c.in-Ok.ensures.terms c.checked-verdict.ensures in
    same_judgement c.args.text.now _ _ _ _ _ _ c.judged.ensures.verdict c.judged.ensures.types c.judged.ensures.terms k

pub returns-in-Err : goal.returns-in-Err
returns-in-Err c =
    let types = ap (replicate 256) (new_kind _ c.default-types.ensures) in
    let terms = ap (replicate 512) (new_cell _ c.default-terms.ensures) in
    let k = of_fault c.args.text.now _ _ _ _ c.in-Err.fault c.kinds_there-kinds.result c.ops_there-ops.result types terms c.in-Err.ensures.answer c.in-Err.ensures.types c.in-Err.ensures.terms c.kinds_there-kinds.ensures c.ops_there-ops.ensures in
    same_judgement c.args.text.now _ _ _ _ _ _ c.judged-in-Err.ensures.verdict c.judged-in-Err.ensures.types c.judged-in-Err.ensures.terms k

use Rattle.std.proofs.Common.{◌≡◌, length, take, drop, ap, ◌∙◌, arith}
use Rattle.std.proofs.lemmas.List.{take_at}
use Rattle.stepper.specs.Next.{next_cells}
use Rattle.stepper.proofs.Puts.{begun}
use Rattle.controller.specs.Tables.{begun_with}
use Rattle.controller.proofs.steps.write_next.Goals as goal
use Rattle.controller.proofs.steps.write_next.Goals.{After-unwrap}

written : (c : After-unwrap) →
    let next = next_cells c.args.cells.now c.args.rule c.args.at c.args.answer in
    c.put_next.new.table ≡ begun_with next c.args.work.now
written c =
    let next = next_cells c.args.cells.now c.args.rule c.args.at c.args.answer in
    c.put_next.ensures.table ∙ begun c.args.work.now next c.requires.1 (omega arith)

pub returns-clause-work : goal.returns-clause-work
returns-clause-work c = written c

pub returns-clause-front : goal.returns-clause-front
returns-clause-front c =
    let next = next_cells c.args.cells.now c.args.rule c.args.at c.args.answer in
    let count : c.unwrap.result ≡ length next = grind arith in
    ap (take c.unwrap.result) (written c) ∙ take_at next (drop (length next) c.args.work.now) c.unwrap.result (omega (arith, count))

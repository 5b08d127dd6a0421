use Rattle.std.proofs.Common.{◌∙◌}
use Rattle.stepper.specs.Next.{next_cells}
use Rattle.stepper.proofs.Puts.{begun_counted}
use Rattle.stepper.proofs.Steps.{makes_step}
use Rattle.stepper.proofs.writing.next.Goals as goal

pub returns-then-len-table-clause-table : goal.returns-then-len-table-clause-table
returns-then-len-table-clause-table c =
    c.put_next-then-len-table.ensures.table ∙ begun_counted c.args.table.now (next_cells c.args.cells.now c.args.rule c.args.at c.args.answer) c.in_ok-len.len c.in_ok-len.ensures.answer c.if-len-table.true

pub returns-in_err-len-clause-step : goal.returns-in_err-len-clause-step
returns-in_err-len-clause-step c = makes_step c.args.cells.now c.args.rule c.args.at c.args.answer

pub returns-then-len-table-clause-step : goal.returns-then-len-table-clause-step
returns-then-len-table-clause-step c = makes_step c.args.cells.now c.args.rule c.args.at c.args.answer

pub returns-clause-step : goal.returns-clause-step
returns-clause-step c = makes_step c.args.cells.now c.args.rule c.args.at c.args.answer

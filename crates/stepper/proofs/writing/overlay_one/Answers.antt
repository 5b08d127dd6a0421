use Rattle.stepper.proofs.Puts.{one_over}
use Rattle.stepper.proofs.writing.overlay_one.Goals as goal

pub returns-then-at-table : goal.returns-then-at-table
returns-then-at-table c = one_over c.args.table.now c.args.at c.args.cell c.if-at-table.true

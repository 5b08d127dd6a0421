use Rattle.std.proofs.Common.{rules, sym, ◌∙◌, None, Some, Ok, Err}
use Rattle.finder.proofs.Sheet.{first_row_is}
use Rattle.finder.proofs.Tests.{standing}
use Rattle.finder.proofs.finder.find.Goals as goal

pub work-requires : goal.work-requires
work-requires c = standing c.args.cells.now (sym c.test_cells.ensures ∙ c.in_ok-test_cells.was)

pub returns-in_err-test_cells-clause-first : goal.returns-in_err-test_cells-clause-first
returns-in_err-test_cells-clause-first c = first_row_is c.args.cells.now c.from_residual.result (search rules)

pub returns-in-Value-clause-first : goal.returns-in-Value-clause-first
returns-in-Value-clause-first c = first_row_is c.args.cells.now (Ok None) (search rules)

pub returns-in-Step-clause-first : goal.returns-in-Step-clause-first
returns-in-Step-clause-first c = first_row_is c.args.cells.now (Ok (Some (c.in-Step.rule, c.in-Step.cell))) (search rules)

pub returns-in-Stuck-clause-first : goal.returns-in-Stuck-clause-first
returns-in-Stuck-clause-first c = first_row_is c.args.cells.now (Err c.at.result) (search rules)

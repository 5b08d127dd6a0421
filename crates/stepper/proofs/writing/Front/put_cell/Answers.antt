use Rattle.stepper.proofs.Substitution.{variable_at, variable_past}
use Rattle.stepper.proofs.writing.Front.put_cell.Goals as goal

pub returns-in-Some : goal.returns-in-Some
returns-in-Some c =
    let found = c.in-Some.ensures.lookup in
    let e = variable_at c.args.depth c.args.values.now c.args.cell c.if-cell-ne118.false c.if-index-depth.false c.in-Some.value.now found.3.0 found.1 in
    rw (← e) c.put.ensures

pub returns-in-None : goal.returns-in-None
returns-in-None c =
    let e = variable_past c.args.depth c.args.values.now c.args.cell c.if-cell-ne118.false c.if-index-depth.false c.in-None.ensures.lookup.3 in
    rw (← e) (rw c.running.ensures at c.put_one-in-None.ensures)

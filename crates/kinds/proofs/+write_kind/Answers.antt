use Rattle.std.proofs.Common.{ap}
use Rattle.calculus.specs.Cells.{type_cells}
use Rattle.kinds.specs.declared.Head.{Head}
use Rattle.kinds.specs.Kinds.{head_type}
use Rattle.kinds.proofs.Cells.{on_ok, leaf_written, parts_written}
use Rattle.kinds.proofs.+write_kind.Goals as goal

pub returns-in-Bit : goal.returns-in-Bit
returns-in-Bit t c =
    on_ok c.add-in-Bit.result (λ e. leaf_written c.args.kind.now c.loop.counter 98 c.args.cells.now.items c.loop.cells.items c.loop.invariant c.loop.auto.counter-end c.loop-test.false e (ap (λ (h : Head). type_cells (head_type h)) c.in-Bit.is)) c.add-in-Bit.ensures

pub returns-in-Qubit : goal.returns-in-Qubit
returns-in-Qubit t c =
    on_ok c.add-in-Qubit.result (λ e. leaf_written c.args.kind.now c.loop.counter 113 c.args.cells.now.items c.loop.cells.items c.loop.invariant c.loop.auto.counter-end c.loop-test.false e (ap (λ (h : Head). type_cells (head_type h)) c.in-Qubit.is)) c.add-in-Qubit.ensures

pub returns-in-Unit : goal.returns-in-Unit
returns-in-Unit t c =
    on_ok c.add-in-Unit.result (λ e. leaf_written c.args.kind.now c.loop.counter 117 c.args.cells.now.items c.loop.cells.items c.loop.invariant c.loop.auto.counter-end c.loop-test.false e (ap (λ (h : Head). type_cells (head_type h)) c.in-Unit.is)) c.add-in-Unit.ensures

pub returns-in_ok-write_kind-in-Arrow : goal.returns-in_ok-write_kind-in-Arrow
returns-in_ok-write_kind-in-Arrow t c =
    on_ok c.write_kind-in-Arrow.result
    (λ e. parts_written c.args.kind.now c.loop.counter 62 c.args.cells.now.items c.loop.cells.items c.loop.invariant c.loop.auto.counter-end c.loop-test.false c.in_ok-add-in-Arrow.ensures c.in_ok-write_kind-in-Arrow.ensures
    e c.deref.ensures c.deref-in-Arrow.ensures (ap (λ (h : Head). type_cells (head_type h)) c.in-Arrow.is))
    c.write_kind-in-Arrow.ensures

pub returns-in_ok-write_kind-in-Pair : goal.returns-in_ok-write_kind-in-Pair
returns-in_ok-write_kind-in-Pair t c =
    on_ok c.write_kind-in-Pair-2.result
    (λ e. parts_written c.args.kind.now c.loop.counter 42 c.args.cells.now.items c.loop.cells.items c.loop.invariant c.loop.auto.counter-end c.loop-test.false c.in_ok-add-in-Pair.ensures c.in_ok-write_kind-in-Pair.ensures
    e c.deref-in-Pair.ensures c.deref-in-Pair-2.ensures (ap (λ (h : Head). type_cells (head_type h)) c.in-Pair.is))
    c.write_kind-in-Pair-2.ensures

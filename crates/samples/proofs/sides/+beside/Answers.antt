use Rattle.std.proofs.Common.{ap}
use Rattle.kinds.specs.declared.Head.TheVariants.{Bit, Qubit, Unit}
use Rattle.kinds.specs.Kinds.{head_type}
use Rattle.samples.proofs.Subtypes.{leaf_beside, arrow_beside, pair_beside}
use Rattle.samples.proofs.sides.+beside.Goals as goal

pub returns-in-Bit : goal.returns-in-Bit
returns-in-Bit t c = leaf_beside c.args.side c.args.kind.now c.marks_beside-marks.result c.marks_beside-marks.ensures Bit c.marked.ensures c.in-Bit.is

pub returns-in-Qubit : goal.returns-in-Qubit
returns-in-Qubit t c = leaf_beside c.args.side c.args.kind.now c.marks_beside-marks.result c.marks_beside-marks.ensures Qubit c.marked-in-Qubit.ensures c.in-Qubit.is

pub returns-in-Unit : goal.returns-in-Unit
returns-in-Unit t c = leaf_beside c.args.side c.args.kind.now c.marks_beside-marks.result c.marks_beside-marks.ensures Unit c.marked-in-Unit.ensures c.in-Unit.is

pub returns-in_ok-beside-in-Arrow : goal.returns-in_ok-beside-in-Arrow
returns-in_ok-beside-in-Arrow t c =
    arrow_beside c.args.side c.args.kind.now c.marks_beside-marks.result c.marks_beside-marks.ensures c.arrow.result c.turned.result _ _ c.arrow.ensures c.turned.ensures
    c.in_ok-from-in-Arrow.ensures c.deref.ensures c.in_ok-beside-in-Arrow.ensures c.deref-in-Arrow.ensures (ap head_type c.in-Arrow.is)

pub returns-in_ok-beside-in-Pair : goal.returns-in_ok-beside-in-Pair
returns-in_ok-beside-in-Pair t c =
    pair_beside c.args.side c.args.kind.now c.marks_beside-marks.result c.marks_beside-marks.ensures c.pair.result _ _ c.pair.ensures
    c.in_ok-left-in-Pair.ensures c.deref-in-Pair.ensures c.in_ok-beside-in-Pair.ensures c.deref-in-Pair-2.ensures (ap head_type c.in-Pair.is)

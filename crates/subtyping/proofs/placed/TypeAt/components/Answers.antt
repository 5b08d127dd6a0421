use Rattle.std.proofs.Common.{sym}
use Rattle.subtyping.proofs.Components.{no_tensor, tensor_is, components}
use Rattle.subtyping.proofs.placed.TypeAt.components.Goals as goal

pub returns-in-Pair-clause-pair : goal.returns-in-Pair-clause-pair
returns-in-Pair-clause-pair c = sym (tensor_is _ _ c.take_apart-marks.ensures _ _ c.in-Pair.is)

pub returns-in-Pair-clause-components : goal.returns-in-Pair-clause-components
returns-in-Pair-clause-components c =
    let l = c.marked.ensures in
    let r = c.marked-in-Pair.ensures in
    components _ _ c.take_apart-marks.ensures _ _ c.in-Pair.is _ _
    record { count = l.count; stands = l.stands; is = l.meant }
    record { count = r.count; stands = r.stands; is = r.meant }

pub returns-in_default : goal.returns-in_default
returns-in_default c = record { pair = sym (no_tensor _ _ c.take_apart-marks.ensures c.in_default.not-Pair); components = tt }

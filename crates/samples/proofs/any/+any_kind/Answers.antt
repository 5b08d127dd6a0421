use Rattle.std.proofs.Common.{refl}
use Rattle.kinds.specs.declared.Head.TheVariants.{Bit, Unit}
use Rattle.samples.proofs.Marks.{few_of, few_of_leaf}
use Rattle.samples.proofs.any.+any_kind.Goals as goal

pub returns-then-is_arrow-2 : goal.returns-then-is_arrow-2
returns-then-is_arrow-2 t c = few_of c.arrow.result c.any_marks-marks.result _ c.arrow.ensures refl c.any_marks-marks.ensures

pub returns-else-is_arrow-2 : goal.returns-else-is_arrow-2
returns-else-is_arrow-2 t c = few_of c.pair.result c.any_marks-marks.result _ c.pair.ensures refl c.any_marks-marks.ensures

pub returns-in-0 : goal.returns-in-0
returns-in-0 t c = few_of_leaf _ c.any_marks-marks.result Bit c.marked-in-0.ensures refl c.any_marks-marks.ensures

pub returns-in-2 : goal.returns-in-2
returns-in-2 t c = few_of_leaf _ c.any_marks-marks.result Unit c.marked-in-2.ensures refl c.any_marks-marks.ensures

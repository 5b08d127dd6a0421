use Rattle.checker.proofs.Fits.{unit_by, unit_none}
use Rattle.checker.proofs.rules.unit_fits.Goals as goal

pub returns-in-Unit : goal.returns-in-Unit
returns-in-Unit c = unit_by _ _ c.take_apart.ensures c.in-Unit.is

pub returns-in_default : goal.returns-in_default
returns-in_default c = unit_none _ _ c.take_apart.ensures c.in_default.not-Unit

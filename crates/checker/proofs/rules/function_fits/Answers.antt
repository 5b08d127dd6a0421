use Rattle.std.proofs.Common.{rules}
use Rattle.subtyping.specs.Meaning.{meant}
use Rattle.checker.proofs.Fits.{function_by, function_none}
use Rattle.checker.proofs.rules.function_fits.Goals as goal

pub returns-in-Arrow : goal.returns-in-Arrow
returns-in-Arrow c = search (rules, function_by _ _ c.take_apart.ensures _ _ c.in-Arrow.is (meant c.args.body))

pub returns-in_default : goal.returns-in_default
returns-in_default c = search (rules, function_by _ _ c.take_apart.ensures _ _ c.in-Arrow.is (meant c.args.body))

pub returns-in_default-2 : goal.returns-in_default-2
returns-in_default-2 c = search (rules, function_none)

use Rattle.std.proofs.Common.{rules}
use Rattle.std.proofs.lemmas.List.{take_min}
use Rattle.agreement.proofs.compare.seen.Goals as goal

pub returns : goal.returns
returns c = search (rules, take_min)

use Rattle.std.proofs.Common.{◌<◌, ◌^◌, rules}
use Rattle.checker.proofs.Levels.{in_none}
use Rattle.checker.proofs.used.Used.has.Goals as goal

pub returns-else-level-lt-MOST_BINDERS : goal.returns-else-level-lt-MOST_BINDERS
returns-else-level-lt-MOST_BINDERS c =
    let fits : c.args.self.levels < 2 ^ 32 = assumption c.well_formed.0 in
    search (rules, in_none c.args.self.levels c.args.level fits c.if-level-lt-MOST_BINDERS.false)

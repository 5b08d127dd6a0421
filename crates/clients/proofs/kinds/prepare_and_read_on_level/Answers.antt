use Rattle.clients.proofs.Levels.{came_back}
use Rattle.clients.proofs.kinds.prepare_and_read_on_level.Goals as goal

pub returns-clause-bit : goal.returns-clause-bit
returns-clause-bit c = came_back c.args.level.now c.prepare_and_read.new.register c.args.bit c.prepare_and_read.result c.prepare_and_read.ensures.answer

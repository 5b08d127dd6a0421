use Rattle.clients.proofs.Steps.{uses_handle}
use Rattle.clients.proofs.uses.prepare_and_read.Goals as goal

pub returns-clause-answer : goal.returns-clause-answer
returns-clause-answer g c =
    let p = c.in_ok-handle.ensures in
    let q = c.read-outcome.ensures in
    let l = c.in_ok-let_go.ensures in
    uses_handle g.R.Register c.args.register.now c.prepare.new.self c.read-outcome.new.self c.let_go.new.self c.args.bit c.in_ok-handle.handle (p.answer, p.state) (l.answer, l.state) c.read-outcome.result q.answer q.state

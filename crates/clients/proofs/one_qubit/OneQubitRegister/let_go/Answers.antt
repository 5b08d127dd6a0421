use Rattle.std.proofs.Common.{◌≡◌, true, false, get_or, rules}
use Rattle.clients.specs.Qubit.{qubit_live}
use Rattle.clients.proofs.Qubit.{live_zero}
use Rattle.clients.proofs.one_qubit.OneQubitRegister.let_go.Goals as goal

pub returns-clause-state : goal.returns-clause-state
returns-clause-state c =
    let live : get_or (qubit_live c.args.self.now.live) c.args.handle false ≡ true = search rules in
    rw (live_zero c.args.self.now.live c.args.handle live) (search rules)

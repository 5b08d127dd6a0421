use Rattle.std.proofs.Common.{sym, ◌∙◌}
use Rattle.std.proofs.lemmas.Bool.{ne_eqb}
use Rattle.clients.proofs.Qubit.{other_dead}
use Rattle.clients.proofs.one_qubit.OneQubitRegister.is_live.Goals as goal

pub returns-else-handle-eq0 : goal.returns-else-handle-eq0
returns-else-handle-eq0 c = ne_eqb _ _ c.if-handle-eq0.false ∙ sym (other_dead c.args.self.now.live c.args.handle c.if-handle-eq0.false)

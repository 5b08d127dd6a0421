use Rattle.rows.proofs.Refusals.{refused_stays}
use Rattle.rows.proofs.refused_members_change_nothing.Goals as goal

pub returns : goal.returns
returns g c = refused_stays _

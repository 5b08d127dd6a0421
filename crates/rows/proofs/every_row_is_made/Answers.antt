use Rattle.rows.proofs.Made.{every_row_is_made}
use Rattle.rows.proofs.every_row_is_made.Goals as goal

pub returns : goal.returns
returns g c = every_row_is_made _

use Rattle.rows.proofs.Made.{every_place_is_bounded}
use Rattle.rows.proofs.every_place_is_bounded.Goals as goal

pub returns : goal.returns
returns g c = every_place_is_bounded _

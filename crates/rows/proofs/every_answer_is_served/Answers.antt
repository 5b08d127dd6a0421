use Rattle.rows.proofs.Made.{every_answer_is_served}
use Rattle.rows.proofs.every_answer_is_served.Goals as goal

pub returns : goal.returns
returns g c = every_answer_is_served _

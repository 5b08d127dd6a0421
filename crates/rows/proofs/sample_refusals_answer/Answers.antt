use Rattle.rows.proofs.Refusals.{sample_refusals}
use Rattle.rows.proofs.sample_refusals_answer.Goals as goal

pub returns : goal.returns
returns c = sample_refusals

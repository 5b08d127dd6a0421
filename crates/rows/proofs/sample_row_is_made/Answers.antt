use Rattle.rows.proofs.Sample.{sample_row}
use Rattle.rows.proofs.Unsound.{unsound_places}
use Rattle.rows.proofs.sample_row_is_made.Goals as goal

pub returns-clause-row : goal.returns-clause-row
returns-clause-row c = sample_row

pub returns-clause-unsound : goal.returns-clause-unsound
returns-clause-unsound c = unsound_places

use Rattle.verdict.proofs.Definite.{first_row_answers}
use Rattle.verdict.proofs.deciding.the_first_row_answers.Goals as goal

pub returns : goal.returns
returns c = first_row_answers

use Rattle.finder.proofs.Sheet.{first_row_answers}
use Rattle.finder.proofs.promises.the_first_row_answers.Goals as goal

pub returns : goal.returns
returns c = first_row_answers

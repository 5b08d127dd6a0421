use Rattle.checker.proofs.Sheet.{first_row_answers}
use Rattle.checker.proofs.accepting.the_first_row_answers.Goals as goal

pub returns : goal.returns
returns c = first_row_answers

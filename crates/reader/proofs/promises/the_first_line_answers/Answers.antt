use Rattle.reader.proofs.Sheet.{first_line_answers}
use Rattle.reader.proofs.promises.the_first_line_answers.Goals as goal

pub returns : goal.returns
returns c = first_line_answers

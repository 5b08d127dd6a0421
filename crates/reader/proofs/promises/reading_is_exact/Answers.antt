use Rattle.reader.proofs.Exacts.{exact}
use Rattle.reader.proofs.promises.reading_is_exact.Goals as goal

pub returns : goal.returns
returns c = exact

use Rattle.calculus.proofs.ReadTypes as types
use Rattle.calculus.proofs.ReadTerms as terms
use Rattle.calculus.proofs.meaning.cells_are_read.Goals as goal

pub returns : goal.returns
returns c = record {
  types_written = λ cs h. (types.written cs h).0;
  types_read = types.types_read;
  terms_written = λ cs h. (terms.written cs h).0;
  terms_read = terms.terms_read;
  same_cells = types.same_cells;
}

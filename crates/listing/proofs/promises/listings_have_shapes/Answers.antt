use Rattle.listing.specs.Listed.{lines_of_text}
use Rattle.listing.proofs.Shapes.{only_of_values, shape_of}
use Rattle.listing.proofs.promises.listings_have_shapes.Goals as goal

pub returns : goal.returns
returns c = record {
  shape = shape_of;
  only_for_a_value = λ text line. only_of_values (lines_of_text text) (shape_of text) line;
}

use Rattle.notation.proofs.Trees.{terms_meant, types_meant}
use Rattle.notation.proofs.promises.trees_are_those_of_the_calculus.Goals as goal

pub returns : goal.returns
returns c = record { types = types_meant; terms = terms_meant }

-- Whether a term goes on, as the search says it, in the words of what is found.
use Rattle.std.specs.Prelude.{None, Some}
use Rattle.finder.specs.Search.{Found}
use Rattle.finder.specs.declared.finder.Progress.{Progress}
use Rattle.finder.specs.declared.finder.Progress.TheVariants.{Value, Step, Stuck}

abbrev pub found_of : Progress → Found
found_of Value = None
found_of (Step rule cell) = Some (cell, Some rule)
found_of (Stuck cell) = Some (cell, None)

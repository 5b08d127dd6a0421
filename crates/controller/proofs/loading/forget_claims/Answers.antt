use Rattle.std.proofs.Common.{rules}
use Rattle.std.proofs.lemmas.List.Edits.{map_over_more}
use Rattle.std.proofs.lemmas.List.{take_all, drop_all}
use Rattle.controller.specs.Shots.{claiming_nothing}
use Rattle.controller.proofs.loading.forget_claims.Goals as goal

pub loop-cell-preserved : goal.loop-cell-preserved
loop-cell-preserved c = search (rules, map_over_more claiming_nothing)

pub returns : goal.returns
returns c = search (rules, take_all, drop_all)

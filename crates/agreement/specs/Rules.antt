-- The rules of one finder under the names of the other.
use Rattle.second.specs.declared.seeks.SecondRule.{SecondRule}
use Rattle.second.specs.declared.seeks.SecondRule.TheVariants as second_rule
use Rattle.finder.specs.declared.rules.Rule.{Rule}
use Rattle.finder.specs.declared.rules.Rule.TheVariants.{Function, Pair, Then, Else}
use Rattle.finder.specs.declared.rules.Rule.TheVariants.{Prepare, Read, Gates}

abbrev pub renamed_rule : Rule → SecondRule
renamed_rule Function = second_rule.Function
renamed_rule Pair = second_rule.Pair
renamed_rule Then = second_rule.Then
renamed_rule Else = second_rule.Else
renamed_rule Prepare = second_rule.Prepare
renamed_rule Read = second_rule.Read
renamed_rule Gates = second_rule.Gates

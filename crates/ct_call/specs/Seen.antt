-- A rule as it stands in memory is seen without the places of its boxes.
use Rattle.ct_call.specs.Rules as it
use Rattle.ct_call.specs.declared.rule.Rule.{Rule}
use Rattle.ct_call.specs.declared.rule.Rule.TheVariants.{Old, Arg, Join', Cut'}

abbrev pub seen : Rule → it.Rule
seen Old = it.Old
seen Arg = it.Arg
seen (Join' p first q second) = it.Join (seen first) (seen second)
seen (Cut' count p of) = it.Cut count (seen of)

-- The middle of a step, by cases on its answer.
use Rattle.std.specs.Prelude.{◌≡◌, true, Result, Ok, Err}
use Rattle.ct_rules_node.specs.Turn.{Turn}
use Rattle.ct_node_plan.specs.Handed.{CoreFault}
use Rattle.ct_node_plan.specs.Handed.{Exhausted, NoMemory}

-- the step comes to what the rule makes of it. It is refused for a number exactly where the rule reaches 2^62 with one
abbrev pub Comes : Result Turn CoreFault → Turn → Type 0
Comes (Ok t) rule = t ≡ rule
Comes (Err Exhausted) rule = rule.spent ≡ true
Comes (Err NoMemory) rule = Unit {0}

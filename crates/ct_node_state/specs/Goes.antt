-- A part of a step, by cases on its answer.
use Rattle.std.specs.Prelude.{◌≡◌, true, Result, Ok, Err}
use Rattle.ct_rules_node.specs.Turn.{Turn}
use Rattle.ct_node_state.specs.declared.turn.CoreFault.{CoreFault}
use Rattle.ct_node_state.specs.declared.turn.CoreFault.TheVariants.{Exhausted, NoMemory}

-- the step goes on with what the rule makes of it. It is refused for a number exactly where the rule reaches 2^62 with one
abbrev pub Goes : Result (Unit {0}) CoreFault → Turn → Turn → Type 0
Goes (Ok u) rule new = new ≡ rule
Goes (Err Exhausted) rule new = rule.spent ≡ true
Goes (Err NoMemory) rule new = Unit {0}

use Rattle.ct_node_plan_records.proofs.Walking.{IsWalked}
use Rattle.ct_node_plan_records.proofs.vacuums.vacuum_keys.Given as goal

-- what is looked at so far and what is left make what all makes
abbrev pub invariant-loop-key : goal.invariant-loop-key
invariant-loop-key l = IsWalked l.config l.me l.db l.node l.fn.keys.items l.walk l.key-iterator.rest.items

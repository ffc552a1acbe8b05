use Rattle.std.proofs.Common.{◌≡◌, ◌++◌}
use Rattle.std.specs.Prelude.{map}
use Rattle.ct_rules_node.specs.Rounds.{mastered}
use Rattle.ct_lead.proofs.leader.all_mastered.Given as goal

-- the rows that are done and those that are left, with the leader where they have no data master
abbrev pub invariant-loop-row : goal.invariant-loop-row
invariant-loop-row l = l.all.items ++ map (mastered l.me) l.row-iterator.rest.items ≡ map (mastered l.me) l.initial.row-iterator.rest.items

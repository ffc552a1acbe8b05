use Rattle.std.proofs.Common.{◌≡◌, drop}
use Rattle.ct_rules_node.specs.Turn.{posts_all}
use Rattle.ct_node_state.proofs.turn.Turn.posts_all.Given as goal

-- what is sent so far and to the rest is what is sent to all
abbrev pub invariant-loop-node : goal.invariant-loop-node
invariant-loop-node l = posts_all l.generation l.me (drop l.node-index l.nodes) l.msg l.self ≡ posts_all l.generation l.me l.nodes l.msg l.initial.self

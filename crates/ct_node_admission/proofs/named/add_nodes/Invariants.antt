use Rattle.std.proofs.Common.{◌≡◌, ◌++◌, drop}
use Rattle.ct_rules_node.specs.Admission.{nodes_in}
use Rattle.ct_node_admission.proofs.named.add_nodes.Given as goal

-- the nodes of the addresses before and of those that are left
abbrev pub invariant-loop-x : goal.invariant-loop-x
invariant-loop-x l = l.nodes.items ++ nodes_in (drop l.x-index l.assigned) ≡ l.initial.nodes.items ++ nodes_in l.assigned

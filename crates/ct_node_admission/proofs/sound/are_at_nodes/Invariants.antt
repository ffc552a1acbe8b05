use Rattle.std.proofs.Common.{◌≡◌, drop}
use Rattle.std.specs.Prelude.{nat_lt}
use Rattle.std.specs.List.{list_all}
use Rattle.ct_rules_node.specs.Admission.{nodes_in}
use Rattle.ct_node_admission.proofs.sound.are_at_nodes.Given as goal

-- the addresses before are assigned to nodes
abbrev pub invariant-loop-x : goal.invariant-loop-x
invariant-loop-x l = list_all (λ n. nat_lt n l.config.nodes) (nodes_in (drop l.x-index l.assigned)) ≡ list_all (λ n. nat_lt n l.config.nodes) (nodes_in l.assigned)

use Rattle.std.proofs.Common.{◌≡◌, ◌++◌, drop}
use Rattle.ct_rules_node.specs.Node.{assigned_all}
use Rattle.ct_node_state.proofs.placing.assigned_all.Given as goal

-- the addresses that are done and those that are left, each with its node
abbrev pub invariant-loop-address : goal.invariant-loop-address
invariant-loop-address l = l.all.items ++ assigned_all (drop l.address-index l.addresses) l.assigned ≡ assigned_all l.addresses l.assigned

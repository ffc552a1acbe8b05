use Rattle.std.proofs.Common.{◌≡◌, drop}
use Rattle.ct_rules_node.specs.Node.{holder_in}
use Rattle.ct_node_state.proofs.placing.holder_in.Given as goal

-- no address before is this one
abbrev pub invariant-loop-x : goal.invariant-loop-x
invariant-loop-x l = holder_in l.address (drop l.x-index l.assigned) ≡ holder_in l.address l.assigned

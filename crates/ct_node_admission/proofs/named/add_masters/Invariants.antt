use Rattle.std.proofs.Common.{◌≡◌, ◌++◌, drop}
use Rattle.ct_rules_node.specs.Admission.{masters_in}
use Rattle.ct_node_admission.proofs.named.add_masters.Given as goal

-- the masters of the rows before and of those that are left
abbrev pub invariant-loop-row : goal.invariant-loop-row
invariant-loop-row l = l.nodes.items ++ masters_in (drop l.row-index l.table) ≡ l.initial.nodes.items ++ masters_in l.table

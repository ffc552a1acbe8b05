use Rattle.std.proofs.Common.{◌≡◌, ◌≤◌, map}
use Rattle.std.specs.List.{range_with_len}
use Rattle.ct_bus_run.specs.Generated.{generated_by, generated_to}
use Rattle.ct_bus_run.proofs.generated.generated_row.Given as goal

-- what the node has for the nodes below this one
abbrev pub invariant-loop-receiver : goal.invariant-loop-receiver
invariant-loop-receiver l = (l.receiver ≤ l.wanted.nodes) × (l.row ≡ map (generated_to (generated_by l.wanted l.sender) l.sender) (range_with_len 0 l.receiver))

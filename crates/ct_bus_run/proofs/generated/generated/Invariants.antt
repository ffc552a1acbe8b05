use Rattle.std.proofs.Common.{◌≡◌, ◌≤◌, map}
use Rattle.std.specs.List.{range_with_len}
use Rattle.ct_bus_run.specs.Generated.{generated_row}
use Rattle.ct_bus_run.proofs.generated.generated.Given as goal

-- what the nodes below this one have
abbrev pub invariant-loop-sender : goal.invariant-loop-sender
invariant-loop-sender l = (l.sender ≤ l.wanted.nodes) × (l.all.items ≡ map (generated_row l.wanted) (range_with_len 0 l.sender))

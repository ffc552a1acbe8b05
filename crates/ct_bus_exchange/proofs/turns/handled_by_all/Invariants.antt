use Rattle.std.proofs.Common.{◌≡◌, ◌≤◌, length, map}
use Rattle.std.specs.List.{range_with_len}
use Rattle.ct_bus_exchange.specs.Exchange.{exchanged_for}
use Rattle.ct_bus_exchange.specs.Shown.{handled_by}
use Rattle.ct_bus_exchange.proofs.turns.handled_by_all.Given as goal

-- what the nodes below this one handle
abbrev pub invariant-loop-receiver : goal.invariant-loop-receiver
invariant-loop-receiver g l = (l.receiver ≤ length l.scripts) × (l.all.items ≡ map (λ r. exchanged_for (handled_by l.handlers) r l.scripts) (range_with_len 0 l.receiver))

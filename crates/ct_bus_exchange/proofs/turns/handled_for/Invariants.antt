use Rattle.std.proofs.Common.{◌≡◌, take}
use Rattle.ct_bus_exchange.specs.Exchange.{exchanged_for}
use Rattle.ct_bus_exchange.specs.Shown.{handled_by}
use Rattle.ct_bus_exchange.proofs.turns.handled_for.Given as goal

-- what the node handles of the senders so far
abbrev pub invariant-loop-row : goal.invariant-loop-row
invariant-loop-row g l = l.all ≡ exchanged_for (handled_by l.handlers) l.receiver (take l.row-index l.scripts)

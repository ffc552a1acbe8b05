use Rattle.std.proofs.Common.{◌≡◌, ◌≤◌, length, map}
use Rattle.ct_bus.specs.Opening.{AreColumns, AreRows}
use Rattle.ct_bus.specs.Seats.{receiving, sending}
use Rattle.ct_bus.proofs.bus.Bus.new.Given as goal

-- the rows of the nodes below this one are there, with their ends
abbrev pub invariant-loop-sender : goal.invariant-loop-sender
invariant-loop-sender g l = record {
  below : l.sender ≤ l.nodes;
  count : length l.rows ≡ l.sender;
  rows : AreRows l.nodes l.rows (map sending l.senders.items);
  columns : AreColumns l.nodes l.rows (map receiving l.receivers.items);
}

use Rattle.std.proofs.Common.{◌≡◌, ◌≤◌, length, map}
use Rattle.ct_bus.specs.Ends.{into_queue, out_queue, posted_to, taken_from}
use Rattle.ct_bus.specs.Opening.{nothing}
use Rattle.ct_bus.proofs.opening.new_row.Given as goal

-- the queues to the nodes below this one are there, with their ends
abbrev pub invariant-loop-receiver : goal.invariant-loop-receiver
invariant-loop-receiver l = record {
  below : l.receiver ≤ l.nodes;
  count : length l.lines ≡ l.receiver;
  into : map into_queue l.posts.items ≡ l.lines;
  posted : map posted_to l.posts.items ≡ nothing l.lines;
  out : map out_queue l.takes.items ≡ l.lines;
  taken : map taken_from l.takes.items ≡ nothing l.lines;
}

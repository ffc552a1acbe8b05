use Rattle.std.proofs.Common.{◌≡◌, take}
use Rattle.ct_bus_threads.proofs.seats.copies.Given as goal

abbrev pub invariant-loop-message : goal.invariant-loop-message
invariant-loop-message l = l.all.items ≡ take l.message-index l.messages

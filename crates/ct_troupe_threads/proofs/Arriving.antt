-- All has arrived in the journals of threads.
use Rattle.std.proofs.Common.{List}
use Rattle.ct_journal.specs.declared.journal.Journal.{Journal}
use Rattle.ct_troupe_threads.specs.Threaded.{AreSettled}
use Rattle.ct_troupe.specs.Stages.{AllHaveArrived}

pub settled_arrived : (js : List Journal) → AreSettled js → AllHaveArrived js
settled_arrived js h = h.arrived

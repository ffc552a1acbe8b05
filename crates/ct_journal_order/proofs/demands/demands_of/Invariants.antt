use Rattle.std.proofs.Common.{List, ◌++◌, drop}
use Rattle.ct_journal_order.specs.Demands.{AreWaited}
use Rattle.ct_journal_order.specs.declared.demand.Demand.{Demand}
use Rattle.ct_journal_order.proofs.demands.demands_of.Given as goal

abbrev pub invariant-loop-entry : goal.invariant-loop-entry
invariant-loop-entry l = (more : List Demand) → AreWaited l.node (drop l.entry-index l.entries) l.letters.items more → AreWaited l.node l.entries l.initial.letters.items (l.demands.items ++ more)

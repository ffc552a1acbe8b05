use Rattle.std.specs.Prelude.{map}
use Rattle.std.specs.Map.Iter.{deref_pair}
use Rattle.ct_rules_node.specs.Rounds.{changed}
use Rattle.ct_node_database.specs.Sweeps.{swept}
use Rattle.ct_node_database.proofs.Sweeping.{IsFilling}
use Rattle.ct_node_database.proofs.database.Database.fill.Given as goal

abbrev pub invariant-loop-key : goal.invariant-loop-key
invariant-loop-key l = IsFilling (swept l.sweep) l.initial.self (changed (swept l.sweep) l.records) l.self (map deref_pair l.key-iterator.rest.items)

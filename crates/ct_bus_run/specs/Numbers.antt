-- What is to be exchanged.
use Rattle.std.specs.Prelude.{◌≤◌}
use Rattle.ct_bus_run.specs.declared.generated.BusWanted.{BusWanted}

-- its numbers are in their range
pub record HasExchangeRange (x : BusWanted) : Type 0 where
  pub some_nodes : 2 ≤ x.nodes
  pub few_nodes : x.nodes ≤ 8
  pub some_messages : 1 ≤ x.messages
  pub few_messages : x.messages ≤ 1000

-- What a node's placement is of.
use Rattle.std.specs.Prelude.{◌≡◌, ℕ, List, map}
use Rattle.ct_values.specs.declared.config.Config.{Config}
use Rattle.ct_frame.specs.declared.event.Event.{Event}
use Rattle.ct_call.specs.Rules.{Rules}
use Rattle.ct_rules_node.specs.Node.{Node, opening, restarted}
use Rattle.ct_rules_node.specs.Steps.{happens}
use Rattle.ct_rules_node.specs.Turn.{Turn}

-- the placement is of the addresses of the configuration
abbrev pub IsPlaced : Config → Node → Type 0
IsPlaced c n = map (λ x. x.address) n.placement ≡ c.addresses

-- so it is at the opening
abbrev pub OpensPlaced : Type 0
OpensPlaced = (c : Config) (members : List ℕ) → IsPlaced c (opening c members)

-- so it is after a stop
abbrev pub RestartsPlaced : Type 0
RestartsPlaced = (c : Config) (n : Node) → IsPlaced c (restarted c n)

-- so it stays, whatever comes
abbrev pub StaysPlaced : Type 0
StaysPlaced = (c : Config) (rules : Rules) (me : ℕ) (t : Turn) (e : Event) → IsPlaced c t.node → IsPlaced c (happens c rules me t e).node

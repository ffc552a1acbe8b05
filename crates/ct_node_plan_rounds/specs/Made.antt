-- What a round makes of addresses.
use Rattle.std.specs.Prelude.{List, [], Option, None, Some}
use Rattle.ct_values.specs.declared.config.Config.{Config}
use Rattle.ct_frame.specs.declared.frame.Assigned.{Assigned}
use Rattle.ct_frame.specs.declared.round.PushBody.{PushBody}
use Rattle.ct_rules_node.specs.Node.{assigned_all}

-- where what is pushed puts each address of the configuration
abbrev pub made_by : Config → Option PushBody → List Assigned
made_by c None = []
made_by c (Some b) = assigned_all c.addresses b.assigned

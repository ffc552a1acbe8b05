-- Every step leaves a node in form, and every message that it sends keeps its rules.
use Rattle.std.specs.Prelude.{◌≡◌, ℕ, true, List, Ok, Some}
use Rattle.std.specs.List.{list_all}
use Rattle.ct_values.specs.declared.address.Address.{Address}
use Rattle.ct_values.specs.Config.{Configures}
use Rattle.ct_values.specs.declared.config.Config.{Config}
use Rattle.ct_values.specs.declared.config.DbDecl.{DbDecl}
use Rattle.ct_frame.specs.declared.event.Event.{Event}
use Rattle.ct_call.specs.Rules.{Rules}
use Rattle.ct_rules_cluster.specs.Cluster.{everyone}
use Rattle.ct_rules_node.specs.Coming.{may_come}
use Rattle.ct_rules_node.specs.Node.{Node, opening}
use Rattle.ct_rules_node.specs.Steps.{happens, stepped}
use Rattle.ct_rules_node.specs.Turn.{Turn}
use Rattle.ct_law_form.specs.Whole.{KeepsInForm, NodeInForm, is_node_of, is_sound_out}

-- whatever may come leaves a turn in form, where no number reaches 2^62
abbrev pub HappensInForm : Type 0
HappensInForm = (c : Config) (rules : Rules) (me : ℕ) (t : Turn) (e : Event) → may_come c me t.node e ≡ true → KeepsInForm c me t (happens c rules me t e)

-- A whole step of what may come at a node in form: the node is in form, and what it does is sound; so each frame that it sends
-- keeps the rules of its fields, has this node as its sender, and a node as its receiver
abbrev pub StepsKeepForm : Type 0
StepsKeepForm = (c : Config) (rules : Rules) (me : ℕ) (e : Event) (n : Node) (t : Turn) →
    NodeInForm c me n → may_come c me n e ≡ true → stepped c rules me e n ≡ Some t → NodeInForm c me t.node × (list_all (is_sound_out c me) t.outs ≡ true)

-- every node of a configuration is in form at the opening, in generation 1 of all nodes
abbrev pub EveryoneOpensInForm : Type 0
EveryoneOpensInForm = (c : Config) (dbs : List DbDecl) (addresses : List Address) (me : ℕ) → Configures (Ok c) c.nodes dbs addresses → is_node_of c me ≡ true → NodeInForm c me (opening c (everyone c))

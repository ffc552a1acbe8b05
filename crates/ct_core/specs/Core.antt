-- One node as a machine, and what its steps are.
use Rattle.std.specs.Prelude.{◌≡◌, ℕ, false, true, List, Option, None, Some, Result, Ok, Err}
use Rattle.ct_values.specs.declared.config.Config.{Config}
use Rattle.ct_frame.specs.declared.event.Event.{Event}
use Rattle.ct_frame.specs.declared.event.Out.{Out}
use Rattle.ct_call.specs.Rules.{Rules}
use Rattle.ct_law_form.specs.Whole.{NodeInForm}
use Rattle.ct_law_form_cluster.specs.Placed.{IsPlaced}
use Rattle.ct_node_plan.specs.Changes.{CanChange, changed_by}
use Rattle.ct_node_plan.specs.declared.change.Change.{Change}
use Rattle.ct_node_plan.specs.declared.change.Planned.{Planned}
use Rattle.ct_rules_node.specs.Coming.{may_come}
use Rattle.ct_rules_node.specs.Node.{Node}
use Rattle.ct_rules_node.specs.Steps.{stepped}
use Rattle.ct_rules_node.specs.Turn.{Turn}
use Rattle.ct_node_state.specs.declared.turn.CoreFault.{CoreFault}
use Rattle.ct_node_state.specs.declared.turn.CoreFault.TheVariants.{Exhausted, NoMemory}

-- a node with its number and its configuration
pub record Core : Type 0 where
  pub pnn : ℕ
  pub config : Config
  pub node : Node

-- In form: the node is, and it knows the places of exactly the addresses of the configuration
pub record CoreInForm (x : Core) : Type 0 where
  pub node : NodeInForm x.config x.pnn x.node
  pub placed : IsPlaced x.config x.node

-- ---- plans

-- what a plan leaves of the node, and what it does
abbrev pub turn_of : Planned → Node → Turn
turn_of p n = record { node = changed_by p.change n; outs = p.outs; spent = false }

-- A plan of a step, by cases on the answer: the rule gives exactly what was planned, or none, or memory was wanting
abbrev pub PlansStep : Result Planned CoreFault → Option Turn → Node → Type 0
PlansStep (Ok p) rule n = rule ≡ Some (turn_of p n)
PlansStep (Err Exhausted) rule n = rule ≡ None
PlansStep (Err NoMemory) rule n = Unit {0}

-- a plan is of the core as it stands: it is the step of an event that may come there
pub record IsPlanOf (x : Core) (p : Planned) : Type 0 where
  pub rules : Rules
  pub event : Event
  pub coming : may_come x.config x.pnn x.node event ≡ true
  pub steps : stepped x.config rules x.pnn event x.node ≡ Some (turn_of p x.node)
  pub can : CanChange p.change x.node

-- a change is of the core as it stands: a plan of it has that change
abbrev pub IsChangeOf : Core → Change → Type 0
IsChangeOf x change = (outs : List Out) × IsPlanOf x (record { change = change; outs = outs })

-- ---- steps

-- A step, by cases on the answer: the rule gives exactly the new state of the node and what was done; or none, where a number
-- would reach 2^62, or memory was wanting, and then nothing is changed
abbrev pub Steps : {X : Type 0} → (X → List Out) → Result X CoreFault → Option Turn → Core → Core → Type 0
Steps outs (Ok x) rule old new = (rule ≡ Some (record { node = new.node; outs = outs x; spent = false })) × (new ≡ record old { node = new.node })
Steps outs (Err Exhausted) rule old new = (rule ≡ None) × (new ≡ old)
Steps outs (Err NoMemory) rule old new = new ≡ old

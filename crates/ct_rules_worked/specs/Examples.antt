-- The words of the worked runs: each is a configuration, its steps and all that is printed.
use Rattle.std.specs.Prelude.{◌≡◌, ℕ, List, [], ◌∷◌, map, Option, None, Some, Result, Ok, Err}
use Rattle.ct_values.specs.declared.config.Config.{Config}
use Rattle.ct_values.specs.declared.config.DbDecl.{DbDecl}
use Rattle.ct_values.specs.declared.config.DbKind.{DbKind}
use Rattle.ct_call.specs.Rules.{Rules, Old, Arg, Join}
use Rattle.ct_frame.specs.declared.frame.Msg.{Msg}
use Rattle.ct_rules.specs.declared.state.RecState.{RecState}
use Rattle.ct_rules_node.specs.Node.{state_at}
use Rattle.ct_rules_cluster.specs.Cluster.{Cluster, opening, node_at}
use Rattle.ct_rules_cluster.specs.Steps.{Stepped, applied}
use Rattle.ct_rules_cluster.specs.Traces.{ran}
use Rattle.ct_rules_cluster.specs.declared.step.Line.{Line}
use Rattle.ct_rules_cluster.specs.declared.step.Line.TheVariants as line
use Rattle.ct_rules_cluster.specs.declared.step.Step.{Step}
use Rattle.ct_rules_cluster.specs.declared.step.StepFault.{StepFault}

-- the functions that the program has
abbrev pub three_rules : Rules
three_rules = (1, Join Old Arg) ∷ (2, Arg) ∷ (3, Old) ∷ []

-- a database of this name and kind
abbrev pub a_db : List ℕ → DbKind → DbDecl
a_db name kind = record { name = name; kind = kind }

-- a line of a message, in the order in which it is printed: its number, sender, receiver and generation, and then the message
abbrev pub sent : ℕ → ℕ → ℕ → ℕ → Msg → Line
sent number sender receiver generation msg = line.Sent number (record { generation = generation; sender = sender; receiver = receiver; msg = msg })

-- from the opening, these steps print exactly these lines
abbrev pub Prints : Config → List Step → List Line → Type 0
Prints c steps lines = (ran c three_rules (opening c) [] steps).lines ≡ lines

-- from the opening, these steps leave this of a record at a node
abbrev pub Keeps : Config → List Step → ℕ → ℕ → List ℕ → RecState → Type 0
Keeps c steps n db key state = state_at db key (node_at n (ran c three_rules (opening c) [] steps).cluster) ≡ state

-- why a step is refused, where it is
abbrev pub fault_in : Result Stepped StepFault → Option StepFault
fault_in (Ok s) = None
fault_in (Err f) = Some f

-- what each of these steps is refused for in a cluster
abbrev pub faults : Config → Cluster → List Step → List (Option StepFault)
faults c w [] = []
faults c w (s ∷ ss) = fault_in (applied c three_rules w s) ∷ faults c w ss

-- from the opening and after these steps, each of these steps is refused with the fault beside it
abbrev pub Refuses : Config → List Step → List (Step × StepFault) → Type 0
Refuses c steps tried = faults c (ran c three_rules (opening c) [] steps).cluster (map (λ x. x.0) tried) ≡ map (λ x. Some x.1) tried

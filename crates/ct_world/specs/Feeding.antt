-- A step of the cluster that is not refused: what its parts are asked, and what a node that takes an event does to them.
use Rattle.std.specs.Prelude.{◌≡◌, ℕ, ◌^◌, ◌+◌, ◌<◌, ◌≤◌, nat_lt, true, Bool, ◌&&◌, List, [], ◌∷◌, ◌++◌, length, map, slice_get, Option, None, Some, Result, Ok, Err}
use Rattle.ct_call.specs.Rules.{Rules}
use Rattle.ct_rules_cluster.specs.Cluster.{Cluster}
use Rattle.ct_rules_cluster.specs.Faults.{fault_of, is_allowed}
use Rattle.ct_rules_cluster.specs.Steps.{fed, frames_of, lines_of, steps}
use Rattle.ct_rules_cluster.specs.declared.step.Line.{Line}
use Rattle.ct_rules_cluster.specs.declared.step.Step.{Step}
use Rattle.ct_rules_cluster.specs.declared.step.StepFault.{StepFault}
use Rattle.ct_rules_cluster.specs.declared.step.StepFault.TheVariants.{Exhausted, NoMemory}
use Rattle.ct_core.specs.Core.{Core, IsPlanOf, turn_of}
use Rattle.ct_frame.specs.declared.event.Event.{Event}
use Rattle.ct_frame.specs.declared.event.Out.{Out}
use Rattle.ct_frame.specs.declared.frame.Frame.{Frame}
use Rattle.ct_mail.specs.Mail.{posted}
use Rattle.ct_node_plan.specs.declared.change.Planned.{Planned}
use Rattle.ct_rules_node.specs.Steps.{stepped}
use Rattle.ct_rules_node.specs.Turn.{Turn}
use Rattle.ct_world.specs.World.{Applies, PartsInForm, cluster_of, world_of}
use Rattle.ct_world.specs.declared.parts.Told.{Told}
use Rattle.ct_world.specs.declared.parts.Books.{Books}
use Rattle.ct_world.specs.declared.parts.Parts.{Parts}

-- what is asked of a step: it is allowed and not refused, and the parts are in form
pub record MayTake (s : Step) (p : Parts) : Type 0 where
  pub form : PartsInForm p
  pub allowed : is_allowed s ≡ true
  pub free : fault_of p.config (cluster_of p) s ≡ None

-- a step that is not refused, by cases on the answer
abbrev pub Takes : {X : Type 0} → (X → List Line) → Result X StepFault → Rules → Step → Parts → Parts → Type 0
Takes lines r rules s old new = Applies lines r (steps old.config rules (cluster_of old) s) (world_of old) (world_of new)

-- the cluster with these books
abbrev pub booked : Books → Cluster → Cluster
booked b w = record w { holder = b.holder; ticket = b.ticket; calls = b.calls }

-- Numbers: so many messages, and these books, stay below 2^62
abbrev pub is_counted_with : ℕ → Books → Bool
is_counted_with n b = nat_lt n (2 ^ 62) && nat_lt b.ticket (2 ^ 62) && nat_lt b.calls (2 ^ 62)

-- What one thing that a node does becomes, by cases on the answer: its line is added and its message, and the number of the next
-- message is answered, which is at most 2^62; or its own would be 2^62, or memory was wanting
abbrev pub TellsOne : Result ℕ StepFault → ℕ → ℕ → Out → List Line → List Line → List Frame → List Frame → Type 0
TellsOne (Ok next) node number out lines more frames sent =
    (more ≡ lines ++ lines_of node number (out ∷ [])) × (map posted sent ≡ map posted frames ++ frames_of (out ∷ [])) × (next ≡ number + length (frames_of (out ∷ []))) × (next ≤ 2 ^ 62)
TellsOne (Err NoMemory) node number out lines more frames sent = Unit {0}
TellsOne (Err f) node number out lines more frames sent = (f ≡ Exhausted) × (2 ^ 62 < number + length (frames_of (out ∷ [])))

-- What a node's step becomes, by cases on the answer: its lines and its messages, whose numbers stay below 2^62; or one would
-- reach it, or memory was wanting
abbrev pub TellsAll : Result Told StepFault → ℕ → ℕ → List Line → List Out → Type 0
TellsAll (Ok t) node first own outs = (t.lines.items ≡ own ++ lines_of node first outs) × (map posted t.frames ≡ frames_of outs) × (first + length (frames_of outs) ≤ 2 ^ 62)
TellsAll (Err NoMemory) node first own outs = Unit {0}
TellsAll (Err f) node first own outs = (f ≡ Exhausted) × (2 ^ 62 < first + length (frames_of outs))

-- A plan of a node's step, by cases on the answer: the rule gives exactly what was planned, or none, or memory was wanting
abbrev pub PlansAt : Result Planned StepFault → Option Turn → Core → Type 0
PlansAt (Ok p) rule x = (rule ≡ Some (turn_of p x.node)) × IsPlanOf x p
PlansAt (Err NoMemory) rule x = Unit {0}
PlansAt (Err f) rule x = (f ≡ Exhausted) × (rule ≡ None)

-- What was planned of a node is carried out, by cases on the answer: whatever event and rules it is planned of, the rule of the
-- cluster gives exactly the new parts and the lines, or it refuses so, or memory was wanting, and then nothing is changed
abbrev pub CarriesOut : {X : Type 0} → (X → List Line) → Result X StepFault → ℕ → Planned → List Line → Books → Parts → Parts → Type 0
CarriesOut lines r n p own b old new =
    (rules : Rules) (e : Event) → ((x : Core) → slice_get old.cores n ≡ Some x → stepped x.config rules x.pnn e x.node ≡ Some (turn_of p x.node)) → Applies lines r (fed old.config rules n e own (booked b (cluster_of old))) (world_of old) (world_of new)

-- Schedules: steps of the cluster that give each node exactly the entries of its journal.
use Rattle.std.specs.Prelude.{◌≡◌, ℕ, ◌+◌, ◌<◌, nat_eq, Bool, true, false, ◌&&◌, if◌then◌else◌, List, [], ◌∷◌, ◌++◌, map, Option, None, Some, Result, Ok, Err}
use Rattle.std.specs.List.{list_any}
use Rattle.ct_values.specs.declared.client.Answer.{Answer}
use Rattle.ct_values.specs.declared.client.Answer.TheVariants as answer
use Rattle.ct_values.specs.declared.client.Why.{Why}
use Rattle.ct_values.specs.declared.client.Why.TheVariants as why
use Rattle.ct_values.specs.declared.config.Config.{Config}
use Rattle.ct_call.specs.Rules.{Rules}
use Rattle.ct_frame.specs.declared.event.Event.{Event}
use Rattle.ct_frame.specs.declared.event.Event.TheVariants as event
use Rattle.ct_frame.specs.declared.event.Out.{Out}
use Rattle.ct_frame.specs.declared.event.Out.TheVariants as out
use Rattle.ct_rules_node.specs.Steps.{stepped}
use Rattle.ct_rules_node.specs.Turn.{Turn}
use Rattle.ct_rules_cluster.specs.Cluster.{Cluster, Sent, able_from, node_at, opening, sent_at}
use Rattle.ct_rules_cluster.specs.Faults.{is_allowed}
use Rattle.ct_rules_cluster.specs.Steps.{Stepped, applied}
use Rattle.ct_rules_cluster.specs.declared.step.Step.{Step}
use Rattle.ct_rules_cluster.specs.declared.step.Step.TheVariants as step
use Rattle.ct_rules_cluster.specs.declared.step.StepFault.{StepFault}
use Rattle.ct_journal.specs.Order.{entries_of}
use Rattle.ct_journal.specs.declared.journal.Journal.{Journal}
use Rattle.ct_journal.specs.declared.journal.JournalEntry.{JournalEntry}

-- ---- what a step gives to a node

-- an event that is given to a node
pub record Given : Type 0 where
  pub node : ℕ
  pub event : Event

-- an entry of a node's journal
pub record Noted : Type 0 where
  pub node : ℕ
  pub entry : JournalEntry

-- a message is given to its receiver
unfoldable pub arrival_of : Option Sent → List Given
arrival_of None = []
arrival_of (Some s) = record { node = s.frame.receiver; event = event.Arrive s.frame } ∷ []

-- Schedules: what a step that is taken gives to a node, where it gives it something; no node is down
unfoldable pub given_by : Cluster → Step → List Given
given_by w (step.Client n o) = record { node = n; event = event.Client (w.calls + 1) o } ∷ []
given_by w (step.Deliver k) = arrival_of (sent_at k w)
given_by w (step.Repeat k) = arrival_of (sent_at k w)
given_by w (step.Retry n) = record { node = n; event = event.Retry } ∷ []
given_by w (step.Vacuum n db) = record { node = n; event = event.Vacuum db } ∷ []
given_by w (step.Recover n members) = record { node = n; event = event.BeginRound (w.ticket + 1) members } ∷ []
given_by w (step.Takeover n) = record { node = n; event = event.BeginTakeover (able_from 0 w.able) } ∷ []
given_by w (step.Drop k) = []
given_by w (step.Yield n) = []
given_by w (step.Able n able) = []
given_by w (step.Stop n) = []
given_by w (step.Start n) = []

-- what the node does then
unfoldable pub outs_in : Option Turn → List Out
outs_in None = []
outs_in (Some t) = t.outs

-- the entry that this makes in the node's journal
unfoldable pub noted_of : Config → Rules → Cluster → Given → Noted
noted_of c rules w g = record { node = g.node; entry = record { event = g.event; outs = outs_in (stepped c rules g.node g.event (node_at g.node w)) } }

-- ---- schedules

-- does the step stop or start no node?
unfoldable pub keeps_all_up : Step → Bool
keeps_all_up (step.Stop n) = false
keeps_all_up (step.Start n) = false
keeps_all_up s = true

-- the cluster after a step that was taken
unfoldable pub cluster_in : Result Stepped StepFault → Option Cluster
cluster_in (Ok s) = Some s.cluster
cluster_in (Err f) = None

-- the cluster after a step of a schedule: it stops and starts no node, is as it is asked to be, and is not refused
unfoldable pub after_step : Config → Rules → Cluster → Step → Option Cluster
after_step c rules w s = if keeps_all_up s && is_allowed s then cluster_in (applied c rules w s) else None

-- these entries, and then those, where there are those
unfoldable pub with_made : List Noted → Option (List Noted) → Option (List Noted)
with_made xs None = None
with_made xs (Some ys) = Some (xs ++ ys)

-- nothing is made in a cluster
unfoldable pub none_made : Option Cluster → Option (List Noted)
none_made None = None
none_made (Some w) = Some []

-- Schedules: the entries that these steps make from a cluster on, one after the other; none where one of them is not taken
unfoldable pub made_by : Config → Rules → Option Cluster → List Step → Option (List Noted)
made_by c rules o [] = none_made o
made_by c rules None (s ∷ ss) = None
made_by c rules (Some w) (s ∷ ss) = with_made (map (noted_of c rules w) (given_by w s)) (made_by c rules (after_step c rules w s) ss)

-- those of these entries that are of node n
unfoldable pub made_at : ℕ → List Noted → List JournalEntry
made_at n [] = []
made_at n (x ∷ xs) = if nat_eq x.node n then x.entry ∷ made_at n xs else made_at n xs

-- ---- numbers of calls

-- a refusal with other numbers of calls
unfoldable pub why_under : (ℕ → ℕ) → Why → Why
why_under number (why.CallPending call) = why.CallPending (number call)
why_under number w = w

-- an answer with other numbers of calls
unfoldable pub answer_under : (ℕ → ℕ) → Answer → Answer
answer_under number (answer.Refused w) = answer.Refused (why_under number w)
answer_under number a = a

-- what a node does, with other numbers of calls
unfoldable pub out_under : (ℕ → ℕ) → Out → Out
out_under number (out.Answer call a) = out.Answer (number call) (answer_under number a)
out_under number x = x

-- what comes to a node, with other numbers of calls
unfoldable pub event_under : (ℕ → ℕ) → Event → Event
event_under number (event.Client call o) = event.Client (number call) o
event_under number e = e

-- an entry with other numbers of calls
unfoldable pub entry_under : (ℕ → ℕ) → JournalEntry → JournalEntry
entry_under number x = record { event = event_under number x.event; outs = map (out_under number) x.outs }

-- is it the client call of this number?
unfoldable pub is_call : ℕ → Event → Bool
is_call call (event.Client n o) = nat_eq n call
is_call call _ = false

-- is this the number of a client call in these entries?
unfoldable pub has_call : ℕ → List JournalEntry → Bool
has_call call xs = list_any (λ x. is_call call x.event) xs

-- Schedules: entries are those of a journal once its calls have other numbers, which rise as the old ones do
pub record IsRenumbered (journal made : List JournalEntry) : Type 0 where
  pub number : ℕ → ℕ
  pub rises : (a b : ℕ) → has_call a journal ≡ true → has_call b journal ≡ true → a < b → number a < number b
  pub same : map (entry_under number) journal ≡ made

-- Schedules: steps are a schedule of journals where, from the opening, they make exactly the entries of each journal, in its
-- order, apart from the numbers of calls: each node counts its own, and the cluster counts all. The journal at place n is that
-- of node n.
pub record IsSchedule (c : Config) (rules : Rules) (js : List Journal) (ss : List Step) : Type 0 where
  pub made : List Noted
  pub takes : made_by c rules (Some (opening c)) ss ≡ Some made
  pub journals : (n : ℕ) → IsRenumbered (entries_of js n) (made_at n made)

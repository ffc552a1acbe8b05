-- Steps that make entries of journals one by one: which entry may be made next, and by which steps.
use Rattle.std.specs.Prelude.{◌≡◌, ℕ, ◌+◌, ◌<◌, ◌≤◌, nat_lt, Bool, true, false, List, [], ◌∷◌, ◌++◌, length, replicate, Option, None, Some}
use Rattle.std.specs.List.{list_all}
use Rattle.ct_values.specs.declared.config.Config.{Config}
use Rattle.ct_call.specs.Rules.{Rules}
use Rattle.ct_frame.specs.declared.event.Event.{Event}
use Rattle.ct_frame.specs.declared.event.Event.TheVariants as event
use Rattle.ct_rules_node.specs.Node.{is_among}
use Rattle.ct_rules_cluster.specs.Cluster.{Cluster, Fate, Waiting, Delivered, Dropped, Sent, is_waiting, opening, sent_at}
use Rattle.ct_rules_cluster.specs.Faults.{fault_of}
use Rattle.ct_rules_cluster.specs.declared.step.Step.{Step}
use Rattle.ct_rules_cluster.specs.declared.step.Step.TheVariants as step
use Rattle.ct_journal.specs.Order.{entries_of}
use Rattle.ct_journal.specs.Schedules.{IsRenumbered, Noted, after_step, has_call, made_at, made_by}
use Rattle.ct_journal.specs.declared.journal.Journal.{Journal}
use Rattle.ct_law_journal_schedule.specs.Scheduling.{yields}
use Rattle.ct_law_journal_reach.specs.Counts.{count_at, cut_to}

-- ---- what steps have made

-- Schedules: the cluster after these steps, and none where one of them is not taken
unfoldable pub after_steps : Config → Rules → Option Cluster → List Step → Option Cluster
after_steps c rules o [] = o
after_steps c rules None (s ∷ ss) = None
after_steps c rules (Some w) (s ∷ ss) = after_steps c rules (after_step c rules w s) ss

-- was the message not dropped?
unfoldable pub is_not_dropped : Fate → Bool
is_not_dropped Waiting = true
is_not_dropped Delivered = true
is_not_dropped Dropped = false

-- Schedules: steps have made so many entries of each journal: from the opening they lead to this cluster, and are a schedule of
-- the journals with so many entries. They drop no message.
pub record HasMade (c : Config) (rules : Rules) (js : List Journal) (ss : List Step) (w : Cluster) (ts : List ℕ) : Type 0 where
  pub made : List Noted
  pub takes : made_by c rules (Some (opening c)) ss ≡ Some made
  pub ends : after_steps c rules (Some (opening c)) ss ≡ Some w
  pub size : length ts ≡ length js
  pub within : (n : ℕ) → count_at ts n ≤ length (entries_of js n)
  pub journals : (n : ℕ) → IsRenumbered (entries_of (cut_to js ts) n) (made_at n made)
  pub kept : list_all (λ s. is_not_dropped s.fate) w.sent ≡ true

-- no entries
unfoldable pub no_counts : List Journal → List ℕ
no_counts js = replicate (length js) 0

-- ---- what may be made next

-- Schedules: an entry of node n with this event may be made next, once so many entries were made; where it is the arrival of a
-- message, k is the number of that message. A call has a greater number than those before it in its journal. A message was sent
-- and not dropped. A round has the ticket after the last one. A vacuum and a takeover run are not refused, and the nodes that
-- are able are nodes.
unfoldable pub MayGo : Config → List Journal → Cluster → List ℕ → ℕ → Event → ℕ → Type 0
MayGo c js w ts n (event.Client call o) k = (a : ℕ) → has_call a (entries_of (cut_to js ts) n) ≡ true → a < call
MayGo c js w ts n (event.Arrive m) k = (s : Sent) × (sent_at k w ≡ Some s) × (s.frame ≡ m) × (is_not_dropped s.fate ≡ true)
MayGo c js w ts n event.Retry k = Unit {0}
MayGo c js w ts n (event.Vacuum db) k = fault_of c w (step.Vacuum n db) ≡ None
MayGo c js w ts n (event.BeginRound ticket members) k = ticket ≡ w.ticket + 1
MayGo c js w ts n (event.BeginTakeover able) k = (list_all (λ m. nat_lt m c.nodes) able ≡ true) × (fault_of c w (step.Takeover n) ≡ None)

-- ---- the steps that make it

-- the step by which the message of this number comes: it is delivered where it waits, and else repeated
unfoldable pub comes_by : ℕ → Bool → Step
comes_by k true = step.Deliver k
comes_by k false = step.Repeat k

-- the step that gives node i this mark, where it has another
unfoldable pub mark_step : ℕ → Bool → Bool → List Step
mark_step i true true = []
mark_step i true false = step.Able i false ∷ []
mark_step i false true = step.Able i true ∷ []
mark_step i false false = []

-- the steps after which exactly these nodes are marked as able; i is the number of the first of these marks
unfoldable pub mark_steps : List ℕ → ℕ → List Bool → List Step
mark_steps able i [] = []
mark_steps able i (b ∷ bs) = mark_step i b (is_among i able) ++ mark_steps able (i + 1) bs

-- Schedules: the steps that make an entry of node n with this event, where k is the number of the message that arrives. Before
-- a round, another node that holds the recovery lock gives it back; before a takeover run, nodes are marked as able.
unfoldable pub steps_to_go : Cluster → ℕ → Event → ℕ → List Step
steps_to_go w n (event.Client call o) k = step.Client n o ∷ []
steps_to_go w n (event.Arrive m) k = comes_by k (is_waiting (sent_at k w)) ∷ []
steps_to_go w n event.Retry k = step.Retry n ∷ []
steps_to_go w n (event.Vacuum db) k = step.Vacuum n db ∷ []
steps_to_go w n (event.BeginRound ticket members) k = yields n w.holder ++ step.Recover n members ∷ []
steps_to_go w n (event.BeginTakeover able) k = mark_steps able 0 w.able ++ step.Takeover n ∷ []

-- Whether an event may come next, and by which steps.
use Rattle.std.specs.Prelude.{◌≡◌, ℕ, nat_lt, Bool, true, List, Option, None, Some}
use Rattle.ct_call.specs.Rules.{Rules}
use Rattle.ct_values.specs.declared.config.Config.{Config}
use Rattle.ct_frame.specs.declared.event.Event.{Event}
use Rattle.ct_frame.specs.declared.event.Event.TheVariants as event
use Rattle.ct_frame.specs.declared.frame.Frame.{Frame}
use Rattle.ct_rules_cluster.specs.Cluster.{Cluster, Sent, sent_at}
use Rattle.ct_rules_cluster.specs.declared.step.Step.{Step}
use Rattle.ct_journal.specs.Schedules.{after_step}
use Rattle.ct_journal.specs.declared.journal.Journal.{Journal}
use Rattle.ct_law_journal_reach.specs.Making.{MayGo, after_steps}

-- is it no client call, or one of a number below this?
abbrev pub calls_below : ℕ → Event → Bool
calls_below call (event.Client n o) = nat_lt n call
calls_below call (event.Arrive m) = true
calls_below call event.Retry = true
calls_below call (event.Vacuum db) = true
calls_below call (event.BeginRound ticket members) = true
calls_below call (event.BeginTakeover able) = true

-- the message of this number was sent, and is this one
abbrev pub IsSentAs : Cluster → Frame → ℕ → Type 0
IsSentAs w m k = (s : Sent) × (sent_at k w ≡ Some s) × (s.frame ≡ m)

-- Schedules: the number with which an entry of node n with this event may be made next; none where it may not
abbrev pub GoesWith : Config → List Journal → Cluster → List ℕ → ℕ → Event → Option ℕ → Type 0
GoesWith c js w ts n e None = (k : ℕ) → MayGo c js w ts n e k → ⊥
GoesWith c js w ts n e (Some k) = MayGo c js w ts n e k

-- a number, where this holds
abbrev pub number_if : Bool → Option ℕ
number_if true = Some 0
number_if _ = None

-- the cluster takes a step of a schedule
abbrev pub IsTaken : Config → Rules → Cluster → Step → Type 0
IsTaken c rules w s = (v : Cluster) × (after_step c rules w s ≡ Some v)

-- the cluster takes each of these steps, one after the other
abbrev pub AreTaken : Config → Rules → Cluster → List Step → Type 0
AreTaken c rules w ss = (v : Cluster) × (after_steps c rules (Some w) ss ≡ Some v)

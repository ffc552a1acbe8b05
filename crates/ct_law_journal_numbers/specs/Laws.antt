-- A node's rules do not care which numbers client calls have, as long as they rise.
use Rattle.std.specs.Prelude.{◌≡◌, ℕ, ◌<◌, ◌^◌, nat_le, Bool, true, List, map, Some}
use Rattle.ct_values.specs.declared.config.Config.{Config}
use Rattle.ct_call.specs.Rules.{Rules}
use Rattle.ct_frame.specs.declared.event.Event.{Event}
use Rattle.ct_frame.specs.declared.event.Out.{Out}
use Rattle.ct_journal.specs.Order.{frames_in}
use Rattle.ct_journal.specs.Runs.{IsRun, RunsTo}
use Rattle.ct_journal.specs.Schedules.{entry_under, event_under, has_call, out_under}
use Rattle.ct_journal.specs.declared.journal.Journal.{Journal}
use Rattle.ct_journal.specs.declared.journal.JournalEntry.{JournalEntry}
use Rattle.ct_law_journal_numbers.specs.Renumbered.{calls_only, holds_only, node_under, step_under}
use Rattle.ct_rules_node.specs.Coming.{may_come}
use Rattle.ct_rules_node.specs.Node.{Node, opening}
use Rattle.ct_rules_node.specs.Steps.{stepped}
use Rattle.ct_rules_node.specs.Turn.{Turn}

-- on these calls the new numbers rise strictly as the old ones do
abbrev pub RisesOn : (ℕ → Bool) → (ℕ → ℕ) → Type 0
RisesOn among number = (a b : ℕ) → among a ≡ true → among b ≡ true → a < b → number a < number b

-- Other numbers of these calls: they rise strictly as the old ones do, and reach 2^62 where those do
pub record Renumbers (among : ℕ → Bool) (number : ℕ → ℕ) : Type 0 where
  pub rises : RisesOn among number
  pub reaches : (call : ℕ) → among call ≡ true → nat_le (2 ^ 62) (number call) ≡ nat_le (2 ^ 62) call

-- Renumbered: where all calls that a node holds have other numbers, and that of the event too, the step is the same, with
-- these numbers: what the node does and its new state; and it is refused where the other is refused
abbrev pub StepsRenumbered : Type 0
StepsRenumbered = (c : Config) (rules : Rules) (me : ℕ) (among : ℕ → Bool) (number : ℕ → ℕ) (e : Event) (x : Node) →
    Renumbers among number → holds_only among x ≡ true → calls_only among e ≡ true →
    stepped c rules me (event_under number e) (node_under number x) ≡ step_under number (stepped c rules me e x)

-- Renumbered: the event may come where the other may
abbrev pub ComesRenumbered : Type 0
ComesRenumbered = (c : Config) (me : ℕ) (among : ℕ → Bool) (number : ℕ → ℕ) (e : Event) (x : Node) →
    RisesOn among number → holds_only among x ≡ true → calls_only among e ≡ true →
    may_come c me (node_under number x) (event_under number e) ≡ may_come c me x e

-- Renumbered: a node at its opening is the same, since it holds no calls
abbrev pub OpensRenumbered : Type 0
OpensRenumbered = (c : Config) (members : List ℕ) (number : ℕ → ℕ) → node_under number (opening c members) ≡ opening c members

-- Renumbered: only the numbers of calls that the node holds matter
abbrev pub AgreesRenumbered : Type 0
AgreesRenumbered = (among : ℕ → Bool) (number other : ℕ → ℕ) (x : Node) →
    ((call : ℕ) → among call ≡ true → number call ≡ other call) → holds_only among x ≡ true → node_under number x ≡ node_under other x

-- Renumbered: messages hold no numbers of calls
abbrev pub SendsRenumbered : Type 0
SendsRenumbered = (number : ℕ → ℕ) (outs : List Out) → frames_in (map (out_under number) outs) ≡ frames_in outs

-- Calls of a node: at its opening it holds none
abbrev pub OpensWithoutCalls : Type 0
OpensWithoutCalls = (among : ℕ → Bool) (c : Config) (members : List ℕ) → holds_only among (opening c members) ≡ true

-- Calls of a node: after a step it holds none but those that it held, and that of the event
abbrev pub HoldsNoOther : Type 0
HoldsNoOther = (c : Config) (rules : Rules) (me : ℕ) (among : ℕ → Bool) (e : Event) (x : Node) (t : Turn) →
    holds_only among x ≡ true → calls_only among e ≡ true → stepped c rules me e x ≡ Some t → holds_only among t.node ≡ true

-- Renumbered: entries that are a run are one with other numbers of their calls and of those that the node held, where these
-- rise strictly as the old ones do, and are below 2^62
abbrev pub RunsRenumbered : Type 0
RunsRenumbered = (c : Config) (rules : Rules) (me : ℕ) (among : ℕ → Bool) (number : ℕ → ℕ) (old : Node) (xs : List JournalEntry) (new : Node) →
    RisesOn among number → ((call : ℕ) → among call ≡ true → number call < 2 ^ 62) → holds_only among old ≡ true →
    ((call : ℕ) → has_call call xs ≡ true → among call ≡ true) → IsRun c rules me old xs new →
    IsRun c rules me (node_under number old) (map (entry_under number) xs) (node_under number new)

-- Renumbered: a journal that is a run is one with other numbers of its calls, where these rise strictly as the old ones do,
-- and are below 2^62
abbrev pub JournalsRenumbered : Type 0
JournalsRenumbered = (c : Config) (rules : Rules) (j : Journal) (number : ℕ → ℕ) (end : Node) →
    RisesOn (λ call. has_call call j.entries) number → ((call : ℕ) → has_call call j.entries ≡ true → number call < 2 ^ 62) →
    RunsTo c rules j end → RunsTo c rules (record j { entries = map (entry_under number) j.entries }) (node_under number end)

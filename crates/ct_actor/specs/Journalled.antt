-- A node with its journal: what it is now, and what it was given and did since the opening of the cluster.
use Rattle.std.specs.Prelude.{◌≡◌, ℕ, false, List, [], ◌∷◌, ◌++◌, ◌-◌, length, slice_get, Option, None, Some, Result, Ok, Err}
use Rattle.ct_values.specs.declared.config.Config.{Config}
use Rattle.ct_frame.specs.declared.event.Event.{Event}
use Rattle.ct_frame.specs.declared.event.Out.{Out}
use Rattle.ct_call.specs.Rules.{Rules}
use Rattle.ct_rules_cluster.specs.Cluster.{everyone}
use Rattle.ct_core.specs.Core.{Core}
use Rattle.ct_journal.specs.Runs.{RunsTo}
use Rattle.ct_journal.specs.declared.journal.JournalEntry.{JournalEntry}
use Rattle.ct_rules_node.specs.Node.{Node, opening}
use Rattle.ct_rules_node.specs.Turn.{Turn}
use Rattle.ct_node_state.specs.declared.turn.CoreFault.{CoreFault}
use Rattle.ct_node_state.specs.declared.turn.CoreFault.TheVariants.{Exhausted, NoMemory}

-- a node as a machine, and the entries of its journal
pub record Journalled : Type 0 where
  pub core : Core
  pub entries : List JournalEntry

-- the node of this number at the opening of a cluster, with no entry
abbrev pub at_opening : ℕ → Config → Journalled
at_opening pnn c = record { core = record { pnn = pnn; config = c; node = opening c (everyone c) }; entries = [] }

-- Journals: a node is run by these rules where its journal is a run by them, which ends in the state of its core
unfoldable pub IsRunBy : Rules → Journalled → Type 0
IsRunBy rules x = RunsTo x.core.config rules (record { node = x.core.pnn; entries = x.entries }) x.core.node

-- the node in another state, with one entry more
abbrev pub with_entry : Node → Event → List Out → Journalled → Journalled
with_entry n e outs x = record { core = record x.core { node = n }; entries = x.entries ++ record { event = e; outs = outs } ∷ [] }

-- An event is given to a node, by cases on the answer: its state is what the rule gives, and what it then did is the new entry;
-- or the rule gives none, where a number would reach 2^62, or memory was wanting, and then nothing is changed
abbrev pub IsFed : Result (Unit {0}) CoreFault → Event → Option Turn → Journalled → Journalled → Type 0
IsFed (Ok u) e rule old new = (outs : List Out) × (rule ≡ Some (record { node = new.core.node; outs = outs; spent = false })) × (new ≡ with_entry new.core.node e outs old)
IsFed (Err Exhausted) e rule old new = (rule ≡ None) × (new ≡ old)
IsFed (Err NoMemory) e rule old new = new ≡ old

-- what was done in an entry, where there is one
abbrev pub entry_outs : Option JournalEntry → List Out
entry_outs None = []
entry_outs (Some x) = x.outs

-- what was done in the last of these entries
abbrev pub last_outs : List JournalEntry → List Out
last_outs xs = entry_outs (slice_get xs (length xs - 1))

-- Journals that are runs: each entry is what the rules make of its event.
use Rattle.std.specs.Prelude.{◌≡◌, ℕ, true, false, List, [], ◌∷◌, Some}
use Rattle.ct_values.specs.declared.config.Config.{Config}
use Rattle.ct_call.specs.Rules.{Rules}
use Rattle.ct_rules_cluster.specs.Cluster.{everyone}
use Rattle.ct_rules_node.specs.Coming.{may_come}
use Rattle.ct_rules_node.specs.Node.{Node, opening}
use Rattle.ct_rules_node.specs.Steps.{stepped}
use Rattle.ct_journal.specs.declared.journal.Journal.{Journal}
use Rattle.ct_journal.specs.declared.journal.JournalEntry.{JournalEntry}

-- Journals: an entry is a step of node me, from one state to the next. Its event may come there, and the rules make this
-- state and exactly these outs of it.
pub record IsEntry (c : Config) (rules : Rules) (me : ℕ) (old : Node) (x : JournalEntry) (new : Node) : Type 0 where
  pub coming : may_come c me old x.event ≡ true
  pub steps : stepped c rules me x.event old ≡ Some (record { node = new; outs = x.outs; spent = false })

-- Journals: entries are a run of node me, from one state to another, where each is a step from the state that the one before
-- it left
unfoldable pub IsRun : Config → Rules → ℕ → Node → List JournalEntry → Node → Type 0
IsRun c rules me old [] new = old ≡ new
IsRun c rules me old (x ∷ xs) new = (next : Node) × (IsEntry c rules me old x next) × (IsRun c rules me next xs new)

-- Journals: a journal is a run that ends in this state where its entries are one from the opening of its node
abbrev pub RunsTo : Config → Rules → Journal → Node → Type 0
RunsTo c rules j end = IsRun c rules j.node (opening c (everyone c)) j.entries end

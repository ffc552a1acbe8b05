-- What a step that was planned changes and does.
use Rattle.std.specs.Prelude.{◌≡◌, ℕ, ◌<◌, true, false, List, [], ◌∷◌, length, Result, Ok, Err}
use Rattle.ct_persist.specs.Persisted.{updated}
use Rattle.ct_node_database.specs.Noted.{is_deleted}
use Rattle.ct_rules_node.specs.Node.{Node, db_at, state_at, with_db}
use Rattle.ct_rules_node.specs.Records.{put_back}
use Rattle.ct_rules_node.specs.Turn.{Turn}
use Rattle.ct_node_state.specs.Whole.{left_as}
use Rattle.ct_node_plan.specs.declared.change.Change.{Change}
use Rattle.ct_node_plan.specs.declared.change.Change.TheVariants as change
use Rattle.ct_node_state.specs.declared.turn.CoreFault.{CoreFault}
use Rattle.ct_node_state.specs.declared.turn.CoreFault.TheVariants.{Exhausted, NoMemory}
use Rattle.ct_node_plan.specs.declared.change.Left.{Left}
use Rattle.ct_node_plan.specs.declared.change.Planned.{Planned}

-- the node after a step at one record, which leaves this
abbrev pub left_at : ℕ → Left → Node → Node
left_at db x n = put_back db x.key (left_as x.state x.next x.floor) n

-- the node after steps at several records of a database, one after the other
unfoldable pub all_left : ℕ → List Left → Node → Node
all_left db [] n = n
all_left db (x ∷ xs) n = all_left db xs (left_at db x n)

-- each of these records is a deleted one when its turn comes
unfoldable pub AreDeleted : ℕ → List Left → Node → Type 0
AreDeleted db [] n = Unit {0}
AreDeleted db (x ∷ xs) n = (is_deleted (state_at db x.key n).copy ≡ true) × AreDeleted db xs (left_at db x n)

-- the node after a change
unfoldable pub changed_by : Change → Node → Node
changed_by change.Nothing n = n
changed_by (change.Record db key state next floor) n = put_back db key (left_as state next floor) n
changed_by (change.Update db seq writes) n = with_db db (record (db_at db n) { store = updated seq writes (db_at db n).store }) n
changed_by (change.Begin db seq writes commit) n = with_db db (record (db_at db n) { store = updated seq writes (db_at db n).store; commit = commit }) n
changed_by (change.Wait db commit) n = with_db db (record (db_at db n) { commit = commit }) n
changed_by (change.Records db left) n = all_left db left n
changed_by (change.Lead lead) n = record n { lead = lead }
changed_by (change.Hold holder) n = record n { held = holder.held; last_run = holder.last_run }
changed_by (change.Take placement holder) n = record n { placement = placement; held = holder.held; last_run = holder.last_run }
changed_by (change.Beside other) n = record other { dbs = n.dbs }
changed_by (change.Whole other) n = other

-- a change is of a database that is there, and what is left of several records is left of deleted ones
abbrev pub CanChange : Change → Node → Type 0
CanChange change.Nothing n = Unit {0}
CanChange (change.Record db key state next floor) n = db < length n.dbs
CanChange (change.Update db seq writes) n = db < length n.dbs
CanChange (change.Begin db seq writes commit) n = db < length n.dbs
CanChange (change.Wait db commit) n = db < length n.dbs
CanChange (change.Records db left) n = (db < length n.dbs) × AreDeleted db left n
CanChange (change.Lead lead) n = Unit {0}
CanChange (change.Hold holder) n = Unit {0}
CanChange (change.Take placement holder) n = Unit {0}
CanChange (change.Beside other) n = Unit {0}
CanChange (change.Whole other) n = Unit {0}

-- what was planned is what the rule makes of the node
pub record IsPlanned (p : Planned) (t : Turn) (n : Node) : Type 0 where
  pub whole : t.spent ≡ false
  pub node : changed_by p.change n ≡ t.node
  pub outs : p.outs ≡ t.outs
  pub can : CanChange p.change n

-- a plan is what the rule makes of the node. It is refused for a number exactly where one of the step reaches 2^62
abbrev pub Plans : Result Planned CoreFault → Turn → Node → Type 0
Plans (Ok p) t n = IsPlanned p t n
Plans (Err Exhausted) t n = t.spent ≡ true
Plans (Err NoMemory) t n = Unit {0}

-- The middle of a vacuum, as it is planned.
use Rattle.std.specs.Prelude.{◌≡◌, ℕ, true, false, if◌then◌else◌, List, Result, Ok, Err}
use Rattle.ct_values.specs.declared.config.Config.{Config}
use Rattle.ct_node_plan.specs.Changes.{AreDeleted, all_left}
use Rattle.ct_rules_node.specs.Node.{Node, db_at}
use Rattle.ct_rules_node.specs.Turn.{Turn}
use Rattle.ct_node_plan.specs.Handed.{CoreFault}
use Rattle.ct_node_plan.specs.Handed.{Exhausted, NoMemory}
use Rattle.ct_node_plan_records.specs.Keys.{is_deleted_at, vacuum_key}
use Rattle.ct_node_plan_records.specs.declared.walk.Walk.{Walk}

-- the node, once the records so far are left so
abbrev pub node_so_far : ℕ → Node → Walk → Node
node_so_far db n w = all_left db w.left n

-- the step so far, where no number reached 2^62
abbrev pub so_far : ℕ → Node → Walk → Turn
so_far db n w = record { node = node_so_far db n w; outs = w.outs; spent = false }

-- the numbers are those of the node so far, and what is left is left of deleted records
pub record IsMiddle (db : ℕ) (n : Node) (w : Walk) : Type 0 where
  pub next : w.next ≡ (node_so_far db n w).next
  pub floor : w.floor ≡ (db_at db (node_so_far db n w)).floor
  pub deleted : AreDeleted db w.left n

-- the step after one key more: where its record is not a deleted one nothing comes of it
abbrev pub after_key : Config → ℕ → ℕ → List ℕ → Node → Turn → Turn
after_key c me db key n t = if is_deleted_at db n key then vacuum_key c me db key t else t

-- what is left of the records and what was done is what the rule makes of the node. It is refused for a number exactly where
-- one of the step reaches 2^62
abbrev pub Walks : Result Walk CoreFault → Turn → ℕ → Node → Type 0
Walks (Ok w) t db n = (so_far db n w ≡ t) × AreDeleted db w.left n
Walks (Err Exhausted) t db n = t.spent ≡ true
Walks (Err NoMemory) t db n = Unit {0}

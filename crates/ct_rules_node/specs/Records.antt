-- How the rule of one record is put into a node: one key's view, and back.
use Rattle.std.specs.Prelude.{ℕ, ◌||◌, if◌then◌else◌, List, ◌++◌, map}
use Rattle.ct_values.specs.declared.config.Config.{Config}
use Rattle.ct_frame.specs.declared.event.Note.TheVariants as note
use Rattle.ct_frame.specs.declared.event.Out.{Out}
use Rattle.ct_frame.specs.declared.event.Out.TheVariants as out
use Rattle.ct_store.specs.Map.{Pairs, write, erase}
use Rattle.ct_rules.specs.State.{is_blank}
use Rattle.ct_rules.specs.Parts.{Moving}
use Rattle.ct_rules.specs.Moves.{begins}
use Rattle.ct_rules.specs.declared.event.Act.{Act}
use Rattle.ct_rules.specs.declared.event.Act.TheVariants as act
use Rattle.ct_rules.specs.declared.event.Place.{Place}
use Rattle.ct_rules.specs.declared.state.RecState.{RecState}
use Rattle.ct_rules_node.specs.Node.{Node, db_at, with_db, state_at, master_of, kind_at, is_readonly}
use Rattle.ct_rules_node.specs.Turn.{Turn}

-- State of a key: it is removed where it is blank, and else kept
unfoldable pub kept : List ℕ → RecState → Pairs RecState → Pairs RecState
kept key s m = if is_blank s then erase key m else write key s m

-- the node with another state of a key
unfoldable pub with_state : ℕ → List ℕ → RecState → Node → Node
with_state db key s n = with_db db (record (db_at db n) { records = kept key s (db_at db n).records }) n

-- what the rule of a record does, as the node does it
unfoldable pub out_of : ℕ → ℕ → ℕ → List ℕ → Act → Out
out_of g me db key (act.Send receiver m) = out.Send (record { generation = g; sender = me; receiver = receiver; msg = m })
out_of g me db key (act.Answer call a) = out.Answer call a
out_of g me db key (act.Finished floor) = out.Note (note.Vacuumed db key)

-- where a record is looked at: the node, the location master, the record, the floor, and whether copies are handed out
unfoldable pub place_of : Config → ℕ → ℕ → List ℕ → Node → Place
place_of c me db key n = record { me = me; lmaster = master_of n.members key; db = db; key = key; floor = (db_at db n).floor; readonly = is_readonly (kind_at c db) }

-- what the rule of a record sees of the node: the state of the key, the next request number and the floor
unfoldable pub view : ℕ → List ℕ → Node → Moving
view db key n = begins (state_at db key n) n.next (db_at db n).floor

-- what the rule of a record makes of the node
unfoldable pub put_back : ℕ → List ℕ → Moving → Node → Node
put_back db key o n = record n {
  dbs = (with_db db (record (db_at db n) { records = kept key o.state (db_at db n).records; floor = o.floor }) n).dbs;
  next = o.next;
}

-- the step after the rule of a record: the node is changed, and what was done about the record comes after all else
unfoldable pub acted : ℕ → ℕ → List ℕ → Moving → Turn → Turn
acted me db key o t = record {
  node = put_back db key o t.node;
  outs = t.outs ++ map (out_of t.node.generation me db key) o.acts;
  spent = t.spent || o.spent;
}

-- a part of the rules of one record, at this record of the node
unfoldable pub at_record : Config → ℕ → ℕ → List ℕ → (Place → Moving → Moving) → Turn → Turn
at_record c me db key part t = acted me db key (part (place_of c me db key t.node) (view db key t.node)) t

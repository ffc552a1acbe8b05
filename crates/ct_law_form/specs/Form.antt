-- What a node keeps of every record is in form, and stays so.
use Rattle.std.specs.Prelude.{◌≡◌, ℕ, ◌<◌, true, false, List, length, Option, None, Some}
use Rattle.ct_store.specs.Map.{look}
use Rattle.ct_rules.specs.Parts.{Moving}
use Rattle.ct_rules.specs.State.{is_blank}
use Rattle.ct_values.specs.declared.config.Config.{Config}
use Rattle.ct_frame.specs.Fields.{is_db}
use Rattle.ct_call.specs.Rules.{Rules}
use Rattle.ct_law_rules.specs.Form.{IsInForm, MayCome}
use Rattle.ct_law_rules.specs.Laws.{TracksAsHolder}
use Rattle.ct_rules.specs.Moves.{move}
use Rattle.ct_law_rules.specs.Sent.{is_from_node, waits_for_nodes}
use Rattle.ct_rules.specs.declared.event.MoveEvent.{MoveEvent}
use Rattle.ct_rules.specs.declared.event.Place.{Place}
use Rattle.ct_rules.specs.declared.state.RecState.{RecState}
use Rattle.ct_law_rules_node.specs.NodeLaws.{NodeAscends}
use Rattle.ct_rules_node.specs.Node.{Node, db_at, state_at}
use Rattle.ct_rules_node.specs.Records.{at_record, place_of, view}
use Rattle.ct_rules_node.specs.Turn.{Turn}

-- a state is in form at its place, nodes are tracked only where the node is holder, and all that waits is of nodes
pub record IsFormed (at : Place) (next : ℕ) (s : RecState) : Type 0 where
  pub form : IsInForm at next s
  pub tracks : TracksAsHolder at s.copy s.tracking s.vacuum
  pub waits : waits_for_nodes s ≡ true

-- so is what the node keeps of each record
abbrev pub AreFormed : Config → ℕ → Node → Type 0
AreFormed c me n = (db : ℕ) (key : List ℕ) → IsFormed (place_of c me db key n) n.next (state_at db key n)

-- a step at one record, where no number reaches 2^62, leaves all records of the node so
abbrev pub MovesKeepForm : Type 0
MovesKeepForm = (c : Config) (rules : Rules) (me db : ℕ) (key : List ℕ) (e : MoveEvent) (t : Turn) →
    NodeAscends t.node → db < length t.node.dbs → is_db db ≡ true → AreFormed c me t.node → MayCome (state_at db key t.node) e → is_from_node e ≡ true →
    (at_record c me db key (λ at o. move at rules e o) t).spent ≡ false → AreFormed c me (at_record c me db key (λ at o. move at rules e o) t).node

-- a part of the rules of one record that leaves the record's state and the node's numbers as they are
unfoldable pub LeavesAll : (Place → Moving → Moving) → Place → Moving → Type 0
LeavesAll part at o = ((part at o).state ≡ o.state) × ((part at o).next ≡ o.next) × ((part at o).floor ≡ o.floor)

-- what is kept of a key, if anything, is not blank
unfoldable pub IsWorth : Option RecState → Type 0
IsWorth None = Unit {0}
IsWorth (Some s) = is_blank s ≡ false

-- such a part at a record leaves the node as it is
abbrev pub NothingMoves : Type 0
NothingMoves = (c : Config) (me db : ℕ) (key : List ℕ) (part : Place → Moving → Moving) (t : Turn) →
    NodeAscends t.node → db < length t.node.dbs → IsWorth (look key (db_at db t.node).records) → LeavesAll part (place_of c me db key t.node) (view db key t.node) →
    (at_record c me db key part t).node ≡ t.node

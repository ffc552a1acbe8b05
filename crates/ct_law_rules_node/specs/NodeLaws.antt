-- What follows for the rules of a node.
use Rattle.std.specs.Prelude.{◌≡◌, ◌≢◌, ℕ, ◌≤◌, ◌<◌, Bool, true, false, ◌&&◌, if◌then◌else◌, List, [], ◌∷◌, ◌++◌, length, Option, None, Some, slice_get}
use Rattle.std.specs.BTreeMap.{is_at}
use Rattle.std.specs.Ordering.{nat_cmp}
use Rattle.std.specs.List.{AllByRecursion, filter}
use Rattle.ct_values.specs.Key.{key_cmp}
use Rattle.ct_values.specs.declared.config.Config.{Config}
use Rattle.ct_frame.specs.Fields.{ascends, row_before}
use Rattle.ct_frame.specs.declared.event.Event.{Event}
use Rattle.ct_frame.specs.declared.event.Event.TheVariants as event
use Rattle.ct_frame.specs.declared.event.Out.{Out}
use Rattle.ct_frame.specs.declared.event.Out.TheVariants as out
use Rattle.ct_frame.specs.declared.frame.Assigned.{Assigned}
use Rattle.ct_frame.specs.declared.frame.Frame.{Frame}
use Rattle.ct_frame.specs.declared.frame.Msg.TheVariants as msg
use Rattle.ct_frame.specs.declared.frame.PTable.{PTable}
use Rattle.ct_frame.specs.declared.frame.TableRow.{TableRow}
use Rattle.ct_call.specs.Rules.{Rules}
use Rattle.ct_tracking.specs.Tracked.{untracked}
use Rattle.ct_merge.specs.Rule.{row_at}
use Rattle.ct_store.specs.Map.{Pairs, Ascends, look}
use Rattle.ct_law_rules.specs.Form.{IsInForm, is_of_record}
use Rattle.ct_law_rules.specs.Laws.{TracksAsHolder, IsFront}
use Rattle.ct_rules.specs.Parts.{Moving}
use Rattle.ct_rules.specs.State.{is_blank, is_mastered}
use Rattle.ct_rules.specs.declared.event.Place.{Place}
use Rattle.ct_rules.specs.declared.state.RecState.{RecState}
use Rattle.ct_rules_node.specs.Node.{Node, Database, master_of, or_nothing, or_untouched, db_at, state_at, is_present, is_frozen_in, opening, restarted_db, restarted}
use Rattle.ct_rules_node.specs.Turn.{Turn}
use Rattle.ct_rules_node.specs.Records.{kept, place_of, view, at_record}
use Rattle.ct_rules_node.specs.Clients.{is_locked, any_locked}
use Rattle.ct_rules_node.specs.Rounds.{Called, called_of, pending_calls, changed, frozen_db, freezes, bared, installed_state, install_rows, installed_db, installed_node, row_of, table_of}
use Rattle.ct_rules_node.specs.Admission.{is_sound}
use Rattle.ct_rules_node.specs.Steps.{happens}

-- ---- one key of a map

-- what is kept of a state: nothing of a blank one
unfoldable pub unless_blank : RecState → Option RecState
unless_blank s = if is_blank s then None else Some s

-- what a change of all states makes of what is kept of a key
unfoldable pub changed_at : (RecState → RecState) → Option RecState → Option RecState
changed_at f None = None
changed_at f (Some s) = unless_blank (f s)

-- after a change of all states a key has what the change makes of its state, unless that is blank; the order stays
pub record IsChanged (f : RecState → RecState) (m : Pairs RecState) : Type 0 where
  pub seen : (key : List ℕ) → look key (changed f m) ≡ changed_at f (look key m)
  pub order : Ascends (changed f m)

-- so it is of every map that ascends
abbrev pub ChangesEach : Type 0
ChangesEach = (f : RecState → RecState) (m : Pairs RecState) → Ascends m → IsChanged f m

-- the state that is put at a key is there, unless it is blank; other keys have what they had, and the order stays
pub record IsKeptAt (key : List ℕ) (s : RecState) (m : Pairs RecState) : Type 0 where
  pub seen : look key (kept key s m) ≡ unless_blank s
  pub others : (other : List ℕ) → other ≢ key → look other (kept key s m) ≡ look other m
  pub order : Ascends (kept key s m)

-- so it is of every map that ascends
abbrev pub KeepsOne : Type 0
KeepsOne = (key : List ℕ) (s : RecState) (m : Pairs RecState) → Ascends m → IsKeptAt key s m

-- ---- the installation, by key

-- what a row makes of what is left of a key, at l, the location master of the key; no row leaves it so
unfoldable pub installed_at : ℕ → ℕ → Option RecState → Option TableRow → Option RecState
installed_at me l left None = left
installed_at me l left (Some row) = Some (installed_state me l row (or_nothing left))

-- Push: a key has what the table's row there makes of what was left of it, and the order stays
pub record IsInstalled (me db : ℕ) (members : List ℕ) (table : List TableRow) (m : Pairs RecState) : Type 0 where
  pub seen : (key : List ℕ) →
      look key (install_rows me db members table (changed bared m)) ≡ installed_at me (master_of members key) (changed_at bared (look key m)) (row_at db key table)
  pub order : Ascends (install_rows me db members table (changed bared m))

-- so it is of every table and map that ascend
abbrev pub InstallsEach : Type 0
InstallsEach = (me db : ℕ) (members : List ℕ) (table : List TableRow) (m : Pairs RecState) →
    ascends row_before table ≡ true → Ascends m → IsInstalled me db members table m

-- ---- the table of a Pull, by key

-- the records of each of these databases are in order
unfoldable pub AllAscend : List Database → Type 0
AllAscend dbs = AllByRecursion (λ d. Ascends d.records) dbs

-- Pull: the table has at a database and key the row of the copy there, and its rows are in order
pub record IsTable (me : ℕ) (dbs : List Database) : Type 0 where
  pub seen : (db : ℕ) (key : List ℕ) →
      row_at db key (table_of me 0 dbs) ≡ row_of me db key (or_nothing (look key (or_untouched (slice_get dbs db)).records)).copy
  pub order : ascends row_before (table_of me 0 dbs) ≡ true

-- so it is of all databases whose maps ascend
abbrev pub TellsEach : Type 0
TellsEach = (me : ℕ) (dbs : List Database) → AllAscend dbs → IsTable me dbs

-- ---- one record's step

-- the records of all databases of the node are in order
abbrev pub NodeAscends : Node → Type 0
NodeAscends n = AllAscend n.dbs

-- what a part of the rules of one record leaves of its state
abbrev pub left_by : Config → ℕ → ℕ → List ℕ → (Place → Moving → Moving) → Turn → Moving
left_by c me db key part t = part (place_of c me db key t.node) (view db key t.node)

-- a step at one record: it has the state that the part leaves, unless that is blank, and every other record what it had;
-- the order stays
pub record IsAtRecord (c : Config) (me db : ℕ) (key : List ℕ) (part : Place → Moving → Moving) (t : Turn) : Type 0 where
  pub seen : db < length t.node.dbs → state_at db key (at_record c me db key part t).node ≡ or_nothing (unless_blank (left_by c me db key part t).state)
  pub other_keys : (other : List ℕ) → other ≢ key → state_at db other (at_record c me db key part t).node ≡ state_at db other t.node
  pub other_dbs : (other : ℕ) → other ≢ db → db_at other (at_record c me db key part t).node ≡ db_at other t.node
  pub order : NodeAscends (at_record c me db key part t).node

-- so it is of every part of the rule of a record, at every node whose maps ascend
abbrev pub MovesOne : Type 0
MovesOne = (c : Config) (me db : ℕ) (key : List ℕ) (part : Place → Moving → Moving) (t : Turn) → NodeAscends t.node → IsAtRecord c me db key part t

-- a blank state without tracking is the one in which nothing is kept
abbrev pub BlankIsNothing : Type 0
BlankIsNothing = (s : RecState) → s.tracking ≡ untracked → or_nothing (unless_blank s) ≡ s

-- nothing is lost of a state in form with tracking at the holder alone: where it is blank it is the one in which nothing
-- is kept
abbrev pub FormedIsKept : Type 0
FormedIsKept = (at : Place) (next : ℕ) (s : RecState) → IsInForm at next s → TracksAsHolder at s.copy s.tracking s.vacuum → or_nothing (unless_blank s) ≡ s

-- ---- a whole step

-- what grows alone: the promise, the next request number, what was spent, and what is done
pub record TurnGrows (t u : Turn) : Type 0 where
  pub promise : t.node.promise ≤ u.node.promise
  pub next : t.node.next ≤ u.node.next
  pub spent : t.spent ≡ true → u.spent ≡ true
  pub outs : IsFront t.outs u.outs

-- whatever comes, these grow alone
abbrev pub GrowsAlone : Type 0
GrowsAlone = (c : Config) (rules : Rules) (me : ℕ) (t : Turn) (e : Event) → TurnGrows t (happens c rules me t e)

-- what stays: there are as many databases, and their records are in order
pub record StaysInOrder (t u : Turn) : Type 0 where
  pub dbs : length u.node.dbs ≡ length t.node.dbs
  pub order : NodeAscends t.node → NodeAscends u.node

-- whatever comes, these stay
abbrev pub KeepsOrder : Type 0
KeepsOrder = (c : Config) (rules : Rules) (me : ℕ) (t : Turn) (e : Event) → StaysInOrder t (happens c rules me t e)

-- at the opening there is a database for each of the configuration, and their records are in order
abbrev pub StartsInOrder : Type 0
StartsInOrder = (c : Config) (members : List ℕ) → (length (opening c members).dbs ≡ length c.dbs) × NodeAscends (opening c members)

-- so it is after a stop, for as many databases as before
abbrev pub RestartsInOrder : Type 0
RestartsInOrder = (c : Config) (n : Node) → (length (restarted c n).dbs ≡ length n.dbs) × NodeAscends (restarted c n)

-- does the node send a message of a record?
unfoldable pub sends_of_record : Out → Bool
sends_of_record (out.Send f) = is_of_record f.msg
sends_of_record _ = false

-- the messages of records that a node sends
unfoldable pub record_sends : List Out → List Out
record_sends xs = filter sends_of_record xs

-- a record that is locked here is held here
unfoldable pub HoldsLocks : ℕ → Node → Type 0
HoldsLocks me n = (db : ℕ) (key : List ℕ) → is_locked db key n ≡ true → is_mastered me (state_at db key n).copy ≡ true

-- whatever comes to a node that is not present, it sends no message of a record
abbrev pub QuietUnlessPresent : Type 0
QuietUnlessPresent = (c : Config) (rules : Rules) (me : ℕ) (t : Turn) (e : Event) →
    is_present t.node.phase ≡ false → HoldsLocks me t.node → record_sends (happens c rules me t e).outs ≡ record_sends t.outs

-- a Push changes only a node that is frozen for its generation
abbrev pub InstallsFrozenAlone : Type 0
InstallsFrozenAlone = (c : Config) (rules : Rules) (me : ℕ) (t : Turn) (f : Frame) (members : List ℕ) (table : List TableRow) (ptables : List PTable) (assigned : List Assigned) →
    f.msg ≡ msg.Push members table ptables assigned → is_frozen_in f.generation t.node.phase ≡ false → (happens c rules me t (event.Arrive f)).node ≡ t.node

-- ---- a whole node in a round

-- Freeze: every database is changed by itself
abbrev pub FreezesEach : Type 0
FreezesEach = (g h db : ℕ) (t : Turn) → db_at db (freezes g h t).node ≡ frozen_db (db_at db t.node)

-- a stop: every database is changed by itself
abbrev pub RestartsEach : Type 0
RestartsEach = (c : Config) (n : Node) (db : ℕ) → db_at db (restarted c n) ≡ restarted_db (db_at db n)

-- Push: every database is changed by itself
abbrev pub InstallsDbs : Type 0
InstallsDbs = (c : Config) (me h g : ℕ) (members : List ℕ) (table : List TableRow) (ptables : List PTable) (assigned : List Assigned) (n : Node) (db : ℕ) →
    db < length n.dbs → db_at db (installed_node c me h g members table ptables assigned n) ≡ installed_db me db members table ptables (db_at db n)

-- a sound Push makes of a node that is frozen for its generation the node that has it installed
abbrev pub InstallsFrozen : Type 0
InstallsFrozen = (c : Config) (rules : Rules) (me : ℕ) (t : Turn) (f : Frame) (members : List ℕ) (table : List TableRow) (ptables : List PTable) (assigned : List Assigned) →
    f.msg ≡ msg.Push members table ptables assigned → is_sound c f ≡ true → is_frozen_in f.generation t.node.phase ≡ true →
    (happens c rules me t (event.Arrive f)).node ≡ installed_node c me f.sender f.generation members table ptables assigned t.node

-- the test of a node for locks finds one where there is one, and none where there is none
pub record SeesLocks (n : Node) : Type 0 where
  pub all : any_locked n.dbs ≡ false → (db : ℕ) (key : List ℕ) → is_locked db key n ≡ false
  pub one : any_locked n.dbs ≡ true → (db : ℕ) × (key : List ℕ) × (is_locked db key n ≡ true)

-- so it is of every node whose maps ascend
abbrev pub TestsLocks : Type 0
TestsLocks = (n : Node) → NodeAscends n → SeesLocks n

-- ---- the calls that wait

-- does the call wait for this record?
unfoldable pub is_called_at : ℕ → List ℕ → Called → Bool
is_called_at db key x = is_at (nat_cmp db) x.db && is_at (key_cmp key) x.key

-- Thaw and Retry: the calls that wait for a record are that of its wish
abbrev pub CallsEach : Type 0
CallsEach = (n : Node) → NodeAscends n → (db : ℕ) (key : List ℕ) → filter (is_called_at db key) (pending_calls n) ≡ called_of db key (state_at db key n).wish

-- Rounds of recovery: a leader freezes the members, pulls what they hold, pushes what is made of it, and thaws them.
use Rattle.std.specs.Prelude.{ℕ, ◌+◌, nat_eq, nat_lt, Bool, true, false, not, ◌&&◌, ◌||◌, if◌then◌else◌, List, [], ◌∷◌, ◌++◌, map, Option, None, Some}
use Rattle.std.specs.List.{filter}
use Rattle.ct_values.specs.Words.{others, is_this_node}
use Rattle.ct_values.specs.declared.address.Address.{Address}
use Rattle.ct_values.specs.declared.client.Answer.TheVariants as answer
use Rattle.ct_values.specs.declared.config.Config.{Config}
use Rattle.ct_frame.specs.Header.{nobody, plain}
use Rattle.ct_frame.specs.declared.event.Note.TheVariants as note
use Rattle.ct_frame.specs.declared.frame.Assigned.{Assigned}
use Rattle.ct_frame.specs.declared.frame.Msg.{Msg}
use Rattle.ct_frame.specs.declared.frame.Msg.TheVariants as msg
use Rattle.ct_frame.specs.declared.frame.PTable.{PTable}
use Rattle.ct_frame.specs.declared.frame.TableRow.{TableRow}
use Rattle.ct_frame.specs.declared.header.RecCopy.{RecCopy}
use Rattle.ct_frame.specs.declared.round.Pull.{Pull}
use Rattle.ct_frame.specs.declared.round.PushBody.{PushBody}
use Rattle.ct_call.specs.Rules.{Rules}
use Rattle.ct_tracking.specs.Tracked.{untracked}
use Rattle.ct_merge.specs.Gathered.{Gathered, nothing, gathered, finished}
use Rattle.ct_merge.specs.declared.merged.MergedAll.{MergedAll}
use Rattle.ct_persist.specs.Persisted.{Persisted, listed, replaced}
use Rattle.ct_store.specs.Map.{Pairs, look, write}
use Rattle.ct_rules.specs.State.{a_copy, is_blank, is_mastered}
use Rattle.ct_rules.specs.Parts.{Moving, keeps, want}
use Rattle.ct_rules.specs.declared.event.Place.{Place}
use Rattle.ct_rules.specs.declared.state.Entry.{Entry}
use Rattle.ct_rules.specs.declared.state.RecState.{RecState}
use Rattle.ct_rules.specs.declared.state.Wish.{Wish}
use Rattle.ct_rules_node.specs.Numbered.{by_number}
use Rattle.ct_rules_node.specs.Node.{Node, Phase, Serving, Installed, Freezing, Database, Committing, Lead, Nothing, Freezes, Pulls, Installs, Completed, Takeover, NoRun, is_frozen_in, is_present_in, is_persistent, is_among, master_of, or_nothing, state_at, kind_at, name_of, holder_in, assigned_all}
use Rattle.ct_rules_node.specs.Turn.{Turn, with_node, with_lead, with_phase, makes, answers, notes, posts, posts_all}
use Rattle.ct_rules_node.specs.Records.{with_state, at_record}
use Rattle.ct_rules_node.specs.Databases.{with_commit}
use Rattle.ct_rules_node.specs.Clients.{frozen_if_unlocked}

-- ---- BeginRound: who is given a ticket leads its round, unless it promised this one or a later one

-- Begin of a round: where it is above the promise the node leads it, and the members get a Freeze
unfoldable pub begin_round : ℕ → ℕ → List ℕ → Turn → Turn
begin_round me g members t =
    if nat_lt t.node.promise g then posts_all g me members (msg.Freeze members) (with_lead (Freezes g members members) (makes g t)) else t

-- ---- Freeze

-- Freeze: a key has no entry, queue, waiting recall, tracking or vacuum any more
unfoldable pub frozen_state : RecState → RecState
frozen_state s = record s { entry = None; queue = []; waiting = []; tracking = untracked; vacuum = None }

-- all states changed, and those that are blank then removed
unfoldable pub changed : (RecState → RecState) → Pairs RecState → Pairs RecState
changed f [] = []
changed f (e ∷ m) = if is_blank (f e.1) then changed f m else (e.0, f e.1) ∷ changed f m

-- Freeze: all keys of a database
unfoldable pub frozen_db : Database → Database
frozen_db d = record d { records = changed frozen_state d.records }

-- Freeze: what the node leads for a smaller generation ends
unfoldable pub lead_from : ℕ → Lead → Lead
lead_from g Nothing = Nothing
lead_from g (Freezes h members missing) = if nat_lt h g then Nothing else Freezes h members missing
lead_from g (Pulls h members missing x) = if nat_lt h g then Nothing else Pulls h members missing x
lead_from g (Installs h members missing body) = if nat_lt h g then Nothing else Installs h members missing body
lead_from g (Completed h members x) = if nat_lt h g then Nothing else Completed h members x

-- End of a commit: the lock that it stands under ends, with a note
unfoldable pub ends_lock : List ℕ → Turn → Turn
ends_lock name t = notes (note.Ended 0 name) (with_node (with_state 0 name (record (state_at 0 name t.node) { locked = None }) t.node) t)

-- End of a commit: a commit that waits is answered `unsure`, and the lock that it stands under ends with a note
unfoldable pub ends_commit : ℕ → List ℕ → Turn → Option Committing → Turn
ends_commit db name t None = t
ends_commit db name t (Some x) = ends_lock name (with_commit db None (answers x.call (answer.Unsure x.pending.seq x.pending.missing) t))

-- End of a commit, by database; i is the number of the first of these
unfoldable pub ends_commits : Config → ℕ → List Database → Turn → Turn
ends_commits c i [] t = t
ends_commits c i (d ∷ ds) t = ends_commits c (i + 1) ds (ends_commit i (name_of c i) t d.commit)

-- Freeze of generation g from h: the promise, the phase, the keys, and what the node leads
unfoldable pub freezes : ℕ → ℕ → Turn → Turn
freezes g h t = with_node (record t.node { promise = g; phase = Freezing g h; dbs = map frozen_db t.node.dbs; lead = lead_from g t.node.lead }) t

-- Freeze: above the promise it is followed, and a node that is Frozen for it acknowledges again
unfoldable pub on_freeze : Config → ℕ → ℕ → ℕ → Turn → Turn
on_freeze c me h g t =
    if nat_lt t.node.promise g
    then frozen_if_unlocked me g h (ends_commits c 0 t.node.dbs (freezes g h t))
    else (if is_frozen_in g t.node.phase then posts g me h msg.FreezeAck t else t)

-- ---- FreezeAck: once all are frozen, they are asked for what they hold

-- FreezeAck: these are missing still; where nobody is, all members get a Pull
unfoldable pub all_frozen : ℕ → ℕ → List ℕ → Turn → List ℕ → Turn
all_frozen me g members t [] = posts_all g me members msg.Pull (with_lead (Pulls g members members nothing) t)
all_frozen me g members t (m ∷ ms) = with_lead (Freezes g members (m ∷ ms)) t

-- FreezeAck: the leader that waits for it strikes its sender off
unfoldable pub on_freezeack : ℕ → ℕ → ℕ → Turn → Lead → Turn
on_freezeack me n g t (Freezes h members missing) = if nat_eq h g && is_among n missing then all_frozen me g members t (others n missing) else t
on_freezeack me n g t _ = t

-- ---- Pull

-- this node, or none
unfoldable pub own_or_none : ℕ → Bool → Option ℕ
own_or_none me true = Some me
own_or_none me false = None

-- Pull: the row of a copy, where there is one, with this node as data master where it is holder
unfoldable pub row_of : ℕ → ℕ → List ℕ → Option RecCopy → Option TableRow
row_of me db key None = None
row_of me db key (Some c) = Some (record { db = db; key = key; rsn = c.header.rsn; value = c.value; master = own_or_none me (is_mastered me (Some c)) })

-- Pull: a row, where there is one, stands before others
unfoldable pub with_row : Option TableRow → List TableRow → List TableRow
with_row None rows = rows
with_row (Some row) rows = row ∷ rows

-- Pull: a row for each copy of a database, by key
unfoldable pub rows_of : ℕ → ℕ → Pairs RecState → List TableRow
rows_of me db [] = []
rows_of me db (e ∷ m) = with_row (row_of me db e.0 e.1.copy) (rows_of me db m)

-- Pull: a row for each copy, by database and key; i is the number of the first of these databases
unfoldable pub table_of : ℕ → ℕ → List Database → List TableRow
table_of me i [] = []
table_of me i (d ∷ ds) = rows_of me i d.records ++ table_of me (i + 1) ds

-- Pull: every persistent database; i is the number of the first of these databases
unfoldable pub ptables_of : Config → ℕ → List Database → List PTable
ptables_of c i [] = []
ptables_of c i (d ∷ ds) =
    if is_persistent (kind_at c i) then record { db = i; seq = d.store.seq; pairs = listed d.store.pairs } ∷ ptables_of c (i + 1) ds
    else ptables_of c (i + 1) ds

-- Pull: a node that is Frozen for this generation tells what it has
unfoldable pub on_pull : Config → ℕ → ℕ → ℕ → Turn → Turn
on_pull c me h g t =
    if is_frozen_in g t.node.phase
    then posts g me h (msg.PullReply t.node.generation t.node.pbase (table_of me 0 t.node.dbs) (ptables_of c 0 t.node.dbs) t.node.held) t
    else t

-- ---- PullReply: the last one is followed by the merge, its note and the Push

-- the data master, and the leader where there is none
unfoldable pub or_leader : ℕ → Option ℕ → Option ℕ
or_leader me None = Some me
or_leader me (Some m) = Some m

-- PullReply: a merged row without a data master gets the leader
unfoldable pub mastered : ℕ → TableRow → TableRow
mastered me row = record row { master = or_leader me row.master }

-- PullReply: what is pushed, made of what was merged
unfoldable pub body_of : ℕ → List ℕ → MergedAll → PushBody
body_of me members x = record {
  members = members;
  table = map (mastered me) x.table.table;
  ptables = x.ptables.ptables;
  assigned = x.assigned;
  vparent = x.table.parent;
  pparent = x.ptables.parent;
}

-- the Push of this body
unfoldable pub push_of : PushBody → Msg
push_of b = msg.Push b.members b.table b.ptables b.assigned

-- PullReply: the round is noted, and all members get the Push
unfoldable pub pushes : ℕ → ℕ → List ℕ → PushBody → Turn → Turn
pushes me g members b t = posts_all g me members (push_of b) (notes (note.Round g members b.vparent b.pparent) (with_lead (Installs g members members b) t))

-- PullReply: these are missing still; where nobody is, what was gathered is merged and pushed
unfoldable pub all_pulled : ℕ → ℕ → List ℕ → Gathered → Turn → List ℕ → Turn
all_pulled me g members x t [] = pushes me g members (body_of me members (finished x)) t
all_pulled me g members x t (m ∷ ms) = with_lead (Pulls g members (m ∷ ms) x) t

-- PullReply: the leader that waits for it gathers it and strikes its sender off
unfoldable pub on_pullreply : ℕ → ℕ → Pull → Turn → Lead → Turn
on_pullreply me g pull t (Pulls h members missing x) =
    if nat_eq h g && is_among pull.node missing then all_pulled me g members (gathered pull x) t (others pull.node missing) else t
on_pullreply me g pull t _ = t

-- ---- Push: the installation

-- Install: the copy that a row makes, with one RSN more at its data master m
unfoldable pub copy_from : ℕ → TableRow → ℕ → RecCopy
copy_from me row m = a_copy (if nat_eq me m then row.rsn + 1 else row.rsn) m plain row.value

-- the data master, and nobody where there is none
unfoldable pub or_nobody : Option ℕ → ℕ
or_nobody None = nobody
or_nobody (Some m) = m

-- the data master of a row
unfoldable pub row_master : TableRow → ℕ
row_master row = or_nobody row.master

-- Install: the entry that a row makes at l, the location master of its key
unfoldable pub entry_from : ℕ → ℕ → TableRow → Option Entry
entry_from me l row = if nat_eq me l then Some (record { holder = row_master row; least = row.rsn + 1; request = 0; value = row.value }) else None

-- Install: what is left of a key before the rows: its wish, and no copy and entry
unfoldable pub bared : RecState → RecState
bared s = record s { copy = None; entry = None }

-- Install: the state of a key that a row speaks of
unfoldable pub installed_state : ℕ → ℕ → TableRow → RecState → RecState
installed_state me l row s = record s { copy = Some (copy_from me row (row_master row)); entry = entry_from me l row }

-- Install: one row
unfoldable pub install_row : ℕ → List ℕ → TableRow → Pairs RecState → Pairs RecState
install_row me members row m = write row.key (installed_state me (master_of members row.key) row (or_nothing (look row.key m))) m

-- Install: the rows of one database, in order
unfoldable pub install_rows : ℕ → ℕ → List ℕ → List TableRow → Pairs RecState → Pairs RecState
install_rows me db members [] m = m
install_rows me db members (row ∷ rows) m = install_rows me db members rows (if nat_eq row.db db then install_row me members row m else m)

-- Install: a persistent database becomes its table
unfoldable pub store_from : ℕ → List PTable → Persisted → Persisted
store_from db [] p = p
store_from db (x ∷ xs) p = if nat_eq x.db db then replaced x else store_from db xs p

-- Install: one database
unfoldable pub installed_db : ℕ → ℕ → List ℕ → List TableRow → List PTable → Database → Database
installed_db me db members table ptables d = record d {
  records = install_rows me db members table (changed bared d.records);
  floor = 0;
  store = store_from db ptables d.store;
}

-- Install: all databases; i is the number of the first of these
unfoldable pub installed_dbs : ℕ → ℕ → List ℕ → List TableRow → List PTable → List Database → List Database
installed_dbs me i members table ptables [] = []
installed_dbs me i members table ptables (d ∷ ds) = installed_db me i members table ptables d ∷ installed_dbs me (i + 1) members table ptables ds

-- is the address assigned to this node?
unfoldable pub is_own : ℕ → List Assigned → Address → Bool
is_own me assigned a = is_this_node me (holder_in a assigned)

-- Released is noted for each of these addresses
unfoldable pub releases : List Address → Turn → Turn
releases [] t = t
releases (a ∷ rest) t = releases rest (notes (note.Released a) t)

-- Install: what becomes of the node
unfoldable pub installed_node : Config → ℕ → ℕ → ℕ → List ℕ → List TableRow → List PTable → List Assigned → Node → Node
installed_node c me h g members table ptables assigned n = record n {
  pbase = g;
  phase = Installed;
  generation = g;
  members = members;
  leader = Some h;
  dbs = installed_dbs me 0 members table ptables n.dbs;
  placement = assigned_all c.addresses assigned;
  held = filter (is_own me assigned) n.held;
  last_run = 0;
}

-- Install: of each row that the node is data master or location master of, one RSN more is made
unfoldable pub makes_rows : ℕ → List ℕ → List TableRow → Turn → Turn
makes_rows me members [] t = t
makes_rows me members (row ∷ rows) t =
    makes_rows me members rows (if nat_eq me (row_master row) || nat_eq me (master_of members row.key) then makes (row.rsn + 1) t else t)

-- Install: the node is changed, and notes Installed and then Released for each address that it gave up
unfoldable pub installs : Config → ℕ → ℕ → ℕ → List ℕ → List TableRow → List PTable → List Assigned → Turn → Turn
installs c me h g members table ptables assigned t =
    releases (filter (λ a. not (is_own me assigned a)) t.node.held)
    (notes (note.Installed g) (with_node (installed_node c me h g members table ptables assigned t.node) (makes_rows me members table t)))

-- Push: a node that is Frozen for this generation installs it, and one that is present in it acknowledges again
unfoldable pub on_push : Config → ℕ → ℕ → ℕ → List ℕ → List TableRow → List PTable → List Assigned → Turn → Turn
on_push c me h g members table ptables assigned t =
    if is_frozen_in g t.node.phase then posts g me h msg.PushAck (installs c me h g members table ptables assigned t)
    else (if is_present_in g t.node then posts g me h msg.PushAck t else t)

-- ---- PushAck: once all have installed, they are thawed

-- PushAck: what a round knows of addresses once it is completed
unfoldable pub completed : Config → PushBody → Takeover
completed c b = record { made = assigned_all c.addresses b.assigned; number = 0; run = NoRun }

-- PushAck: these are missing still; where nobody is, the round is completed and all members get a Thaw
unfoldable pub all_installed : Config → ℕ → ℕ → List ℕ → PushBody → Turn → List ℕ → Turn
all_installed c me g members b t [] = posts_all g me members msg.Thaw (with_lead (Completed g members (completed c b)) t)
all_installed c me g members b t (m ∷ ms) = with_lead (Installs g members (m ∷ ms) b) t

-- PushAck: the leader that waits for it strikes its sender off
unfoldable pub on_pushack : Config → ℕ → ℕ → ℕ → Turn → Lead → Turn
on_pushack c me n g t (Installs h members missing b) =
    if nat_eq h g && is_among n missing then all_installed c me g members b t (others n missing) else t
on_pushack c me n g t _ = t

-- ---- Thaw: the node serves again, and every pending call wants its record anew

-- a client's call that waits for a record
pub record Called : Type 0 where
  pub call : ℕ
  pub db : ℕ
  pub key : List ℕ

-- the call of a wish
unfoldable pub called_of : ℕ → List ℕ → Option Wish → List Called
called_of db key None = []
called_of db key (Some w) = record { call = w.call; db = db; key = key } ∷ []

-- the calls that wait in a database, by key
unfoldable pub calls_of : ℕ → Pairs RecState → List Called
calls_of db [] = []
calls_of db (e ∷ m) = called_of db e.0 e.1.wish ++ calls_of db m

-- the calls that wait, by database and key; i is the number of the first of these databases
unfoldable pub calls_in : ℕ → List Database → List Called
calls_in i [] = []
calls_in i (d ∷ ds) = calls_of i d.records ++ calls_in (i + 1) ds

-- the calls that wait for a record at the node, by number
unfoldable pub pending_calls : Node → List Called
pending_calls n = by_number (λ x. x.call) (calls_in 0 n.dbs)

-- Thaw: the wish is cleared, and its call wants the record anew
unfoldable pub want_again_of : Place → Rules → Moving → Option Wish → Moving
want_again_of at rules o None = o
want_again_of at rules o (Some w) = want at rules w.call w.op (keeps (record o.state { wish = None }) o)

-- Thaw: the call that waits for this record wants it anew
unfoldable pub want_again : Rules → Place → Moving → Moving
want_again rules at o = want_again_of at rules o o.state.wish

-- Thaw: these calls want their records anew, one after the other
unfoldable pub want_all : Config → Rules → ℕ → List Called → Turn → Turn
want_all c rules me [] t = t
want_all c rules me (x ∷ xs) t = want_all c rules me xs (at_record c me x.db x.key (want_again rules) t)

-- Thaw: the node serves and notes it, and each call that waits wants its record anew
unfoldable pub thaws : Config → Rules → ℕ → ℕ → Turn → Turn
thaws c rules me g t = want_all c rules me (pending_calls t.node) (notes (note.Thawed g) (with_phase Serving t))

-- Thaw: a node that has installed this generation is thawed
unfoldable pub on_thaw : Config → Rules → ℕ → ℕ → Turn → Phase → Turn
on_thaw c rules me g t Installed = if nat_eq t.node.generation g then thaws c rules me g t else t
on_thaw c rules me g t _ = t

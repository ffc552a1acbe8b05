-- Reading a frame field by field: what each field keeps, and which field it leads to. `at` is the field's offset in the
-- frame, and a field that breaks its rule is named by its offset, or by that of the item that it makes break a rule.
use Rattle.std.specs.Prelude.{ℕ, ◌-◌, Bool, true, false, ◌&&◌, ◌||◌, ◌==◌, nat_lt, nat_eq, List, [], ◌∷◌, ◌++◌, length, slice_get, Option, None, Some, if◌then◌else◌}
use Rattle.std.specs.List.{list_any}
use Rattle.ct_values.specs.declared.address.Address.{Address}
use Rattle.ct_frame.specs.declared.frame.CallKind.{CallKind}
use Rattle.ct_frame.specs.declared.frame.CallKind.TheVariants as kind
use Rattle.ct_frame.specs.declared.frame.Msg.{Msg}
use Rattle.ct_frame.specs.declared.frame.Msg.TheVariants as msg
use Rattle.ct_frame.specs.Fields.{is_below_limit, is_from_one, is_node, is_db}
use Rattle.ct_wire_fields.specs.declared.place.Operation.{Operation}
use Rattle.ct_wire_fields.specs.declared.place.Operation.TheVariants.{Call, Recall, Give, Pass, Refuse, Grant, Done, Revoke, RevokeAck, VStore, VStored, VDelete, VDeleted, Freeze, FreezeAck, Pull, PullReply, Push, PushAck, Thaw, PUpdate, PAck, Release, ReleaseAck, Take}
use Rattle.ct_wire_fields.specs.declared.place.NumberPlace.{NumberPlace}
use Rattle.ct_wire_fields.specs.declared.place.NumberPlace.TheVariants as number
use Rattle.ct_wire_fields.specs.declared.place.TextPlace.{TextPlace}
use Rattle.ct_wire_fields.specs.declared.place.TextPlace.TheVariants as text
use Rattle.ct_wire_fields.specs.declared.place.AddressPlace.{AddressPlace}
use Rattle.ct_wire_fields.specs.declared.place.AddressPlace.TheVariants as address
use Rattle.ct_wire_fields.specs.declared.place.Place.TheVariants as place
use Rattle.ct_wire_fields.specs.declared.version.Version.{Version}
use Rattle.ct_wire_fields.specs.declared.version.Version.TheVariants.{One}
use Rattle.ct_wire_fields.specs.declared.draft.Head.{Head}
use Rattle.ct_wire_fields.specs.declared.draft.Draft.{Draft}
use Rattle.ct_wire_fields.specs.declared.draft.Step.{Step}
use Rattle.ct_wire_fields.specs.declared.draft.Step.TheVariants.{Next, Whole, Broken}
use Rattle.ct_wire_fields.specs.declared.draft.Led.{Led}
use Rattle.ct_wire_fields.specs.declared.draft.Led.TheVariants as led
use Rattle.ct_wire_fields.specs.Version.{names_masters, version_of}
use Rattle.ct_wire_fields.specs.Check.{is_count, last_of, key_of, value_of, follows_node, follows_db, follows_row, follows_pair, follows_ptable, follows_address, follows_assigned}

-- nothing has been read
abbrev pub no_draft : Draft
no_draft = record {
  head = record { length = 0; version = One; generation = 0; operation = Call; receiver = 0; sender = 0; request = 0 };
  db = 0;
  rsn = 0;
  node = 0;
  seq = 0;
  run = 0;
  vbase = 0;
  pbase = 0;
  nodes = [];
  table = [];
  ptables = [];
  pairs = [];
  addresses = [];
  assigned = [];
}

-- what a field led to, with the draft as it left it
abbrev pub step_of : Led → Draft → Step
step_of (led.Next p) d = Next (record { draft = d; place = p })
step_of (led.Whole f) d = Whole f
step_of (led.Broken offset) d = Broken offset

abbrev pub to_number : Draft → NumberPlace → Step
to_number d p = Next (record { draft = d; place = place.Number p })

abbrev pub to_text : Draft → TextPlace → Step
to_text d p = Next (record { draft = d; place = place.Text p })

abbrev pub to_address : Draft → AddressPlace → Step
to_address d p = Next (record { draft = d; place = place.Address p })

-- the frame of this header and message
abbrev pub whole : Head → Msg → Step
whole h m = Whole (record { generation = h.generation; sender = h.sender; receiver = h.receiver; msg = m })

-- ---- the header

-- the operations in the order of their numbers, which count from 1
abbrev pub operations : List Operation
operations = Call ∷ Recall ∷ Give ∷ Pass ∷ Refuse ∷ Grant ∷ Done ∷ Revoke ∷ RevokeAck ∷ VStore ∷ VStored ∷ VDelete ∷ VDeleted ∷ Freeze ∷ FreezeAck ∷ Pull ∷ PullReply ∷ Push ∷ PushAck ∷ Thaw ∷ PUpdate ∷ PAck ∷ Release ∷ ReleaseAck ∷ Take ∷ []

abbrev pub operation_of : ℕ → Option Operation
operation_of n = if nat_lt 0 n then slice_get operations (n - 1) else None

-- what names the number of a request in its header
abbrev pub names_request : Operation → Bool
names_request Call = true
names_request Recall = true
names_request Pass = true
names_request Refuse = true
names_request Grant = true
names_request Done = true
names_request _ = false

-- the number of a request, or 0 where no request is named
abbrev pub is_request : Operation → ℕ → Bool
is_request o n = if names_request o then is_from_one n else n == 0

-- the first field of a body
abbrev pub begun : Draft → Operation → Step
begun d Freeze = to_number d number.NodeCount
begun d FreezeAck = whole d.head msg.FreezeAck
begun d Pull = whole d.head msg.Pull
begun d PullReply = to_number d number.VolatileBase
begun d Push = to_number d number.NodeCount
begun d PushAck = whole d.head msg.PushAck
begun d Thaw = whole d.head msg.Thaw
begun d Release = to_number d number.Run
begun d ReleaseAck = to_number d number.Run
begun d Take = to_number d number.Run
begun d _ = to_number d number.Db

-- from 40 bytes to 2^28
abbrev pub length_read : Draft → ℕ → ℕ → Step
length_read d at n = if nat_lt 39 n && nat_lt n 268435457 then to_number (record d { head = record d.head { length = n } }) number.Magic else Broken at

-- the bytes CTDB
abbrev pub magic_read : Draft → ℕ → ℕ → Step
magic_read d at n = if n == 1129595970 then to_number d number.Version else Broken at

abbrev pub version_found : Draft → ℕ → Option Version → Step
version_found d at None = Broken at
version_found d at (Some v) = to_number (record d { head = record d.head { version = v } }) number.Generation

abbrev pub version_read : Draft → ℕ → ℕ → Step
version_read d at n = version_found d at (version_of n)

abbrev pub generation_read : Draft → ℕ → ℕ → Step
generation_read d at n = if is_from_one n then to_number (record d { head = record d.head { generation = n } }) number.Operation else Broken at

abbrev pub operation_found : Draft → ℕ → Option Operation → Step
operation_found d at None = Broken at
operation_found d at (Some o) = to_number (record d { head = record d.head { operation = o } }) number.Receiver

abbrev pub operation_read : Draft → ℕ → ℕ → Step
operation_read d at n = operation_found d at (operation_of n)

abbrev pub receiver_read : Draft → ℕ → ℕ → Step
receiver_read d at n = if is_node n then to_number (record d { head = record d.head { receiver = n } }) number.Sender else Broken at

abbrev pub sender_read : Draft → ℕ → ℕ → Step
sender_read d at n = if is_node n then to_number (record d { head = record d.head { sender = n } }) number.Request else Broken at

abbrev pub request_read : Draft → ℕ → ℕ → Step
request_read d at n = if is_request d.head.operation n then begun (record d { head = record d.head { request = n } }) d.head.operation else Broken at

-- ---- messages of one record, and the acknowledgement of a commit

abbrev pub after_db : Draft → Operation → Step
after_db d PUpdate = to_number d number.Seq
after_db d PAck = to_number d number.Seq
after_db d _ = to_text d text.Key

abbrev pub db_read : Draft → ℕ → ℕ → Step
db_read d at n = if is_db n then after_db (record d { db = n }) d.head.operation else Broken at

abbrev pub after_key : Draft → List ℕ → Operation → Step
after_key d key Call = to_number d (number.Kind key)
after_key d key Recall = to_number d (number.Least key)
after_key d key Done = to_number d (number.Node key)
after_key d key _ = to_number d (number.Rsn key)

abbrev pub key_found : Draft → ℕ → Option (List ℕ) → Step
key_found d at None = Broken at
key_found d at (Some key) = after_key d key d.head.operation

abbrev pub least_read : Draft → ℕ → List ℕ → ℕ → Step
least_read d at key n = if is_below_limit n then to_number (record d { rsn = n }) (number.Node key) else Broken at

abbrev pub after_node : Draft → List ℕ → Operation → Step
after_node d key Recall = to_number d (number.Kind key)
after_node d key _ = whole d.head (msg.Done d.db key d.node d.head.request)

abbrev pub node_read : Draft → ℕ → List ℕ → ℕ → Step
node_read d at key n = if is_node n then after_node (record d { node = n }) key d.head.operation else Broken at

abbrev pub after_kind : Draft → List ℕ → CallKind → Operation → Step
after_kind d key k Recall = whole d.head (msg.Recall d.db key d.rsn d.node d.head.request k)
after_kind d key k _ = whole d.head (msg.Call d.db key d.head.request k)

-- 0 is Lock, and 1 Read
abbrev pub kind_read : Draft → ℕ → List ℕ → ℕ → Step
kind_read d at key n = if n == 0 then after_kind d key kind.Lock d.head.operation else (if n == 1 then after_kind d key kind.Read d.head.operation else Broken at)

abbrev pub after_rsn : Draft → ℕ → List ℕ → Operation → Step
after_rsn d at key Give = to_text d (text.Value key)
after_rsn d at key Pass = to_text d (text.Value key)
after_rsn d at key Grant = to_text d (text.Value key)
after_rsn d at key Refuse = whole d.head (msg.Refuse d.db key d.head.request d.rsn)
after_rsn d at key Revoke = whole d.head (msg.Revoke d.db key d.rsn)
after_rsn d at key RevokeAck = whole d.head (msg.RevokeAck d.db key d.rsn)
after_rsn d at key VStore = whole d.head (msg.VStore d.db key d.rsn)
after_rsn d at key VStored = whole d.head (msg.VStored d.db key d.rsn)
after_rsn d at key VDelete = whole d.head (msg.VDelete d.db key d.rsn)
after_rsn d at key VDeleted = whole d.head (msg.VDeleted d.db key d.rsn)
after_rsn d at key _ = Broken at

abbrev pub rsn_read : Draft → ℕ → List ℕ → ℕ → Step
rsn_read d at key n = if is_below_limit n then after_rsn (record d { rsn = n }) at key d.head.operation else Broken at

abbrev pub after_value : Draft → List ℕ → List ℕ → Operation → Step
after_value d key value Give = whole d.head (msg.Give d.db key d.rsn value)
after_value d key value Pass = whole d.head (msg.Pass d.db key d.head.request d.rsn value)
after_value d key value _ = whole d.head (msg.Grant d.db key d.head.request d.rsn value)

abbrev pub value_found : Draft → ℕ → List ℕ → Option (List ℕ) → Step
value_found d at key None = Broken at
value_found d at key (Some value) = after_value d key value d.head.operation

-- ---- a commit

abbrev pub after_seq : Draft → Operation → Step
after_seq d PUpdate = to_number d number.WriteCount
after_seq d _ = whole d.head (msg.PAck d.db d.seq)

abbrev pub seq_read : Draft → ℕ → ℕ → Step
seq_read d at n = if is_from_one n then after_seq (record d { seq = n }) d.head.operation else Broken at

abbrev pub write_count_read : Draft → ℕ → ℕ → Step
write_count_read d at n = if is_count n then to_text d (text.WriteKey n) else Broken at

abbrev pub write_key_found : Draft → ℕ → ℕ → Option (List ℕ) → Step
write_key_found d at left None = Broken at
write_key_found d at left (Some key) = to_text d (text.WriteValue left key)

-- the next write, where `left` are to come, this one among them
abbrev pub next_write : Draft → ℕ → Step
next_write d left = if nat_lt 1 left then to_text d (text.WriteKey (left - 1)) else whole d.head (msg.PUpdate d.db d.seq d.pairs)

abbrev pub write_value_found : Draft → ℕ → ℕ → List ℕ → Option (List ℕ) → Step
write_value_found d at left key None = Broken at
write_value_found d at left key (Some value) = next_write (record d { pairs = d.pairs ++ record { key = key; value = value } ∷ [] }) left

-- ---- lists of nodes

abbrev pub node_count_read : Draft → ℕ → ℕ → Step
node_count_read d at n = if is_count n then to_number d (number.NodeItem n) else Broken at

abbrev pub after_nodes : Draft → Operation → Step
after_nodes d Freeze = whole d.head (msg.Freeze d.nodes)
after_nodes d _ = to_number d number.RowCount

abbrev pub next_node : Draft → ℕ → Step
next_node d left = if nat_lt 1 left then to_number d (number.NodeItem (left - 1)) else after_nodes d d.head.operation

abbrev pub node_item_read : Draft → ℕ → ℕ → ℕ → Step
node_item_read d at left n = if is_node n && follows_node (last_of d.nodes) n then next_node (record d { nodes = d.nodes ++ n ∷ [] }) left else Broken at

-- ---- tables

abbrev pub volatile_base_read : Draft → ℕ → ℕ → Step
volatile_base_read d at n = if is_below_limit n then to_number (record d { vbase = n }) number.PersistentBase else Broken at

abbrev pub persistent_base_read : Draft → ℕ → ℕ → Step
persistent_base_read d at n = if is_below_limit n then to_number (record d { pbase = n }) number.RowCount else Broken at

-- the next row, or the persistent databases, where `left` rows are to come
abbrev pub rows_left : Draft → ℕ → Step
rows_left d left = if nat_lt 0 left then to_number d (number.RowDb left) else to_number d number.PTableCount

-- in version 1 the sender of a Push is data master of each row, and so has to be one of its nodes
abbrev pub may_have_row : Draft → Operation → Bool
may_have_row d Push = names_masters d.head.version || list_any (nat_eq d.head.sender) d.nodes
may_have_row d _ = true

abbrev pub row_db_read : Draft → ℕ → ℕ → ℕ → Step
row_db_read d at left n = if is_db n && follows_db (last_of d.table) n && may_have_row d d.head.operation then to_text (record d { db = n }) (text.RowKey left at) else Broken at

abbrev pub row_key_found : Draft → ℕ → ℕ → ℕ → Option (List ℕ) → Step
row_key_found d at left start None = Broken at
row_key_found d at left start (Some key) = if follows_row (last_of d.table) d.db key then to_number d (number.RowRsn left key) else Broken start

abbrev pub row_rsn_read : Draft → ℕ → ℕ → List ℕ → ℕ → Step
row_rsn_read d at left key n = if is_below_limit n then to_text (record d { rsn = n }) (text.RowValue left key) else Broken at

abbrev pub with_row : Draft → List ℕ → List ℕ → Option ℕ → Draft
with_row d key value master = record d { table = d.table ++ record { db = d.db; key = key; rsn = d.rsn; value = value; master = master } ∷ [] }

-- the data master of a row of version 1
abbrev pub plain_master : Draft → Operation → Option ℕ
plain_master d Push = Some d.head.sender
plain_master d _ = None

abbrev pub row_value_found : Draft → ℕ → ℕ → List ℕ → Option (List ℕ) → Step
row_value_found d at left key None = Broken at
row_value_found d at left key (Some value) = if names_masters d.head.version then to_number d (number.RowMaster left key value) else rows_left (with_row d key value (plain_master d d.head.operation)) (left - 1)

-- one of the nodes in a Push; in a PullReply the sender, or 2^32 - 1 for none
abbrev pub master_of : Draft → ℕ → Operation → Option (Option ℕ)
master_of d n Push = if is_node n && list_any (nat_eq n) d.nodes then Some (Some n) else None
master_of d n _ = if n == 4294967295 then Some None else (if n == d.head.sender then Some (Some n) else None)

abbrev pub row_master_found : Draft → ℕ → ℕ → List ℕ → List ℕ → Option (Option ℕ) → Step
row_master_found d at left key value None = Broken at
row_master_found d at left key value (Some master) = rows_left (with_row d key value master) (left - 1)

abbrev pub row_master_read : Draft → ℕ → ℕ → List ℕ → List ℕ → ℕ → Step
row_master_read d at left key value n = row_master_found d at left key value (master_of d n d.head.operation)

-- ---- persistent databases

abbrev pub after_ptables : Draft → Operation → Step
after_ptables d PullReply = to_number d number.AddressCount
after_ptables d _ = to_number d number.AssignedCount

abbrev pub ptables_left : Draft → ℕ → Step
ptables_left d left = if nat_lt 0 left then to_number d (number.PTableDb left) else after_ptables d d.head.operation

abbrev pub ptable_db_read : Draft → ℕ → ℕ → ℕ → Step
ptable_db_read d at left n = if is_db n && follows_ptable (last_of d.ptables) n then to_number (record d { db = n }) (number.PTableSeq left) else Broken at

abbrev pub ptable_seq_read : Draft → ℕ → ℕ → ℕ → Step
ptable_seq_read d at left n = if is_below_limit n then to_number (record d { seq = n }) (number.PairCount left) else Broken at

-- the next pair of a persistent database, or the next database, where `more` pairs are to come
abbrev pub pairs_left : Draft → ℕ → ℕ → Step
pairs_left d left more = if nat_lt 0 more then to_text d (text.PairKey left more) else ptables_left (record d { ptables = d.ptables ++ record { db = d.db; seq = d.seq; pairs = d.pairs } ∷ []; pairs = [] }) (left - 1)

abbrev pub pair_key_found : Draft → ℕ → ℕ → ℕ → Option (List ℕ) → Step
pair_key_found d at left more None = Broken at
pair_key_found d at left more (Some key) = if follows_pair (last_of d.pairs) key then to_text d (text.PairValue left more key) else Broken at

abbrev pub pair_value_found : Draft → ℕ → ℕ → ℕ → List ℕ → Option (List ℕ) → Step
pair_value_found d at left more key None = Broken at
pair_value_found d at left more key (Some value) = if nat_lt 0 (length value) then pairs_left (record d { pairs = d.pairs ++ record { key = key; value = value } ∷ [] }) left (more - 1) else Broken at

-- ---- addresses

abbrev pub after_run : Draft → Operation → Step
after_run d Release = to_number d number.AddressCount
after_run d ReleaseAck = whole d.head (msg.ReleaseAck d.run)
after_run d _ = to_number d number.AssignedCount

abbrev pub run_read : Draft → ℕ → ℕ → Step
run_read d at n = if is_from_one n then after_run (record d { run = n }) d.head.operation else Broken at

abbrev pub addresses_whole : Draft → Operation → Step
addresses_whole d Release = whole d.head (msg.Release d.run d.addresses)
addresses_whole d _ = whole d.head (msg.PullReply d.vbase d.pbase d.table d.ptables d.addresses)

abbrev pub addresses_left : Draft → ℕ → Step
addresses_left d left = if nat_lt 0 left then to_address d (address.Held left) else addresses_whole d d.head.operation

abbrev pub held_read : Draft → ℕ → ℕ → Address → Step
held_read d at left a = if follows_address (last_of d.addresses) a then addresses_left (record d { addresses = d.addresses ++ a ∷ [] }) (left - 1) else Broken at

abbrev pub assigned_whole : Draft → Operation → Step
assigned_whole d Take = whole d.head (msg.Take d.run d.assigned)
assigned_whole d _ = whole d.head (msg.Push d.nodes d.table d.ptables d.assigned)

abbrev pub assigned_left : Draft → ℕ → Step
assigned_left d left = if nat_lt 0 left then to_address d (address.Assigned left) else assigned_whole d d.head.operation

abbrev pub assigned_read : Draft → ℕ → ℕ → Address → Step
assigned_read d at left a = if follows_assigned (last_of d.assigned) a then to_number d (number.AssignedNode left a) else Broken at

abbrev pub assigned_node_read : Draft → ℕ → ℕ → Address → ℕ → Step
assigned_node_read d at left a n = if is_node n then assigned_left (record d { assigned = d.assigned ++ record { address = a; node = Some n } ∷ [] }) (left - 1) else Broken at

-- ---- every place

abbrev pub number_read : Draft → ℕ → ℕ → NumberPlace → Step
number_read d at n number.Length = length_read d at n
number_read d at n number.Magic = magic_read d at n
number_read d at n number.Version = version_read d at n
number_read d at n number.Generation = generation_read d at n
number_read d at n number.Operation = operation_read d at n
number_read d at n number.Receiver = receiver_read d at n
number_read d at n number.Sender = sender_read d at n
number_read d at n number.Request = request_read d at n
number_read d at n number.Db = db_read d at n
number_read d at n (number.Kind key) = kind_read d at key n
number_read d at n (number.Least key) = least_read d at key n
number_read d at n (number.Node key) = node_read d at key n
number_read d at n (number.Rsn key) = rsn_read d at key n
number_read d at n number.NodeCount = node_count_read d at n
number_read d at n (number.NodeItem left) = node_item_read d at left n
number_read d at n number.VolatileBase = volatile_base_read d at n
number_read d at n number.PersistentBase = persistent_base_read d at n
number_read d at n number.RowCount = rows_left d n
number_read d at n (number.RowDb left) = row_db_read d at left n
number_read d at n (number.RowRsn left key) = row_rsn_read d at left key n
number_read d at n (number.RowMaster left key value) = row_master_read d at left key value n
number_read d at n number.PTableCount = ptables_left d n
number_read d at n (number.PTableDb left) = ptable_db_read d at left n
number_read d at n (number.PTableSeq left) = ptable_seq_read d at left n
number_read d at n (number.PairCount left) = pairs_left d left n
number_read d at n number.AddressCount = addresses_left d n
number_read d at n number.AssignedCount = assigned_left d n
number_read d at n (number.AssignedNode left a) = assigned_node_read d at left a n
number_read d at n number.Seq = seq_read d at n
number_read d at n number.WriteCount = write_count_read d at n
number_read d at n number.Run = run_read d at n

abbrev pub text_read : Draft → ℕ → List ℕ → TextPlace → Step
text_read d at t text.Key = key_found d at (key_of t)
text_read d at t (text.Value key) = value_found d at key (value_of t)
text_read d at t (text.RowKey left start) = row_key_found d at left start (key_of t)
text_read d at t (text.RowValue left key) = row_value_found d at left key (value_of t)
text_read d at t (text.PairKey left more) = pair_key_found d at left more (key_of t)
text_read d at t (text.PairValue left more key) = pair_value_found d at left more key (value_of t)
text_read d at t (text.WriteKey left) = write_key_found d at left (key_of t)
text_read d at t (text.WriteValue left key) = write_value_found d at left key (value_of t)

abbrev pub address_read : Draft → ℕ → Address → AddressPlace → Step
address_read d at a (address.Held left) = held_read d at left a
address_read d at a (address.Assigned left) = assigned_read d at left a

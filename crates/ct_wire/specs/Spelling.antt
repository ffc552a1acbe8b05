-- The layout of a frame: each field with its width, in the order of the bytes. Numbers are big-endian. The version of
-- the layout says how an address is written and whether a row has its data master.
use Rattle.std.specs.Prelude.{ℕ, ◌+◌, ◌/◌, ◌%◌, ◌^◌, List, [], ◌∷◌, ◌++◌, length, Option, None, Some, if◌then◌else◌}
use Rattle.std.specs.List.{flat_map}
use Rattle.std.specs.Int.{w16, w32, w64, to_be_bytes}
use Rattle.ct_values.specs.declared.address.Address.{Address}
use Rattle.ct_values.specs.declared.address.Address.TheVariants.{V4, V6}
use Rattle.ct_values.specs.declared.client.Pair.{Pair}
use Rattle.ct_frame.specs.declared.frame.Assigned.{Assigned}
use Rattle.ct_frame.specs.declared.frame.CallKind.{CallKind}
use Rattle.ct_frame.specs.declared.frame.CallKind.TheVariants.{Lock, Read}
use Rattle.ct_frame.specs.declared.frame.Frame.{Frame}
use Rattle.ct_frame.specs.declared.frame.Msg.{Msg}
use Rattle.ct_frame.specs.declared.frame.Msg.TheVariants.{Call, Recall, Give, Pass, Refuse, Grant, Done, Revoke, RevokeAck, VStore, VStored, VDelete, VDeleted, Freeze, FreezeAck, Pull, PullReply, Push, PushAck, Thaw, PUpdate, PAck, Release, ReleaseAck, Take}
use Rattle.ct_frame.specs.declared.frame.PTable.{PTable}
use Rattle.ct_frame.specs.declared.frame.TableRow.{TableRow}
use Rattle.ct_wire_fields.specs.declared.version.Version.{Version}
use Rattle.ct_wire_fields.specs.Version.{names_families, names_masters, version_number}

-- numbers of four and of eight bytes
abbrev pub u32 : ℕ → List ℕ
u32 n = to_be_bytes w32 n

abbrev pub u64 : ℕ → List ℕ
u64 n = to_be_bytes w64 n

-- a byte of length, and that many bytes
abbrev pub key : List ℕ → List ℕ
key k = length k ∷ k

-- two bytes of length, and that many bytes
abbrev pub value : List ℕ → List ℕ
value v = to_be_bytes w16 (length v) ++ v

-- a byte
abbrev pub kind : CallKind → List ℕ
kind Lock = 0 ∷ []
kind Read = 1 ∷ []

-- a byte for the family, and its number; in a version that names no families the number alone, and no IPv6 address
abbrev pub address : Version → Address → List ℕ
address v (V4 n) = if names_families v then 4 ∷ u32 n else u32 n
address v (V6 n) = 6 ∷ u64 (n / 2 ^ 64) ++ u64 (n % 2 ^ 64)

-- a node, or 2^32 - 1 for none
abbrev pub node_or_none : Option ℕ → List ℕ
node_or_none None = u32 4294967295
node_or_none (Some n) = u32 n

-- four bytes for the number of items, and the items
abbrev pub list : {X : Type 0} → (X → List ℕ) → List X → List ℕ
list item xs = u32 (length xs) ++ flat_map item xs

-- a row of a table, with its data master where the version names it
abbrev pub row : Version → TableRow → List ℕ
row v r = u32 r.db ++ key r.key ++ u64 r.rsn ++ value r.value ++ (if names_masters v then node_or_none r.master else [])

abbrev pub pair : Pair → List ℕ
pair p = key p.key ++ value p.value

unfoldable pub ptable : PTable → List ℕ
ptable t = u32 t.db ++ u64 t.seq ++ list pair t.pairs

abbrev pub assigned : Version → Assigned → List ℕ
assigned v a = address v a.address ++ node_or_none a.node

-- the generations from which the volatile and the persistent databases of a member come
unfoldable pub bases : ℕ → ℕ → List ℕ
bases vbase pbase = u64 vbase ++ u64 pbase

-- what a member holds
unfoldable pub held : Version → List TableRow → List PTable → List Address → List ℕ
held v table ptables addresses = list (row v) table ++ list ptable ptables ++ list (address v) addresses

-- the fields of each message
unfoldable pub body : Version → Msg → List ℕ
body v (Call db k request call) = u32 db ++ key k ++ kind call
body v (Recall db k least node request call) = u32 db ++ key k ++ u64 least ++ u32 node ++ kind call
body v (Give db k rsn x) = u32 db ++ key k ++ u64 rsn ++ value x
body v (Pass db k request rsn x) = u32 db ++ key k ++ u64 rsn ++ value x
body v (Refuse db k request rsn) = u32 db ++ key k ++ u64 rsn
body v (Grant db k request rsn x) = u32 db ++ key k ++ u64 rsn ++ value x
body v (Done db k node request) = u32 db ++ key k ++ u32 node
body v (Revoke db k rsn) = u32 db ++ key k ++ u64 rsn
body v (RevokeAck db k rsn) = u32 db ++ key k ++ u64 rsn
body v (VStore db k rsn) = u32 db ++ key k ++ u64 rsn
body v (VStored db k rsn) = u32 db ++ key k ++ u64 rsn
body v (VDelete db k rsn) = u32 db ++ key k ++ u64 rsn
body v (VDeleted db k rsn) = u32 db ++ key k ++ u64 rsn
body v (Freeze members) = list u32 members
body v FreezeAck = []
body v Pull = []
body v (PullReply vbase pbase table ptables addresses) = bases vbase pbase ++ held v table ptables addresses
body v (Push members table ptables assigns) = list u32 members ++ list (row v) table ++ list ptable ptables ++ list (assigned v) assigns
body v PushAck = []
body v Thaw = []
body v (PUpdate db seq writes) = u32 db ++ u64 seq ++ list pair writes
body v (PAck db seq) = u32 db ++ u64 seq
body v (Release run keep) = u64 run ++ list (address v) keep
body v (ReleaseAck run) = u64 run
body v (Take run assigns) = u64 run ++ list (assigned v) assigns

-- the number of each message
abbrev pub operation : Msg → ℕ
operation (Call db k request call) = 1
operation (Recall db k least node request call) = 2
operation (Give db k rsn x) = 3
operation (Pass db k request rsn x) = 4
operation (Refuse db k request rsn) = 5
operation (Grant db k request rsn x) = 6
operation (Done db k node request) = 7
operation (Revoke db k rsn) = 8
operation (RevokeAck db k rsn) = 9
operation (VStore db k rsn) = 10
operation (VStored db k rsn) = 11
operation (VDelete db k rsn) = 12
operation (VDeleted db k rsn) = 13
operation (Freeze members) = 14
operation FreezeAck = 15
operation Pull = 16
operation (PullReply vbase pbase table ptables addresses) = 17
operation (Push members table ptables assigns) = 18
operation PushAck = 19
operation Thaw = 20
operation (PUpdate db seq writes) = 21
operation (PAck db seq) = 22
operation (Release run keep) = 23
operation (ReleaseAck run) = 24
operation (Take run assigns) = 25

-- the request that a message names, or 0
abbrev pub request : Msg → ℕ
request (Call db k q call) = q
request (Recall db k least node q call) = q
request (Pass db k q rsn x) = q
request (Refuse db k q rsn) = q
request (Grant db k q rsn x) = q
request (Done db k node q) = q
request _ = 0

-- the first fields of the header: length, the bytes CTDB, version and generation
abbrev pub front : Version → Frame → ℕ → List ℕ
front v f size = u32 size ++ u32 1129595970 ++ u32 (version_number v) ++ u64 f.generation

-- the others: operation, receiver, sender and request
abbrev pub names : Frame → List ℕ
names f = u32 (operation f.msg) ++ u32 f.receiver ++ u32 f.sender ++ u64 (request f.msg)

-- the header of a frame of this size
abbrev pub header : Version → Frame → ℕ → List ℕ
header v f size = front v f size ++ names f

-- a header has 40 bytes
abbrev pub size : Version → Frame → ℕ
size v f = 40 + length (body v f.msg)

abbrev pub spelled : Version → Frame → List ℕ
spelled v f = header v f (size v f) ++ body v f.msg

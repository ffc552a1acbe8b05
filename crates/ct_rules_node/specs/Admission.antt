-- Which messages are dropped before their own rule is looked at.
use Rattle.std.specs.Prelude.{ℕ, ◌+◌, nat_eq, nat_lt, Bool, true, ◌&&◌, if◌then◌else◌, List, [], ◌∷◌, ◌++◌, map, Option, None, Some}
use Rattle.std.specs.List.{list_all, list_any}
use Rattle.std.specs.Cmp.Lexicographic.{pointwise}
use Rattle.ct_values.specs.Address.{same_address}
use Rattle.ct_values.specs.declared.address.Address.{Address}
use Rattle.ct_values.specs.declared.config.Config.{Config}
use Rattle.ct_values.specs.declared.config.DbDecl.{DbDecl}
use Rattle.ct_frame.specs.declared.frame.Assigned.{Assigned}
use Rattle.ct_frame.specs.declared.frame.Frame.{Frame}
use Rattle.ct_frame.specs.declared.frame.Msg.{Msg}
use Rattle.ct_frame.specs.declared.frame.Msg.TheVariants as msg
use Rattle.ct_frame.specs.declared.frame.PTable.{PTable}
use Rattle.ct_frame.specs.declared.frame.TableRow.{TableRow}
use Rattle.ct_rules_node.specs.Node.{Node, is_present_in, is_among, is_persistent, has_records, kind_at}

-- ---- what a message names

-- the record that a message speaks of: its database and its key
unfoldable pub record_in : Msg → Option (ℕ × List ℕ)
record_in (msg.Call db key request k) = Some (db, key)
record_in (msg.Recall db key least node request k) = Some (db, key)
record_in (msg.Give db key rsn value) = Some (db, key)
record_in (msg.Pass db key request rsn value) = Some (db, key)
record_in (msg.Refuse db key request rsn) = Some (db, key)
record_in (msg.Grant db key request rsn value) = Some (db, key)
record_in (msg.Done db key node request) = Some (db, key)
record_in (msg.Revoke db key rsn) = Some (db, key)
record_in (msg.RevokeAck db key rsn) = Some (db, key)
record_in (msg.VStore db key rsn) = Some (db, key)
record_in (msg.VStored db key rsn) = Some (db, key)
record_in (msg.VDelete db key rsn) = Some (db, key)
record_in (msg.VDeleted db key rsn) = Some (db, key)
record_in _ = None

-- the number, if there is one, as a list
unfoldable pub some_of : Option ℕ → List ℕ
some_of None = []
some_of (Some n) = n ∷ []

-- the nodes that rows name as data masters
unfoldable pub masters_in : List TableRow → List ℕ
masters_in [] = []
masters_in (row ∷ rows) = some_of row.master ++ masters_in rows

-- the nodes that addresses are assigned to
unfoldable pub nodes_in : List Assigned → List ℕ
nodes_in [] = []
nodes_in (x ∷ xs) = some_of x.node ++ nodes_in xs

-- Which messages are dropped: the nodes that a message names
unfoldable pub named_in : Msg → List ℕ
named_in (msg.Recall db key least node request k) = node ∷ []
named_in (msg.Done db key node request) = node ∷ []
named_in (msg.Freeze members) = members
named_in (msg.PullReply vbase pbase table ptables addresses) = masters_in table
named_in (msg.Push members table ptables assigned) = members ++ masters_in table ++ nodes_in assigned
named_in (msg.Take number assigned) = nodes_in assigned
named_in _ = []

-- the list of members that a message has
unfoldable pub members_in : Msg → Option (List ℕ)
members_in (msg.Freeze members) = Some members
members_in (msg.Push members table ptables assigned) = Some members
members_in _ = None

-- the rows that a message has
unfoldable pub table_in : Msg → List TableRow
table_in (msg.PullReply vbase pbase table ptables addresses) = table
table_in (msg.Push members table ptables assigned) = table
table_in _ = []

-- the persistent tables that a message has
unfoldable pub ptables_in : Msg → Option (List PTable)
ptables_in (msg.PullReply vbase pbase table ptables addresses) = Some ptables
ptables_in (msg.Push members table ptables assigned) = Some ptables
ptables_in _ = None

-- the addresses that a message names
unfoldable pub addresses_in : Msg → List Address
addresses_in (msg.PullReply vbase pbase table ptables addresses) = addresses
addresses_in (msg.Push members table ptables assigned) = map (λ x. x.address) assigned
addresses_in (msg.Release number keep) = keep
addresses_in (msg.Take number assigned) = map (λ x. x.address) assigned
addresses_in _ = []

-- ---- the conditions

-- Which messages are dropped: is this one current?
unfoldable pub is_current : Frame → Node → Bool
is_current f n = is_present_in f.generation n && is_among f.sender n.members && list_all (λ m. is_among m n.members) (named_in f.msg)

-- the numbers of the persistent databases; i is the number of the first of these databases
unfoldable pub persistent_from : ℕ → List DbDecl → List ℕ
persistent_from i [] = []
persistent_from i (d ∷ ds) = if is_persistent (Some d.kind) then i ∷ persistent_from (i + 1) ds else persistent_from (i + 1) ds

-- are the sender and the receiver among the members, where the message lists any?
unfoldable pub is_listed : Frame → Option (List ℕ) → Bool
is_listed f None = true
is_listed f (Some members) = is_among f.sender members && is_among f.receiver members

-- are these exactly the persistent databases, where the message has any?
unfoldable pub are_all : Config → Option (List PTable) → Bool
are_all c None = true
are_all c (Some ptables) = pointwise nat_eq (map (λ x. x.db) ptables) (persistent_from 0 c.dbs)

-- Which messages are dropped: is this one of a round or a run sound?
unfoldable pub is_sound : Config → Frame → Bool
is_sound c f =
    nat_lt f.sender c.nodes && list_all (λ n. nat_lt n c.nodes) (named_in f.msg) && is_listed f (members_in f.msg)
    && list_all (λ row. has_records (kind_at c row.db)) (table_in f.msg) && are_all c (ptables_in f.msg)
    && list_all (λ a. list_any (same_address a) c.addresses) (addresses_in f.msg)

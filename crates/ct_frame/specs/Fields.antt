-- The rules that the fields of a frame keep: their ranges, and the order of the lists.
use Rattle.std.specs.Prelude.{ℕ, ◌^◌, Bool, true, false, ◌&&◌, ◌||◌, ◌==◌, nat_lt, nat_eq, List, [], ◌∷◌, length, Option, None, Some}
use Rattle.std.specs.List.{list_all, list_any}
use Rattle.ct_values.specs.Key.{key_before}
use Rattle.ct_values.specs.Address.{address_before}
use Rattle.ct_values.specs.declared.address.Address.{Address}
use Rattle.ct_values.specs.declared.client.Pair.{Pair}
use Rattle.ct_frame.specs.declared.frame.Assigned.{Assigned}
use Rattle.ct_frame.specs.declared.frame.Frame.{Frame}
use Rattle.ct_frame.specs.declared.frame.Msg.{Msg}
use Rattle.ct_frame.specs.declared.frame.Msg.TheVariants.{Call, Recall, Give, Pass, Refuse, Grant, Done, Revoke, RevokeAck, VStore, VStored, VDelete, VDeleted, Freeze, FreezeAck, Pull, PullReply, Push, PushAck, Thaw, PUpdate, PAck, Release, ReleaseAck, Take}
use Rattle.ct_frame.specs.declared.frame.PTable.{PTable}
use Rattle.ct_frame.specs.declared.frame.TableRow.{TableRow}

-- each number is below 2^62
abbrev pub is_below_limit : ℕ → Bool
is_below_limit n = nat_lt n (2 ^ 62)

-- a number that counts from 1
abbrev pub is_from_one : ℕ → Bool
is_from_one n = nat_lt 0 n && nat_lt n (2 ^ 62)

-- nodes are numbered from 0 to 15
abbrev pub is_node : ℕ → Bool
is_node n = nat_lt n 16

-- databases have the places 0 to 15
abbrev pub is_db : ℕ → Bool
is_db n = nat_lt n 16

-- 1 to 16 items
abbrev pub is_one_to_sixteen : {X : Type 0} → List X → Bool
is_one_to_sixteen xs = nat_lt 0 (length xs) && nat_lt (length xs) 17

-- the first of these comes after x, and each of the others after the one before it
abbrev pub ascends_after : {X : Type 0} → (X → X → Bool) → X → List X → Bool
ascends_after before x [] = true
ascends_after before x (y ∷ ys) = before x y && ascends_after before y ys

-- each item comes before the next
abbrev pub ascends : {X : Type 0} → (X → X → Bool) → List X → Bool
ascends before [] = true
ascends before (x ∷ xs) = ascends_after before x xs

-- rows by database, and then by key
abbrev pub row_before : TableRow → TableRow → Bool
row_before a b = nat_lt a.db b.db || (a.db == b.db && key_before a.key b.key)

abbrev pub pair_before : Pair → Pair → Bool
pair_before a b = key_before a.key b.key

abbrev pub ptable_before : PTable → PTable → Bool
ptable_before a b = nat_lt a.db b.db

abbrev pub assigned_before : Assigned → Assigned → Bool
assigned_before a b = address_before a.address b.address

-- 1 to 16 nodes, in ascending order
abbrev pub are_nodes : List ℕ → Bool
are_nodes nodes = is_one_to_sixteen nodes && list_all is_node nodes && ascends nat_lt nodes

abbrev pub are_addresses : List Address → Bool
are_addresses addresses = ascends address_before addresses

-- a member names itself as data master of a row, or no node
abbrev pub is_own_or_none : ℕ → Option ℕ → Bool
is_own_or_none sender None = true
is_own_or_none sender (Some m) = nat_eq m sender

-- the leader names one of the members as data master of a row
abbrev pub is_member : List ℕ → Option ℕ → Bool
is_member members None = false
is_member members (Some m) = list_any (nat_eq m) members

abbrev pub is_row : (Option ℕ → Bool) → TableRow → Bool
is_row may_master row = is_db row.db && is_below_limit row.rsn && may_master row.master

abbrev pub are_rows : (Option ℕ → Bool) → List TableRow → Bool
are_rows may_master table = list_all (is_row may_master) table && ascends row_before table

-- a pair with the empty value would be one that is deleted
abbrev pub is_kept : Pair → Bool
is_kept pair = nat_lt 0 (length pair.value)

abbrev pub is_ptable : PTable → Bool
is_ptable ptable = is_db ptable.db && is_below_limit ptable.seq && list_all is_kept ptable.pairs && ascends pair_before ptable.pairs

abbrev pub are_ptables : List PTable → Bool
are_ptables ptables = list_all is_ptable ptables && ascends ptable_before ptables

abbrev pub is_some_node : Option ℕ → Bool
is_some_node None = false
is_some_node (Some n) = is_node n

-- an address that no node holds is left out
abbrev pub is_assigned : Assigned → Bool
is_assigned a = is_some_node a.node

abbrev pub are_assigned : List Assigned → Bool
are_assigned assigned = list_all is_assigned assigned && ascends assigned_before assigned

-- what a message of this sender keeps
abbrev pub is_message : ℕ → Msg → Bool
is_message sender (Call db key request kind) = is_db db && is_from_one request
is_message sender (Recall db key least node request kind) = is_db db && is_below_limit least && is_node node && is_from_one request
is_message sender (Give db key rsn value) = is_db db && is_below_limit rsn
is_message sender (Pass db key request rsn value) = is_db db && is_from_one request && is_below_limit rsn
is_message sender (Refuse db key request rsn) = is_db db && is_from_one request && is_below_limit rsn
is_message sender (Grant db key request rsn value) = is_db db && is_from_one request && is_below_limit rsn
is_message sender (Done db key node request) = is_db db && is_node node && is_from_one request
is_message sender (Revoke db key rsn) = is_db db && is_below_limit rsn
is_message sender (RevokeAck db key rsn) = is_db db && is_below_limit rsn
is_message sender (VStore db key rsn) = is_db db && is_below_limit rsn
is_message sender (VStored db key rsn) = is_db db && is_below_limit rsn
is_message sender (VDelete db key rsn) = is_db db && is_below_limit rsn
is_message sender (VDeleted db key rsn) = is_db db && is_below_limit rsn
is_message sender (Freeze members) = are_nodes members
is_message sender FreezeAck = true
is_message sender Pull = true
is_message sender (PullReply vbase pbase table ptables addresses) = is_below_limit vbase && is_below_limit pbase && are_rows (is_own_or_none sender) table && are_ptables ptables && are_addresses addresses
is_message sender (Push members table ptables assigned) = are_nodes members && are_rows (is_member members) table && are_ptables ptables && are_assigned assigned
is_message sender PushAck = true
is_message sender Thaw = true
is_message sender (PUpdate db seq writes) = is_db db && is_from_one seq && is_one_to_sixteen writes
is_message sender (PAck db seq) = is_db db && is_from_one seq
is_message sender (Release run keep) = is_from_one run && are_addresses keep
is_message sender (ReleaseAck run) = is_from_one run
is_message sender (Take run assigned) = is_from_one run && are_assigned assigned

-- the rules of a whole frame
abbrev pub well_formed : Frame → Bool
well_formed frame = is_from_one frame.generation && is_node frame.receiver && is_node frame.sender && is_message frame.sender frame.msg

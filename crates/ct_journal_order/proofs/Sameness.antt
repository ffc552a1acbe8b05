-- The derived test of two messages tells exactly whether they are the same.
use Rattle.std.proofs.Common.{◌≡◌, ℕ, Bool, ◌&&◌, nat_eq, List, arith, rules, refl}
use Rattle.std.specs.Bool.{Decides}
use Rattle.std.specs.Cmp.Lexicographic.{pointwise}
use Rattle.std.proofs.lemmas.Slice.Eq.{slice_eq-Decides}
use Rattle.ct_values.specs.contracts.address.AddressPartialEq.TheImpl as address
use Rattle.ct_values.specs.declared.address.Address.{Address}
use Rattle.ct_values.specs.contracts.client.PairPartialEq.TheImpl as pair
use Rattle.ct_values.specs.declared.client.Pair.{Pair}
use Rattle.ct_frame.specs.contracts.frame.AssignedPartialEq.TheImpl as assigned
use Rattle.ct_frame.specs.contracts.frame.FramePartialEq.TheImpl as frame
use Rattle.ct_frame.specs.contracts.frame.MsgPartialEq.TheImpl as msg
use Rattle.ct_frame.specs.contracts.frame.PTablePartialEq.TheImpl as table
use Rattle.ct_frame.specs.contracts.frame.TableRowPartialEq.TheImpl as row
use Rattle.ct_frame.specs.declared.frame.Assigned.{Assigned}
use Rattle.ct_frame.specs.declared.frame.CallKind.{CallKind}
use Rattle.ct_frame.specs.declared.frame.Frame.{Frame}
use Rattle.ct_frame.specs.declared.frame.Msg.{Msg}
use Rattle.ct_frame.specs.declared.frame.Msg.TheVariants.{Call, Recall, Give, Pass, Refuse, Grant, Done, Revoke, RevokeAck, VStore, VStored, VDelete, VDeleted, Freeze, FreezeAck, Pull, PullReply, Push, PushAck, Thaw, PUpdate, PAck, Release, ReleaseAck, Take}
use Rattle.ct_frame.specs.declared.frame.PTable.{PTable}
use Rattle.ct_frame.specs.declared.frame.TableRow.{TableRow}

-- ---- items and lists of them

decides_address : (a b : Address) → Decides (address.eq-value.it a b) (a ≡ b)
decides_address a b = search rules

decides_addresses : (a b : List Address) → Decides (pointwise address.eq-value.it a b) (a ≡ b)
decides_addresses a b = slice_eq-Decides decides_address a b _ refl

decides_row : (a b : TableRow) → Decides (row.eq-value.it a b) (a ≡ b)
decides_row a b = search rules

decides_rows : (a b : List TableRow) → Decides (pointwise row.eq-value.it a b) (a ≡ b)
decides_rows a b = slice_eq-Decides decides_row a b _ refl

decides_assigned : (a b : Assigned) → Decides (assigned.eq-value.it a b) (a ≡ b)
decides_assigned a b = search rules

decides_assigned_all : (a b : List Assigned) → Decides (pointwise assigned.eq-value.it a b) (a ≡ b)
decides_assigned_all a b = slice_eq-Decides decides_assigned a b _ refl

decides_pair : (a b : Pair) → Decides (pair.eq-value.it a b) (a ≡ b)
decides_pair a b = search rules

decides_pairs : (a b : List Pair) → Decides (pointwise pair.eq-value.it a b) (a ≡ b)
decides_pairs a b = slice_eq-Decides decides_pair a b _ refl

decides_table : (a b : PTable) → Decides (table.eq-value.it a b) (a ≡ b)
decides_table a b = grind (arith, decides_pairs a.pairs b.pairs)

decides_tables : (a b : List PTable) → Decides (pointwise table.eq-value.it a b) (a ≡ b)
decides_tables a b = slice_eq-Decides decides_table a b _ refl

-- ---- messages, by the first one

decides_Call : (db : ℕ) (key : List ℕ) (request : ℕ) (kind : CallKind) (b : Msg) → Decides (msg.eq-value.it (Call db key request kind) b) (Call db key request kind ≡ b)
decides_Call db key request kind b = search rules

decides_Recall : (db : ℕ) (key : List ℕ) (least : ℕ) (node : ℕ) (request : ℕ) (kind : CallKind) (b : Msg) → Decides (msg.eq-value.it (Recall db key least node request kind) b) (Recall db key least node request kind ≡ b)
decides_Recall db key least node request kind b = search rules

decides_Give : (db : ℕ) (key : List ℕ) (rsn : ℕ) (value : List ℕ) (b : Msg) → Decides (msg.eq-value.it (Give db key rsn value) b) (Give db key rsn value ≡ b)
decides_Give db key rsn value b = search rules

decides_Pass : (db : ℕ) (key : List ℕ) (request : ℕ) (rsn : ℕ) (value : List ℕ) (b : Msg) → Decides (msg.eq-value.it (Pass db key request rsn value) b) (Pass db key request rsn value ≡ b)
decides_Pass db key request rsn value b = search rules

decides_Refuse : (db : ℕ) (key : List ℕ) (request : ℕ) (rsn : ℕ) (b : Msg) → Decides (msg.eq-value.it (Refuse db key request rsn) b) (Refuse db key request rsn ≡ b)
decides_Refuse db key request rsn b = search rules

decides_Grant : (db : ℕ) (key : List ℕ) (request : ℕ) (rsn : ℕ) (value : List ℕ) (b : Msg) → Decides (msg.eq-value.it (Grant db key request rsn value) b) (Grant db key request rsn value ≡ b)
decides_Grant db key request rsn value b = search rules

decides_Done : (db : ℕ) (key : List ℕ) (node : ℕ) (request : ℕ) (b : Msg) → Decides (msg.eq-value.it (Done db key node request) b) (Done db key node request ≡ b)
decides_Done db key node request b = search rules

decides_Revoke : (db : ℕ) (key : List ℕ) (rsn : ℕ) (b : Msg) → Decides (msg.eq-value.it (Revoke db key rsn) b) (Revoke db key rsn ≡ b)
decides_Revoke db key rsn b = search rules

decides_RevokeAck : (db : ℕ) (key : List ℕ) (rsn : ℕ) (b : Msg) → Decides (msg.eq-value.it (RevokeAck db key rsn) b) (RevokeAck db key rsn ≡ b)
decides_RevokeAck db key rsn b = search rules

decides_VStore : (db : ℕ) (key : List ℕ) (rsn : ℕ) (b : Msg) → Decides (msg.eq-value.it (VStore db key rsn) b) (VStore db key rsn ≡ b)
decides_VStore db key rsn b = search rules

decides_VStored : (db : ℕ) (key : List ℕ) (rsn : ℕ) (b : Msg) → Decides (msg.eq-value.it (VStored db key rsn) b) (VStored db key rsn ≡ b)
decides_VStored db key rsn b = search rules

decides_VDelete : (db : ℕ) (key : List ℕ) (rsn : ℕ) (b : Msg) → Decides (msg.eq-value.it (VDelete db key rsn) b) (VDelete db key rsn ≡ b)
decides_VDelete db key rsn b = search rules

decides_VDeleted : (db : ℕ) (key : List ℕ) (rsn : ℕ) (b : Msg) → Decides (msg.eq-value.it (VDeleted db key rsn) b) (VDeleted db key rsn ≡ b)
decides_VDeleted db key rsn b = search rules

decides_Freeze : (members : List ℕ) (b : Msg) → Decides (msg.eq-value.it (Freeze members) b) (Freeze members ≡ b)
decides_Freeze members b = search rules

decides_FreezeAck : (b : Msg) → Decides (msg.eq-value.it FreezeAck b) (FreezeAck ≡ b)
decides_FreezeAck b = search rules

decides_Pull : (b : Msg) → Decides (msg.eq-value.it Pull b) (Pull ≡ b)
decides_Pull b = search rules

decides_PullReply : (vbase : ℕ) (pbase : ℕ) (rows : List TableRow) (tables : List PTable) (held : List Address) (b : Msg) → Decides (msg.eq-value.it (PullReply vbase pbase rows tables held) b) (PullReply vbase pbase rows tables held ≡ b)
decides_PullReply vbase pbase rows tables held b = search (rules, decides_rows, decides_tables, decides_addresses)

decides_Push : (members : List ℕ) (rows : List TableRow) (tables : List PTable) (placed : List Assigned) (b : Msg) → Decides (msg.eq-value.it (Push members rows tables placed) b) (Push members rows tables placed ≡ b)
decides_Push members rows tables placed b = search (rules, decides_rows, decides_tables, decides_assigned_all)

decides_PushAck : (b : Msg) → Decides (msg.eq-value.it PushAck b) (PushAck ≡ b)
decides_PushAck b = search rules

decides_Thaw : (b : Msg) → Decides (msg.eq-value.it Thaw b) (Thaw ≡ b)
decides_Thaw b = search rules

decides_PUpdate : (db : ℕ) (seq : ℕ) (writes : List Pair) (b : Msg) → Decides (msg.eq-value.it (PUpdate db seq writes) b) (PUpdate db seq writes ≡ b)
decides_PUpdate db seq writes b = search (rules, decides_pairs)

decides_PAck : (db : ℕ) (seq : ℕ) (b : Msg) → Decides (msg.eq-value.it (PAck db seq) b) (PAck db seq ≡ b)
decides_PAck db seq b = search rules

decides_Release : (run : ℕ) (keep : List Address) (b : Msg) → Decides (msg.eq-value.it (Release run keep) b) (Release run keep ≡ b)
decides_Release run keep b = search (rules, decides_addresses)

decides_ReleaseAck : (run : ℕ) (b : Msg) → Decides (msg.eq-value.it (ReleaseAck run) b) (ReleaseAck run ≡ b)
decides_ReleaseAck run b = search rules

decides_Take : (run : ℕ) (placed : List Assigned) (b : Msg) → Decides (msg.eq-value.it (Take run placed) b) (Take run placed ≡ b)
decides_Take run placed b = search (rules, decides_assigned_all)

decides_msg : (a b : Msg) → Decides (msg.eq-value.it a b) (a ≡ b)
decides_msg (Call db key request kind) b = decides_Call db key request kind b
decides_msg (Recall db key least node request kind) b = decides_Recall db key least node request kind b
decides_msg (Give db key rsn value) b = decides_Give db key rsn value b
decides_msg (Pass db key request rsn value) b = decides_Pass db key request rsn value b
decides_msg (Refuse db key request rsn) b = decides_Refuse db key request rsn b
decides_msg (Grant db key request rsn value) b = decides_Grant db key request rsn value b
decides_msg (Done db key node request) b = decides_Done db key node request b
decides_msg (Revoke db key rsn) b = decides_Revoke db key rsn b
decides_msg (RevokeAck db key rsn) b = decides_RevokeAck db key rsn b
decides_msg (VStore db key rsn) b = decides_VStore db key rsn b
decides_msg (VStored db key rsn) b = decides_VStored db key rsn b
decides_msg (VDelete db key rsn) b = decides_VDelete db key rsn b
decides_msg (VDeleted db key rsn) b = decides_VDeleted db key rsn b
decides_msg (Freeze members) b = decides_Freeze members b
decides_msg FreezeAck b = decides_FreezeAck b
decides_msg Pull b = decides_Pull b
decides_msg (PullReply vbase pbase rows tables held) b = decides_PullReply vbase pbase rows tables held b
decides_msg (Push members rows tables placed) b = decides_Push members rows tables placed b
decides_msg PushAck b = decides_PushAck b
decides_msg Thaw b = decides_Thaw b
decides_msg (PUpdate db seq writes) b = decides_PUpdate db seq writes b
decides_msg (PAck db seq) b = decides_PAck db seq b
decides_msg (Release run keep) b = decides_Release run keep b
decides_msg (ReleaseAck run) b = decides_ReleaseAck run b
decides_msg (Take run placed) b = decides_Take run placed b

frame_parts : (a b : Frame) (r : Bool) → Decides r (a.msg ≡ b.msg) → Decides (nat_eq a.generation b.generation && (nat_eq a.sender b.sender && (nat_eq a.receiver b.receiver && r))) (a ≡ b)
frame_parts a b r h = grind arith

pub decides_frame : (a b : Frame) → Decides (frame.eq-value.it a b) (a ≡ b)
decides_frame a b = frame_parts a b (msg.eq-value.it a.msg b.msg) (decides_msg a.msg b.msg)

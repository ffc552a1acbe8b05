-- The text of a message: its name in lower case, and its fields.
use Rattle.std.specs.Prelude.{ℕ, ◌+◌, List, [], ◌∷◌, ◌++◌, length, codes}
use Rattle.std.specs.Fmt.{decimal}
use Rattle.ct_values.specs.Address.{address_text}
use Rattle.ct_spelling.specs.Spelling.{spelling}
use Rattle.ct_values.specs.declared.config.Config.{Config}
use Rattle.ct_frame.specs.declared.frame.CallKind.{CallKind}
use Rattle.ct_frame.specs.declared.frame.CallKind.TheVariants as kind
use Rattle.ct_frame.specs.declared.frame.Msg.{Msg}
use Rattle.ct_frame.specs.declared.frame.Msg.TheVariants as msg
use Rattle.ct_frame.specs.declared.frame.PTable.{PTable}
use Rattle.ct_rules_node.specs.Node.{name_of}
use Rattle.ct_text.specs.Words.{assigned_text, items_text, record_text}

-- what a request is for
abbrev pub kind_text : CallKind → List ℕ
kind_text kind.Lock = codes " lock"
kind_text kind.Read = codes " read"

-- how many pairs persistent databases have together
abbrev pub pairs_in : List PTable → ℕ
pairs_in [] = 0
pairs_in (table ∷ tables) = length table.pairs + pairs_in tables

-- how much of records, of persistent databases and of addresses there is
abbrev pub counts_text : ℕ → ℕ → ℕ → List ℕ
counts_text rows pairs addresses = codes " " ++ decimal rows ++ codes " " ++ decimal pairs ++ codes " " ++ decimal addresses

-- a record and a number of it
abbrev pub rsn_text : Config → List ℕ → ℕ → List ℕ → ℕ → List ℕ
rsn_text c word db key rsn = word ++ record_text c db key ++ codes " " ++ decimal rsn

unfoldable pub message_text : Config → Msg → List ℕ
message_text c (msg.Call db key request k) = rsn_text c (codes "call ") db key request ++ kind_text k
message_text c (msg.Recall db key least node request k) = rsn_text c (codes "recall ") db key least ++ codes " " ++ decimal node ++ codes " " ++ decimal request ++ kind_text k
message_text c (msg.Give db key rsn value) = rsn_text c (codes "give ") db key rsn ++ codes " " ++ spelling value
message_text c (msg.Pass db key request rsn value) = rsn_text c (codes "pass ") db key request ++ codes " " ++ decimal rsn ++ codes " " ++ spelling value
message_text c (msg.Refuse db key request rsn) = rsn_text c (codes "refuse ") db key request ++ codes " " ++ decimal rsn
message_text c (msg.Grant db key request rsn value) = rsn_text c (codes "grant ") db key request ++ codes " " ++ decimal rsn ++ codes " " ++ spelling value
message_text c (msg.Done db key node request) = rsn_text c (codes "done ") db key node ++ codes " " ++ decimal request
message_text c (msg.Revoke db key rsn) = rsn_text c (codes "revoke ") db key rsn
message_text c (msg.RevokeAck db key rsn) = rsn_text c (codes "revokeack ") db key rsn
message_text c (msg.VStore db key rsn) = rsn_text c (codes "vstore ") db key rsn
message_text c (msg.VStored db key rsn) = rsn_text c (codes "vstored ") db key rsn
message_text c (msg.VDelete db key rsn) = rsn_text c (codes "vdelete ") db key rsn
message_text c (msg.VDeleted db key rsn) = rsn_text c (codes "vdeleted ") db key rsn
message_text c (msg.Freeze members) = codes "freeze " ++ items_text decimal members
message_text c msg.FreezeAck = codes "freezeack"
message_text c msg.Pull = codes "pull"
message_text c (msg.PullReply vbase pbase table ptables addresses) = codes "pullreply " ++ decimal vbase ++ codes " " ++ decimal pbase ++ counts_text (length table) (pairs_in ptables) (length addresses)
message_text c (msg.Push members table ptables assigned) = codes "push " ++ items_text decimal members ++ counts_text (length table) (pairs_in ptables) (length assigned)
message_text c msg.PushAck = codes "pushack"
message_text c msg.Thaw = codes "thaw"
message_text c (msg.PUpdate db seq writes) = codes "pupdate " ++ name_of c db ++ codes " " ++ decimal seq ++ codes " " ++ decimal (length writes)
message_text c (msg.PAck db seq) = codes "pack " ++ name_of c db ++ codes " " ++ decimal seq
message_text c (msg.Release run keep) = codes "release " ++ decimal run ++ codes " " ++ items_text address_text keep
message_text c (msg.ReleaseAck run) = codes "releaseack " ++ decimal run
message_text c (msg.Take run assigned) = codes "take " ++ decimal run ++ codes " " ++ items_text assigned_text assigned

-- Persistent databases: every member has the whole of each, and a commit is stored at all before it is acknowledged.
use Rattle.std.specs.Prelude.{ℕ, ◌+◌, nat_le, if◌then◌else◌, List, [], ◌∷◌, Option, None, Some}
use Rattle.ct_values.specs.Words.{others, or_empty}
use Rattle.ct_values.specs.declared.client.Answer.TheVariants as answer
use Rattle.ct_values.specs.declared.client.Pair.{Pair}
use Rattle.ct_frame.specs.declared.frame.Msg.TheVariants as msg
use Rattle.ct_store.specs.Map.{look}
use Rattle.ct_persist.specs.Persisted.{updated}
use Rattle.ct_persist.specs.Commits.{commit_begun, completes, applied_by}
use Rattle.ct_rules_node.specs.Node.{Committing, db_at, with_db}
use Rattle.ct_rules_node.specs.Turn.{Turn, with_node, makes, answers, posts, posts_all}

-- Update: the node's database after these writes under this number
unfoldable pub updates : ℕ → ℕ → List Pair → Turn → Turn
updates db seq writes t = with_node (with_db db (record (db_at db t.node) { store = updated seq writes (db_at db t.node).store }) t.node) t

-- the commit of the database that waits at the node, or none
unfoldable pub with_commit : ℕ → Option Committing → Turn → Turn
with_commit db c t = with_node (with_db db (record (db_at db t.node) { commit = c }) t.node) t

-- Commit: the other members get a PUpdate and are waited for; where there is none it is answered at once
unfoldable pub awaits_others : ℕ → ℕ → ℕ → ℕ → List Pair → List ℕ → Turn → Turn
awaits_others me call db seq writes [] t = answers call (answer.Committed seq) t
awaits_others me call db seq writes (n ∷ ns) t =
    posts_all t.node.generation me (n ∷ ns) (msg.PUpdate db seq writes)
    (with_commit db (Some (record { call = call; writes = writes; pending = commit_begun seq (n ∷ ns) })) t)

-- Commit under this number: Update, and then the other members
unfoldable pub commits_at : ℕ → ℕ → ℕ → ℕ → List Pair → Turn → Turn
commits_at me call db seq writes t = awaits_others me call db seq writes (others me t.node.members) (updates db seq writes (makes seq t))

-- Commit: under the number after the database's own
unfoldable pub commit : ℕ → ℕ → ℕ → List Pair → Turn → Turn
commit me call db writes t = commits_at me call db ((db_at db t.node).store.seq + 1) writes t

-- PUpdate, once updated: who has this number or a later one sends a PAck
unfoldable pub acknowledges : ℕ → ℕ → ℕ → ℕ → Turn → Turn
acknowledges me sender db seq t = if nat_le seq (db_at db t.node).store.seq then posts t.node.generation me sender (msg.PAck db seq) t else t

-- PUpdate: Update, and then the acknowledgement
unfoldable pub on_pupdate : ℕ → ℕ → ℕ → ℕ → List Pair → Turn → Turn
on_pupdate me sender db seq writes t = acknowledges me sender db seq (updates db seq writes t)

-- PAck, with the commit that waits: the acknowledgement of the last missing member completes it
unfoldable pub on_pack_of : ℕ → ℕ → ℕ → Turn → Option Committing → Turn
on_pack_of n db seq t None = t
on_pack_of n db seq t (Some c) =
    if completes n seq c.pending then answers c.call (answer.Committed seq) (with_commit db None t)
    else with_commit db (Some (record c { pending = applied_by n seq c.pending })) t

-- PAck: an acknowledgement of the commit that waits
unfoldable pub on_pack : ℕ → ℕ → ℕ → Turn → Turn
on_pack n db seq t = on_pack_of n db seq t (db_at db t.node).commit

-- Read of a pair: its value is answered at once
unfoldable pub read_pair : ℕ → ℕ → List ℕ → Turn → Turn
read_pair call db key t = answers call (answer.Read (or_empty (look key (db_at db t.node).store.pairs))) t

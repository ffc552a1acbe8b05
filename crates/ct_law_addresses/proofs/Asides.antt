-- Which rules leave what the node holds and follows, and do nothing of addresses.
use Rattle.std.proofs.Common.{◌≡◌, ℕ, ◌+◌, List, [], ◌∷◌, Option, None, Some, refl}
use Rattle.std.specs.Prelude.{nat_eq, nat_le}
use Rattle.ct_values.specs.declared.client.ClientOp.{ClientOp}
use Rattle.ct_values.specs.declared.client.ClientOp.TheVariants as op
use Rattle.ct_values.specs.declared.client.Pair.{Pair}
use Rattle.ct_values.specs.declared.client.Why.{Why}
use Rattle.ct_values.specs.declared.config.Config.{Config}
use Rattle.ct_frame.specs.declared.frame.Frame.{Frame}
use Rattle.ct_frame.specs.declared.frame.Msg.TheVariants as msg
use Rattle.ct_call.specs.Rules.{Rules}
use Rattle.ct_rules_node.specs.Node.{Phase, Idle, Serving, Installed, Freezing, Frozen, Database, Committing, is_frozen_in, is_freezing, is_present, db_at, with_db}
use Rattle.ct_rules_node.specs.Turn.{Turn, does, with_node, with_phase, makes, answers, notes}
use Rattle.ct_rules_node.specs.Records.{with_state}
use Rattle.ct_rules_node.specs.Clients.{any_locked, is_commit, is_unlock, refusal, frozen_if_unlocked, unlocks, serves, serves_or, client}
use Rattle.ct_rules_node.specs.Databases.{updates, with_commit, awaits_others, commits_at, commit, acknowledges, on_pupdate, on_pack_of, on_pack}
use Rattle.ct_rules_node.specs.Rounds.{ends_lock, ends_commit, ends_commits, on_pull, thaws, pending_calls, on_thaw}
use Rattle.ct_rules_node.specs.Retries.{update_again, update_in, retry_records}
use Rattle.ct_rules_node.specs.Steps.{on_record_of, vacuums}
use Rattle.ct_law_generation.proofs.Speaking.{arrive_told, release_told}
use Rattle.ct_law_plain.proofs.Plainly.{at_record_plain}
use Rattle.ct_law_plain.proofs.Events.{serves_plain, unlocks_plain, want_all_plain, resends_plain, vacuums_plain}
use Rattle.ct_law_addresses.proofs.Aside.{IsAsideMsg, IsAsideNote, IsAsideOut, Aside, aside_same, aside_node, aside_after, either_aside, does_aside, posts_aside, posts_all_aside, plain_aside}

-- ---- commits

updates_aside : (db seq : ℕ) (writes : List Pair) (t : Turn) → Aside t (updates db seq writes t)
unfolding updates with_node with_db
updates_aside db seq writes t = aside_node t _ refl refl refl refl

with_commit_aside : (db : ℕ) (x : Option Committing) (t : Turn) → Aside t (with_commit db x t)
unfolding with_commit with_node with_db
with_commit_aside db x t = aside_node t _ refl refl refl refl

awaits_aside : (me call db seq : ℕ) (writes : List Pair) (ns : List ℕ) (t : Turn) → Aside t (awaits_others me call db seq writes ns t)
unfolding awaits_others answers IsAsideMsg IsAsideOut
awaits_aside me call db seq writes [] t = does_aside _ t tt
awaits_aside me call db seq writes (n ∷ ns) t = aside_after (with_commit_aside db _ t) (posts_all_aside _ me (n ∷ ns) (msg.PUpdate db seq writes) _ tt)

commit_aside : (me call db : ℕ) (writes : List Pair) (t : Turn) → Aside t (commit me call db writes t)
unfolding commit commits_at makes
commit_aside me call db writes t =
    let seq = (db_at db t.node).store.seq + 1 in
    aside_after (aside_node t (makes seq t) refl refl refl refl) (aside_after (updates_aside db seq writes (makes seq t)) (awaits_aside me call db seq writes _ (updates db seq writes (makes seq t))))

pub on_pupdate_aside : (me sender db seq : ℕ) (writes : List Pair) (t : Turn) → Aside t (on_pupdate me sender db seq writes t)
unfolding on_pupdate acknowledges IsAsideMsg
on_pupdate_aside me sender db seq writes t = aside_after (updates_aside db seq writes t) (either_aside (nat_le seq (db_at db (updates db seq writes t).node).store.seq) (posts_aside _ me sender (msg.PAck db seq) _ tt) aside_same)

on_pack_of_aside : (n db seq : ℕ) (t : Turn) (x : Option Committing) → Aside t (on_pack_of n db seq t x)
unfolding on_pack_of answers IsAsideOut
on_pack_of_aside n db seq t None = aside_same
on_pack_of_aside n db seq t (Some x) = either_aside _ (aside_after (with_commit_aside db None t) (does_aside _ _ tt)) (with_commit_aside db _ t)

pub on_pack_aside : (n db seq : ℕ) (t : Turn) → Aside t (on_pack n db seq t)
unfolding on_pack
on_pack_aside n db seq t = on_pack_of_aside n db seq t (db_at db t.node).commit

-- ---- freezing

frozen_aside : (me g leader : ℕ) (t : Turn) → Aside t (frozen_if_unlocked me g leader t)
unfolding frozen_if_unlocked with_phase IsAsideMsg
frozen_aside me g leader t = either_aside (any_locked t.node.dbs) aside_same (aside_after (aside_node t (with_phase (Frozen g) t) refl refl refl refl) (posts_aside g me leader msg.FreezeAck _ tt))

ends_lock_aside : (name : List ℕ) (t : Turn) → Aside t (ends_lock name t)
unfolding ends_lock with_node notes does IsAsideOut IsAsideNote with_state with_db
ends_lock_aside name t = record { held = refl; last_run = refl; lead = refl; outs = (_, refl, (tt, tt)) }

ends_commit_aside : (db : ℕ) (name : List ℕ) (t : Turn) (x : Option Committing) → Aside t (ends_commit db name t x)
unfolding ends_commit answers IsAsideOut
ends_commit_aside db name t None = aside_same
ends_commit_aside db name t (Some x) = aside_after (does_aside _ t tt) (aside_after (with_commit_aside db None _) (ends_lock_aside name _))

ends_commits_aside : (c : Config) (i : ℕ) (ds : List Database) (t : Turn) → Aside t (ends_commits c i ds t)
unfolding ends_commits
ends_commits_aside c i [] t = aside_same
ends_commits_aside c i (d ∷ ds) t = aside_after (ends_commit_aside i _ t d.commit) (ends_commits_aside c (i + 1) ds _)

-- a freeze, once it is followed
pub frozen_all_aside : (c : Config) (me h g : ℕ) (ds : List Database) (t : Turn) → Aside t (frozen_if_unlocked me g h (ends_commits c 0 ds t))
frozen_all_aside c me h g ds t = aside_after (ends_commits_aside c 0 ds t) (frozen_aside me g h _)

pub on_pull_aside : (c : Config) (me h g : ℕ) (t : Turn) → Aside t (on_pull c me h g t)
unfolding on_pull IsAsideMsg
on_pull_aside c me h g t = either_aside (is_frozen_in g t.node.phase) (posts_aside g me h (msg.PullReply _ _ _ _ _) t tt) aside_same

-- ---- records

pub on_record_aside : (c : Config) (rules : Rules) (me : ℕ) (f : Frame) (t : Turn) (r : Option (ℕ × List ℕ)) → Aside t (on_record_of c rules me f t r)
unfolding on_record_of
on_record_aside c rules me f t None = aside_same
on_record_aside c rules me f t (Some r) = either_aside _ (plain_aside (at_record_plain c me r.0 r.1 _ t (λ at o h. arrive_told at rules f.sender f.msg o h))) aside_same

pub vacuums_aside : (c : Config) (me db : ℕ) (t : Turn) → Aside t (vacuums c me db t)
vacuums_aside c me db t = plain_aside (vacuums_plain c me db t)

pub on_thaw_aside : (c : Config) (rules : Rules) (me g : ℕ) (t : Turn) (p : Phase) → Aside t (on_thaw c rules me g t p)
unfolding on_thaw thaws with_phase notes IsAsideOut IsAsideNote
on_thaw_aside c rules me g t Installed = either_aside (nat_eq t.node.generation g)
    (aside_after (aside_after (aside_node t (with_phase Serving t) refl refl refl refl) (does_aside _ (with_phase Serving t) tt)) (plain_aside (want_all_plain c rules me (pending_calls t.node) _))) aside_same
on_thaw_aside c rules me g t _ = aside_same

-- ---- clients

unlocks_aside : (c : Config) (me call db : ℕ) (key : List ℕ) (t : Turn) (g leader : ℕ) → Aside t (unlocks c me call db key t (Freezing g leader))
unfolding unlocks
unlocks_aside c me call db key t g leader = aside_after (plain_aside (at_record_plain c me db key _ t (λ at o h. release_told at call o h))) (frozen_aside me g leader _)

-- an unlock at a node of any phase
unlock_aside : (c : Config) (me call db : ℕ) (key : List ℕ) (t : Turn) (p : Phase) → t.node.phase ≡ p → Aside t (unlocks c me call db key t p)
unfolding is_freezing
unlock_aside c me call db key t (Freezing g leader) e = unlocks_aside c me call db key t g leader
unlock_aside c me call db key t Idle e = plain_aside (unlocks_plain c me call db key t Idle refl)
unlock_aside c me call db key t Serving e = plain_aside (unlocks_plain c me call db key t Serving refl)
unlock_aside c me call db key t Installed e = plain_aside (unlocks_plain c me call db key t Installed refl)
unlock_aside c me call db key t (Frozen g) e = plain_aside (unlocks_plain c me call db key t (Frozen g) refl)

serves_aside : (c : Config) (rules : Rules) (me call : ℕ) (t : Turn) (asked : ClientOp) → Aside t (serves c rules me call t asked)
unfolding serves is_commit is_unlock
serves_aside c rules me call t (op.Commit db writes) = commit_aside me call db writes t
serves_aside c rules me call t (op.Unlock db key) = unlock_aside c me call db key t t.node.phase refl
serves_aside c rules me call t (op.Lock db key) = plain_aside (serves_plain c rules me call t (op.Lock db key) refl refl)
serves_aside c rules me call t (op.Read db key) = plain_aside (serves_plain c rules me call t (op.Read db key) refl refl)
serves_aside c rules me call t (op.Write db key v) = plain_aside (serves_plain c rules me call t (op.Write db key v) refl refl)
serves_aside c rules me call t (op.Store db key v) = plain_aside (serves_plain c rules me call t (op.Store db key v) refl refl)
serves_aside c rules me call t (op.Apply db key f arg) = plain_aside (serves_plain c rules me call t (op.Apply db key f arg) refl refl)

serves_or_aside : (c : Config) (rules : Rules) (me call : ℕ) (asked : ClientOp) (t : Turn) (w : Option Why) → Aside t (serves_or c rules me call asked t w)
unfolding serves_or answers IsAsideOut
serves_or_aside c rules me call asked t (Some w) = does_aside _ t tt
serves_or_aside c rules me call asked t None = serves_aside c rules me call t asked

pub client_aside : (c : Config) (rules : Rules) (me call : ℕ) (asked : ClientOp) (t : Turn) → Aside t (client c rules me call asked t)
unfolding client makes
client_aside c rules me call asked t = aside_after (aside_node t (makes call t) refl refl refl refl) (serves_or_aside c rules me call asked (makes call t) (refusal c rules t.node asked))

-- ---- Retry of records and commits

update_again_aside : (me db : ℕ) (t : Turn) (x : Option Committing) → Aside t (update_again me db t x)
unfolding update_again IsAsideMsg
update_again_aside me db t None = aside_same
update_again_aside me db t (Some x) = posts_all_aside _ me x.pending.missing (msg.PUpdate db x.pending.seq x.writes) t tt

update_in_aside : (me i : ℕ) (ds : List Database) (t : Turn) → Aside t (update_in me i ds t)
unfolding update_in
update_in_aside me i [] t = aside_same
update_in_aside me i (d ∷ ds) t = aside_after (update_again_aside me i t d.commit) (update_in_aside me (i + 1) ds _)

pub retry_records_aside : (c : Config) (me : ℕ) (t : Turn) → Aside t (retry_records c me t)
unfolding retry_records
retry_records_aside c me t = either_aside (is_present t.node.phase) (aside_after (plain_aside (resends_plain c me (pending_calls t.node) t.node.dbs t)) (update_in_aside me 0 t.node.dbs _)) aside_same

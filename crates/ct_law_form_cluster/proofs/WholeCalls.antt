-- Every event keeps the numbers of the calls that wait below one.
use Rattle.std.proofs.Common.{◌≡◌, ℕ, ◌+◌, ◌<◌, ◌≤◌, Bool, true, false, cond, List, [], ◌∷◌, map, Option, Some, None, arith}
use Rattle.std.proofs.lemmas.Bool.{ltb-true}
use Rattle.std.specs.Prelude.{nat_lt}
use Rattle.std.specs.List.{AllByRecursion}
use Rattle.ct_values.specs.Words.{others}
use Rattle.ct_values.specs.declared.address.Address.{Address}
use Rattle.ct_values.specs.declared.client.ClientOp.{ClientOp}
use Rattle.ct_values.specs.declared.client.ClientOp.TheVariants as op
use Rattle.ct_values.specs.declared.client.Pair.{Pair}
use Rattle.ct_values.specs.declared.client.Why.{Why}
use Rattle.ct_values.specs.declared.config.Config.{Config}
use Rattle.ct_frame.specs.declared.event.Event.{Event}
use Rattle.ct_frame.specs.declared.event.Event.TheVariants as event
use Rattle.ct_frame.specs.declared.frame.Assigned.{Assigned}
use Rattle.ct_frame.specs.declared.frame.Frame.{Frame}
use Rattle.ct_frame.specs.declared.frame.Msg.{Msg}
use Rattle.ct_frame.specs.declared.frame.Msg.TheVariants as msg
use Rattle.ct_frame.specs.declared.frame.PTable.{PTable}
use Rattle.ct_frame.specs.declared.frame.TableRow.{TableRow}
use Rattle.ct_frame.specs.declared.round.Pull.{Pull}
use Rattle.ct_frame.specs.declared.round.PushBody.{PushBody}
use Rattle.ct_call.specs.Rules.{Rules}
use Rattle.ct_merge.specs.Gathered.{Gathered}
use Rattle.ct_store.specs.Map.{Pairs}
use Rattle.ct_rules.specs.Moves.{call_again, revoke_again}
use Rattle.ct_rules.specs.Parts.{want}
use Rattle.ct_rules.specs.declared.state.RecState.{RecState}
use Rattle.ct_rules.specs.declared.state.Wish.{Wish}
use Rattle.ct_rules_node.specs.Admission.{record_in}
use Rattle.ct_rules_node.specs.Clients.{client, frozen_if_unlocked, reads, refusal, serves, serves_or, unlocks}
use Rattle.ct_rules_node.specs.Databases.{acknowledges, awaits_others, commit, commits_at, on_pack, on_pack_of, on_pupdate, read_pair, updates, with_commit}
use Rattle.ct_rules_node.specs.Node.{Committing, Completed, Database, Freezes, Freezing, Frozen, Idle, Installed, Installs, Lead, NoRun, Nothing, Phase, Pulls, Releasing, Run, Serving, Takeover, Taking, is_frozen_in, is_present_in, name_of, opening, restarted, restarted_db, untouched, untouched_all}
use Rattle.ct_rules_node.specs.Records.{at_record, with_state}
use Rattle.ct_rules_node.specs.Retries.{call_all, retry, retry_lead, retry_records, retry_run, revoke_all, revoke_in, update_again, update_in}
use Rattle.ct_rules_node.specs.Rounds.{Called, all_frozen, all_installed, all_pulled, begin_round, ends_commit, ends_commits, ends_lock, freezes, installed_node, installs, on_freeze, on_freezeack, on_pull, on_pullreply, on_push, on_pushack, on_thaw, pending_calls, pushes, releases, thaws, want_again, want_all}
use Rattle.ct_rules_node.specs.Steps.{arrives, happens, if_persistent, if_sound, if_taken_over, on_record_of, vacuum_all, vacuums}
use Rattle.ct_rules_node.specs.Takeovers.{all_released, begin_takeover, on_release, on_releaseack, on_take, released_by, runs, send_releases, takes}
use Rattle.ct_rules_node.specs.Turn.{Turn, answers, does, makes, notes, posts, posts_all, with_lead, with_node, with_phase}
use Rattle.ct_law_wishes.proofs.Wishing.{Wishful, arrive_wish, call_again_wish, release_wish, revoke_again_wish, store_wish, unlock_wish, vacuum_wish, want_again_wish, want_wish}
use Rattle.ct_law_form_cluster.proofs.Below.{BaseBelow, Below, CommitBelow, NodeBelow, WishBelow, is_after, is_below}
use Rattle.ct_law_form_cluster.proofs.Parts.{db_below, frozen_dbs_below, installed_dbs_below, kept_below, record_below, state_below, with_db_below}
use Rattle.ct_law_form_cluster.specs.Laws.{CallsStayBelow, CallsStayBelowMore, NoneWaitsAfterStop, NoneWaitsAtOpening, asks_below}

-- all calls that wait at the node are below b
abbrev TurnBelow : ℕ → Turn → Type 0
TurnBelow b t = NodeBelow b t.node

either : (b : ℕ) (x : Bool) (t u : Turn) → TurnBelow b t → TurnBelow b u → TurnBelow b (cond x t u)
either b true t u h k = h
either b false t u h k = k

posts_below : (b g me n : ℕ) (m : Msg) (t : Turn) → TurnBelow b t → TurnBelow b (posts g me n m t)
unfolding posts does
posts_below b g me n m t h = h

posts_all_below : (b g me : ℕ) (ns : List ℕ) (m : Msg) (t : Turn) → TurnBelow b t → TurnBelow b (posts_all g me ns m t)
unfolding posts_all posts does
posts_all_below b g me [] m t h = h
posts_all_below b g me (n ∷ ns) m t h = posts_all_below b g me ns m (posts g me n m t) h

-- ---- persistent databases

update_below : (b db seq : ℕ) (ws : List Pair) (t : Turn) → TurnBelow b t → TurnBelow b (updates db seq ws t)
unfolding updates with_node
update_below b db seq ws t h = (let d = db_below b db t.node h in with_db_below b db _ t.node (record { wishes = d.wishes; commit = d.commit }) h)

with_commit_below : (b db : ℕ) (x : Option Committing) (t : Turn) → CommitBelow b x → TurnBelow b t → TurnBelow b (with_commit db x t)
unfolding with_commit with_node
with_commit_below b db x t k h = with_db_below b db _ t.node (record { wishes = (db_below b db t.node h).wishes; commit = k }) h

awaits_below : (b me call db seq : ℕ) (ws : List Pair) (ns : List ℕ) (t : Turn) → call < b → TurnBelow b t → TurnBelow b (awaits_others me call db seq ws ns t)
unfolding awaits_others answers does CommitBelow
awaits_below b me call db seq ws [] t l h = h
awaits_below b me call db seq ws (n ∷ ns) t l h = posts_all_below b t.node.generation me (n ∷ ns) (msg.PUpdate db seq ws) _ (with_commit_below b db _ t l h)

makes_below : (b n : ℕ) (t : Turn) → TurnBelow b t → TurnBelow b (makes n t)
unfolding makes
makes_below b n t h = h

commit_below : (b me call db : ℕ) (ws : List Pair) (t : Turn) → call < b → TurnBelow b t → TurnBelow b (commit me call db ws t)
unfolding commit commits_at
commit_below b me call db ws t l h = awaits_below b me call db _ ws _ _ l (update_below b db _ ws _ (makes_below b _ t h))

acknowledges_below : (b me n db seq : ℕ) (t : Turn) → TurnBelow b t → TurnBelow b (acknowledges me n db seq t)
unfolding acknowledges posts does
acknowledges_below b me n db seq t h = either b _ _ t h h

pupdate_below : (b me n db seq : ℕ) (ws : List Pair) (t : Turn) → TurnBelow b t → TurnBelow b (on_pupdate me n db seq ws t)
unfolding on_pupdate
pupdate_below b me n db seq ws t h = acknowledges_below b me n db seq (updates db seq ws t) (update_below b db seq ws t h)

pack_of_below : (b n db seq : ℕ) (t : Turn) (x : Option Committing) → CommitBelow b x → TurnBelow b t → TurnBelow b (on_pack_of n db seq t x)
unfolding on_pack_of answers does CommitBelow
pack_of_below b n db seq t None k h = h
pack_of_below b n db seq t (Some x) k h = either b _ _ _ (with_commit_below b db None t tt h) (with_commit_below b db _ t k h)

pack_below : (b n db seq : ℕ) (t : Turn) → TurnBelow b t → TurnBelow b (on_pack n db seq t)
unfolding on_pack
pack_below b n db seq t h = pack_of_below b n db seq t _ (db_below b db t.node h).commit h

-- ---- clients

wants_below : (b : ℕ) (c : Config) (rules : Rules) (me call db : ℕ) (key : List ℕ) (asked : ClientOp) (t : Turn) → call < b → TurnBelow b t → TurnBelow b (at_record c me db key (λ at o. want at rules call asked o) t)
wants_below b c rules me call db key asked t l h = record_below b c me db key _ t (λ at o k. want_wish (Below b) at rules call asked o l k) h

frozen_below : (b me g leader : ℕ) (t : Turn) → TurnBelow b t → TurnBelow b (frozen_if_unlocked me g leader t)
unfolding frozen_if_unlocked posts does with_phase
frozen_below b me g leader t h = either b _ t _ h h

unlocks_below : (b : ℕ) (c : Config) (me call db : ℕ) (key : List ℕ) (t : Turn) (p : Phase) → TurnBelow b t → TurnBelow b (unlocks c me call db key t p)
unfolding unlocks
unlocks_below b c me call db key t (Freezing g leader) h = frozen_below b me g leader _ (record_below b c me db key _ t (λ at o k. release_wish (Below b) call o k) h)
unlocks_below b c me call db key t Idle h = record_below b c me db key _ t (λ at o k. unlock_wish (Below b) at call o k) h
unlocks_below b c me call db key t Serving h = record_below b c me db key _ t (λ at o k. unlock_wish (Below b) at call o k) h
unlocks_below b c me call db key t Installed h = record_below b c me db key _ t (λ at o k. unlock_wish (Below b) at call o k) h
unlocks_below b c me call db key t (Frozen g) h = record_below b c me db key _ t (λ at o k. unlock_wish (Below b) at call o k) h

pair_below : (b call db : ℕ) (key : List ℕ) (t : Turn) → TurnBelow b t → TurnBelow b (read_pair call db key t)
unfolding read_pair answers does
pair_below b call db key t h = h

serves_below : (b : ℕ) (c : Config) (rules : Rules) (me call : ℕ) (t : Turn) (o : ClientOp) → call < b → TurnBelow b t → TurnBelow b (serves c rules me call t o)
unfolding serves reads
serves_below b c rules me call t (op.Read db key) l h = either b _ _ _ (pair_below b call db key t h) (wants_below b c rules me call db key (op.Read db key) t l h)
serves_below b c rules me call t (op.Store db key v) l h = record_below b c me db key _ t (λ at o k. store_wish (Below b) call v o k) h
serves_below b c rules me call t (op.Unlock db key) l h = unlocks_below b c me call db key t t.node.phase h
serves_below b c rules me call t (op.Commit db ws) l h = commit_below b me call db ws t l h
serves_below b c rules me call t (op.Lock db key) l h = wants_below b c rules me call db key (op.Lock db key) t l h
serves_below b c rules me call t (op.Write db key v) l h = wants_below b c rules me call db key (op.Write db key v) t l h
serves_below b c rules me call t (op.Apply db key f arg) l h = wants_below b c rules me call db key (op.Apply db key f arg) t l h

serves_or_below : (b : ℕ) (c : Config) (rules : Rules) (me call : ℕ) (o : ClientOp) (t : Turn) (w : Option Why) → call < b → TurnBelow b t → TurnBelow b (serves_or c rules me call o t w)
unfolding serves_or answers does
serves_or_below b c rules me call o t (Some w) l h = h
serves_or_below b c rules me call o t None l h = serves_below b c rules me call t o l h

client_below : (b : ℕ) (c : Config) (rules : Rules) (me call : ℕ) (o : ClientOp) (t : Turn) → call < b → TurnBelow b t → TurnBelow b (client c rules me call o t)
unfolding client
client_below b c rules me call o t l h = serves_or_below b c rules me call o (makes call t) (refusal c rules t.node o) l (makes_below b call t h)

-- ---- rounds

begin_below : (b me g : ℕ) (members : List ℕ) (t : Turn) → TurnBelow b t → TurnBelow b (begin_round me g members t)
unfolding begin_round with_lead makes
begin_below b me g members t h = either b _ _ t (posts_all_below b g me members (msg.Freeze members) _ h) h

freezes_below : (b g h : ℕ) (t : Turn) → TurnBelow b t → TurnBelow b (freezes g h t)
unfolding freezes with_node
freezes_below b g h t k = frozen_dbs_below b t.node.dbs k

ends_lock_below : (b : ℕ) (name : List ℕ) (t : Turn) → TurnBelow b t → TurnBelow b (ends_lock name t)
unfolding ends_lock notes does with_node with_state
ends_lock_below b name t h = (let d = db_below b 0 t.node h in with_db_below b 0 _ t.node (record { wishes = kept_below b name _ _ (state_below b 0 name t.node h) d.wishes; commit = d.commit }) h)

ends_commit_below : (b db : ℕ) (name : List ℕ) (t : Turn) (x : Option Committing) → TurnBelow b t → TurnBelow b (ends_commit db name t x)
unfolding ends_commit answers does CommitBelow
ends_commit_below b db name t None h = h
ends_commit_below b db name t (Some x) h = ends_lock_below b name _ (with_commit_below b db None _ tt h)

ends_commits_below : (b : ℕ) (c : Config) (i : ℕ) (ds : List Database) (t : Turn) → TurnBelow b t → TurnBelow b (ends_commits c i ds t)
unfolding ends_commits
ends_commits_below b c i [] t h = h
ends_commits_below b c i (d ∷ ds) t h = ends_commits_below b c (i + 1) ds _ (ends_commit_below b i (name_of c i) t d.commit h)

freeze_below : (b : ℕ) (c : Config) (me h g : ℕ) (t : Turn) → TurnBelow b t → TurnBelow b (on_freeze c me h g t)
unfolding on_freeze posts does
freeze_below b c me h g t k = either b (nat_lt t.node.promise g) _ _ (frozen_below b me g h _ (ends_commits_below b c 0 t.node.dbs _ (freezes_below b g h t k))) (either b _ _ t k k)

all_frozen_below : (b me g : ℕ) (members : List ℕ) (t : Turn) (ns : List ℕ) → TurnBelow b t → TurnBelow b (all_frozen me g members t ns)
unfolding all_frozen with_lead
all_frozen_below b me g members t [] h = posts_all_below b g me members msg.Pull _ h
all_frozen_below b me g members t (n ∷ ns) h = h

freezeack_below : (b me n g : ℕ) (t : Turn) (l : Lead) → TurnBelow b t → TurnBelow b (on_freezeack me n g t l)
unfolding on_freezeack
freezeack_below b me n g t (Freezes j members missing) h = either b _ _ t (all_frozen_below b me g members t _ h) h
freezeack_below b me n g t _ h = h

pull_below : (b : ℕ) (c : Config) (me h g : ℕ) (t : Turn) → TurnBelow b t → TurnBelow b (on_pull c me h g t)
unfolding on_pull posts does
pull_below b c me h g t k = either b _ _ t k k

all_pulled_below : (b me g : ℕ) (members : List ℕ) (x : Gathered) (t : Turn) (ns : List ℕ) → TurnBelow b t → TurnBelow b (all_pulled me g members x t ns)
unfolding all_pulled pushes with_lead notes does
all_pulled_below b me g members x t [] h = posts_all_below b g me members _ _ h
all_pulled_below b me g members x t (n ∷ ns) h = h

pullreply_below : (b me g : ℕ) (p : Pull) (t : Turn) (l : Lead) → TurnBelow b t → TurnBelow b (on_pullreply me g p t l)
unfolding on_pullreply
pullreply_below b me g p t (Pulls j members missing x) h = either b _ _ t (all_pulled_below b me g members _ t _ h) h
pullreply_below b me g p t _ h = h

releases_below : (b : ℕ) (xs : List Address) (t : Turn) → TurnBelow b t → TurnBelow b (releases xs t)
unfolding releases notes does
releases_below b [] t h = h
releases_below b (a ∷ xs) t h = releases_below b xs _ h

installs_below : (b : ℕ) (c : Config) (me h g : ℕ) (members : List ℕ) (table : List TableRow) (ptables : List PTable) (assigned : List Assigned) (t : Turn) → TurnBelow b t → TurnBelow b (installs c me h g members table ptables assigned t)
unfolding installs notes does with_node installed_node
installs_below b c me h g members table ptables assigned t k = releases_below b _ _ (installed_dbs_below b me 0 members table ptables t.node.dbs k)

push_below : (b : ℕ) (c : Config) (me h g : ℕ) (members : List ℕ) (table : List TableRow) (ptables : List PTable) (assigned : List Assigned) (t : Turn) → TurnBelow b t → TurnBelow b (on_push c me h g members table ptables assigned t)
unfolding on_push
push_below b c me h g members table ptables assigned t k =
    either b (is_frozen_in g t.node.phase) (posts g me h msg.PushAck (installs c me h g members table ptables assigned t)) (cond (is_present_in g t.node) (posts g me h msg.PushAck t) t)
    (posts_below b g me h msg.PushAck _ (installs_below b c me h g members table ptables assigned t k)) (either b (is_present_in g t.node) (posts g me h msg.PushAck t) t (posts_below b g me h msg.PushAck t k) k)

all_installed_below : (b : ℕ) (c : Config) (me g : ℕ) (members : List ℕ) (x : PushBody) (t : Turn) (ns : List ℕ) → TurnBelow b t → TurnBelow b (all_installed c me g members x t ns)
unfolding all_installed with_lead
all_installed_below b c me g members x t [] h = posts_all_below b g me members msg.Thaw _ h
all_installed_below b c me g members x t (n ∷ ns) h = h

pushack_below : (b : ℕ) (c : Config) (me n g : ℕ) (t : Turn) (l : Lead) → TurnBelow b t → TurnBelow b (on_pushack c me n g t l)
unfolding on_pushack
pushack_below b c me n g t (Installs j members missing x) h = either b _ _ t (all_installed_below b c me g members x t _ h) h
pushack_below b c me n g t _ h = h

want_all_below : (b : ℕ) (c : Config) (rules : Rules) (me : ℕ) (xs : List Called) (t : Turn) → TurnBelow b t → TurnBelow b (want_all c rules me xs t)
unfolding want_all
want_all_below b c rules me [] t h = h
want_all_below b c rules me (x ∷ xs) t h = want_all_below b c rules me xs _ (record_below b c me x.db x.key (want_again rules) t (λ at o k. want_again_wish (Below b) rules at o k) h)

thaw_below : (b : ℕ) (c : Config) (rules : Rules) (me g : ℕ) (t : Turn) (p : Phase) → TurnBelow b t → TurnBelow b (on_thaw c rules me g t p)
unfolding on_thaw thaws notes does with_phase
thaw_below b c rules me g t Installed h = either b _ _ t (want_all_below b c rules me (pending_calls t.node) _ h) h
thaw_below b c rules me g t _ h = h

-- ---- takeover runs

send_releases_below : (b me g number : ℕ) (xs : List Assigned) (ns : List ℕ) (t : Turn) → TurnBelow b t → TurnBelow b (send_releases me g number xs ns t)
unfolding send_releases posts does
send_releases_below b me g number xs [] t h = h
send_releases_below b me g number xs (n ∷ ns) t h = send_releases_below b me g number xs ns _ h

begin_takeover_below : (b me : ℕ) (able : List ℕ) (t : Turn) (l : Lead) → TurnBelow b t → TurnBelow b (begin_takeover me able t l)
unfolding begin_takeover runs makes with_lead
begin_takeover_below b me able t (Completed g members x) h = either b _ _ t (send_releases_below b me g _ _ members _ h) h
begin_takeover_below b me able t _ h = h

release_below : (b me h number : ℕ) (keep : List Address) (t : Turn) → TurnBelow b t → TurnBelow b (on_release me h number keep t)
unfolding on_release posts does with_node
release_below b me h number keep t k = either b _ t _ k (releases_below b _ _ k)

all_released_below : (b me g : ℕ) (members : List ℕ) (x : Takeover) (xs : List Assigned) (t : Turn) (ns : List ℕ) → TurnBelow b t → TurnBelow b (all_released me g members x xs t ns)
unfolding all_released with_lead
all_released_below b me g members x xs t [] h = posts_all_below b g me members _ _ h
all_released_below b me g members x xs t (n ∷ ns) h = h

released_by_below : (b me n g : ℕ) (members : List ℕ) (x : Takeover) (t : Turn) (r : Run) → TurnBelow b t → TurnBelow b (released_by me n g members x t r)
unfolding released_by
released_by_below b me n g members x t (Releasing xs missing) h = either b _ _ t (all_released_below b me g members x xs t _ h) h
released_by_below b me n g members x t _ h = h

releaseack_below : (b me n g number : ℕ) (t : Turn) (l : Lead) → TurnBelow b t → TurnBelow b (on_releaseack me n g number t l)
unfolding on_releaseack
releaseack_below b me n g number t (Completed j members x) h = either b _ _ t (released_by_below b me n g members x t x.run h) h
releaseack_below b me n g number t _ h = h

takes_below : (b : ℕ) (xs : List Address) (t : Turn) → TurnBelow b t → TurnBelow b (takes xs t)
unfolding takes notes does with_node
takes_below b [] t h = h
takes_below b (a ∷ xs) t h = takes_below b xs _ h

take_below : (b : ℕ) (c : Config) (me number : ℕ) (assigned : List Assigned) (t : Turn) → TurnBelow b t → TurnBelow b (on_take c me number assigned t)
unfolding on_take with_node
take_below b c me number assigned t h = either b _ _ t (takes_below b _ _ h) h

-- ---- sending again

call_all_below : (b : ℕ) (c : Config) (me : ℕ) (xs : List Called) (t : Turn) → TurnBelow b t → TurnBelow b (call_all c me xs t)
unfolding call_all
call_all_below b c me [] t h = h
call_all_below b c me (x ∷ xs) t h = call_all_below b c me xs _ (record_below b c me x.db x.key call_again t (λ at o k. call_again_wish (Below b) at o k) h)

revoke_all_below : (b : ℕ) (c : Config) (me db : ℕ) (m : Pairs RecState) (t : Turn) → TurnBelow b t → TurnBelow b (revoke_all c me db m t)
unfolding revoke_all
revoke_all_below b c me db [] t h = h
revoke_all_below b c me db (x ∷ m) t h = revoke_all_below b c me db m _ (record_below b c me db x.0 revoke_again t (λ at o k. revoke_again_wish (Below b) at o k) h)

revoke_in_below : (b : ℕ) (c : Config) (me i : ℕ) (ds : List Database) (t : Turn) → TurnBelow b t → TurnBelow b (revoke_in c me i ds t)
unfolding revoke_in
revoke_in_below b c me i [] t h = h
revoke_in_below b c me i (d ∷ ds) t h = revoke_in_below b c me (i + 1) ds _ (revoke_all_below b c me i d.records t h)

update_again_below : (b me db : ℕ) (t : Turn) (x : Option Committing) → TurnBelow b t → TurnBelow b (update_again me db t x)
unfolding update_again
update_again_below b me db t None h = h
update_again_below b me db t (Some x) h = posts_all_below b t.node.generation me x.pending.missing _ t h

update_in_below : (b me i : ℕ) (ds : List Database) (t : Turn) → TurnBelow b t → TurnBelow b (update_in me i ds t)
unfolding update_in
update_in_below b me i [] t h = h
update_in_below b me i (d ∷ ds) t h = update_in_below b me (i + 1) ds _ (update_again_below b me i t d.commit h)

retry_records_below : (b : ℕ) (c : Config) (me : ℕ) (t : Turn) → TurnBelow b t → TurnBelow b (retry_records c me t)
unfolding retry_records
retry_records_below b c me t h = either b _ _ t (update_in_below b me 0 t.node.dbs _ (revoke_in_below b c me 0 t.node.dbs _ (call_all_below b c me (pending_calls t.node) t h))) h

retry_run_below : (b me g : ℕ) (members : List ℕ) (x : Takeover) (t : Turn) (r : Run) → TurnBelow b t → TurnBelow b (retry_run me g members x t r)
unfolding retry_run
retry_run_below b me g members x t NoRun h = h
retry_run_below b me g members x t (Releasing xs missing) h = send_releases_below b me g x.number xs missing t h
retry_run_below b me g members x t (Taking xs) h = posts_all_below b g me members _ t h

retry_lead_below : (b me : ℕ) (t : Turn) (l : Lead) → TurnBelow b t → TurnBelow b (retry_lead me t l)
unfolding retry_lead
retry_lead_below b me t Nothing h = h
retry_lead_below b me t (Freezes g members missing) h = posts_all_below b g me missing _ t h
retry_lead_below b me t (Pulls g members missing x) h = posts_all_below b g me missing _ t h
retry_lead_below b me t (Installs g members missing x) h = posts_all_below b g me missing _ t h
retry_lead_below b me t (Completed g members x) h = (let k = posts_all_below b g me members msg.Thaw t h in either b _ (retry_run me g members x (posts_all g me members msg.Thaw t) x.run) (posts_all g me members msg.Thaw t) (retry_run_below b me g members x _ x.run k) k)

retry_below : (b : ℕ) (c : Config) (me : ℕ) (t : Turn) → TurnBelow b t → TurnBelow b (retry c me t)
unfolding retry
retry_below b c me t h = retry_lead_below b me (retry_records c me t) _ (retry_records_below b c me t h)

-- ---- vacuums and messages

vacuum_all_below : (b : ℕ) (c : Config) (me db : ℕ) (m : Pairs RecState) (t : Turn) → TurnBelow b t → TurnBelow b (vacuum_all c me db m t)
unfolding vacuum_all
vacuum_all_below b c me db [] t h = h
vacuum_all_below b c me db (x ∷ m) t h = vacuum_all_below b c me db m _ (record_below b c me db x.0 _ t (λ at o k. vacuum_wish (Below b) at (others me t.node.members) o k) h)

vacuums_below : (b : ℕ) (c : Config) (me db : ℕ) (t : Turn) → TurnBelow b t → TurnBelow b (vacuums c me db t)
unfolding vacuums
vacuums_below b c me db t h = either b _ _ t (vacuum_all_below b c me db _ t h) h

of_record_below : (b : ℕ) (c : Config) (rules : Rules) (me : ℕ) (f : Frame) (t : Turn) (r : Option (ℕ × List ℕ)) → TurnBelow b t → TurnBelow b (on_record_of c rules me f t r)
unfolding on_record_of
of_record_below b c rules me f t None h = h
of_record_below b c rules me f t (Some r) h = either b _ _ t (record_below b c me r.0 r.1 _ t (λ at o k. arrive_wish (Below b) at rules f.sender f.msg o k) h) h

arrives_below : (b : ℕ) (c : Config) (rules : Rules) (me : ℕ) (f : Frame) (t : Turn) (m : Msg) → TurnBelow b t → TurnBelow b (arrives c rules me f t m)
unfolding arrives if_persistent if_sound if_taken_over
arrives_below b c rules me f t (msg.PUpdate db seq ws) h = either b _ _ t (pupdate_below b me f.sender db seq ws t h) h
arrives_below b c rules me f t (msg.PAck db seq) h = either b _ _ t (pack_below b f.sender db seq t h) h
arrives_below b c rules me f t (msg.Freeze members) h = either b _ _ t (freeze_below b c me f.sender f.generation t h) h
arrives_below b c rules me f t msg.FreezeAck h = either b _ _ t (freezeack_below b me f.sender f.generation t t.node.lead h) h
arrives_below b c rules me f t msg.Pull h = either b _ _ t (pull_below b c me f.sender f.generation t h) h
arrives_below b c rules me f t (msg.PullReply vbase pbase table ptables addresses) h = either b _ _ t (pullreply_below b me f.generation _ t t.node.lead h) h
arrives_below b c rules me f t (msg.Push members table ptables assigned) h = either b _ _ t (push_below b c me f.sender f.generation members table ptables assigned t h) h
arrives_below b c rules me f t msg.PushAck h = either b _ _ t (pushack_below b c me f.sender f.generation t t.node.lead h) h
arrives_below b c rules me f t msg.Thaw h = either b _ _ t (thaw_below b c rules me f.generation t t.node.phase h) h
arrives_below b c rules me f t (msg.Release number keep) h = either b _ _ t (release_below b me f.sender number keep t h) h
arrives_below b c rules me f t (msg.ReleaseAck number) h = either b _ _ t (releaseack_below b me f.sender f.generation number t t.node.lead h) h
arrives_below b c rules me f t (msg.Take number assigned) h = either b _ _ t (take_below b c me number assigned t h) h
arrives_below b c rules me f t m h = of_record_below b c rules me f t (record_in m) h

-- ---- every event

happens_below : (c : Config) (rules : Rules) (me b : ℕ) (t : Turn) (e : Event) → asks_below b e ≡ true → TurnBelow b t → TurnBelow b (happens c rules me t e)
unfolding happens asks_below
happens_below c rules me b t (event.Client call o) l h = client_below b c rules me call o t (ltb-true call b l) h
happens_below c rules me b t (event.Arrive f) l h = arrives_below b c rules me f t f.msg h
happens_below c rules me b t event.Retry l h = retry_below b c me t h
happens_below c rules me b t (event.Vacuum db) l h = vacuums_below b c me db t h
happens_below c rules me b t (event.BeginRound ticket members) l h = begin_below b me ticket members t h
happens_below c rules me b t (event.BeginTakeover able) l h = begin_takeover_below b me able t t.node.lead h

pub calls_stay_below : CallsStayBelow
calls_stay_below c rules me b t e l h = is_after b (happens c rules me t e).node (happens_below c rules me b t e l (is_below b t.node h))

-- ---- below greater numbers, at the opening and after a stop

wish_more : (b d : ℕ) (w : Option Wish) → b ≤ d → Wishful (Below b) w → Wishful (Below d) w
unfolding Wishful
wish_more b d None l h = tt
wish_more b d (Some w) l h = omega arith

commit_more : (b d : ℕ) (x : Option Committing) → b ≤ d → CommitBelow b x → CommitBelow d x
unfolding CommitBelow
commit_more b d None l h = tt
commit_more b d (Some x) l h = omega arith

wishes_more : (b d : ℕ) (m : Pairs RecState) → b ≤ d → AllByRecursion (λ e. WishBelow b e.1) m → AllByRecursion (λ e. WishBelow d e.1) m
wishes_more b d [] l h = tt
wishes_more b d (e ∷ m) l h = (wish_more b d e.1.wish l h.0, wishes_more b d m l h.1)

bases_more : (b d : ℕ) (ds : List Database) → b ≤ d → AllByRecursion (BaseBelow b) ds → AllByRecursion (BaseBelow d) ds
bases_more b d [] l h = tt
bases_more b d (x ∷ ds) l h = (record { wishes = wishes_more b d x.records l h.0.wishes; commit = commit_more b d x.commit l h.0.commit }, bases_more b d ds l h.1)

pub more_below : CallsStayBelowMore
more_below b d n l h = is_after d n (bases_more b d n.dbs l (is_below b n h))

none_below : {X : Type 0} (b : ℕ) (xs : List X) → AllByRecursion (BaseBelow b) (untouched_all xs)
unfolding untouched_all untouched CommitBelow
none_below b [] = tt
none_below b (x ∷ xs) = (record { wishes = tt; commit = tt }, none_below b xs)

pub opens_below : NoneWaitsAtOpening
unfolding opening
opens_below c members b = is_after b (opening c members) (none_below b c.dbs)

stopped_below : (b : ℕ) (ds : List Database) → AllByRecursion (BaseBelow b) (map restarted_db ds)
unfolding restarted_db untouched CommitBelow
stopped_below b [] = tt
stopped_below b (d ∷ ds) = (record { wishes = tt; commit = tt }, stopped_below b ds)

pub restarts_below : NoneWaitsAfterStop
unfolding restarted
restarts_below c n b = is_after b (restarted c n) (stopped_below b n.dbs)

-- Every part of a step leaves the placement as it is, or makes one of the addresses of the configuration.
use Rattle.std.proofs.Common.{◌≡◌, ℕ, ◌+◌, Bool, true, false, cond, List, [], ◌∷◌, Option, Some, None, refl, ap}
use Rattle.std.specs.Prelude.{map, nat_lt}
use Rattle.ct_values.specs.declared.address.Address.{Address}
use Rattle.ct_values.specs.declared.client.ClientOp.{ClientOp}
use Rattle.ct_values.specs.declared.client.ClientOp.TheVariants as op
use Rattle.ct_values.specs.declared.client.Pair.{Pair}
use Rattle.ct_values.specs.declared.client.Why.{Why}
use Rattle.ct_values.specs.declared.config.Config.{Config}
use Rattle.ct_frame.specs.declared.event.Event.TheVariants as event
use Rattle.ct_frame.specs.declared.frame.Assigned.{Assigned}
use Rattle.ct_frame.specs.declared.frame.Frame.{Frame}
use Rattle.ct_frame.specs.declared.frame.Msg.{Msg}
use Rattle.ct_frame.specs.declared.frame.Msg.TheVariants as msg
use Rattle.ct_frame.specs.declared.frame.PTable.{PTable}
use Rattle.ct_frame.specs.declared.frame.TableRow.{TableRow}
use Rattle.ct_frame.specs.declared.round.Pull.{Pull}
use Rattle.ct_frame.specs.declared.round.PushBody.{PushBody}
use Rattle.ct_call.specs.Rules.{Rules}
use Rattle.ct_merge.specs.Gathered.{Gathered}
use Rattle.ct_store.specs.Map.{Pairs}
use Rattle.ct_rules.specs.declared.state.RecState.{RecState}
use Rattle.ct_rules_node.specs.Admission.{record_in}
use Rattle.ct_rules_node.specs.Clients.{client, frozen_if_unlocked, reads, refusal, serves, serves_or, unlocks}
use Rattle.ct_rules_node.specs.Databases.{acknowledges, awaits_others, commit, commits_at, on_pack, on_pack_of, on_pupdate, read_pair, updates, with_commit}
use Rattle.ct_rules_node.specs.Node.{Committing, Completed, Database, Freezes, Freezing, Frozen, Idle, Installed, Installs, Lead, NoRun, Nothing, Phase, Pulls, Releasing, Run, Serving, Takeover, Taking, assigned_all, is_frozen_in, is_present_in, opening, restarted, with_db}
use Rattle.ct_rules_node.specs.Records.{acted, at_record, put_back, with_state}
use Rattle.ct_rules_node.specs.Retries.{call_all, retry, retry_lead, retry_records, retry_run, revoke_all, revoke_in, update_again, update_in}
use Rattle.ct_rules_node.specs.Rounds.{Called, all_frozen, all_installed, all_pulled, begin_round, ends_commit, ends_commits, ends_lock, freezes, installed_node, installs, on_freeze, on_freezeack, on_pull, on_pullreply, on_push, on_pushack, on_thaw, pushes, releases, thaws, want_all}
use Rattle.ct_rules_node.specs.Steps.{arrives, happens, if_persistent, if_sound, if_taken_over, on_record_of, vacuum_all, vacuums}
use Rattle.ct_rules_node.specs.Takeovers.{all_released, begin_takeover, on_release, on_releaseack, on_take, released_by, runs, send_releases, takes}
use Rattle.ct_rules_node.specs.Turn.{Turn, answers, does, makes, notes, posts, posts_all, with_lead, with_node, with_phase}
use Rattle.ct_law_form_cluster.specs.Placed.{IsPlaced, OpensPlaced, RestartsPlaced, StaysPlaced}

-- ---- small parts

-- the middle of a step, where it is so
abbrev Placed : Config → Turn → Type 0
Placed c u = IsPlaced c u.node

all_addresses : (addresses : List Address) (xs : List Assigned) → map (λ x. x.address) (assigned_all addresses xs) ≡ addresses
unfolding assigned_all
all_addresses [] xs = refl
all_addresses (a ∷ rest) xs = ap (λ (l : List Address). a ∷ l) (all_addresses rest xs)

either : (c : Config) (b : Bool) (u v : Turn) → Placed c u → Placed c v → Placed c (cond b u v)
either c true u v p q = p
either c false u v p q = q

posts_all_placed : (c : Config) (g me : ℕ) (ns : List ℕ) (m : Msg) (u : Turn) → Placed c u → Placed c (posts_all g me ns m u)
unfolding posts_all posts does
posts_all_placed c g me [] m u p = p
posts_all_placed c g me (n ∷ ns) m u p = posts_all_placed c g me ns m (posts g me n m u) p

may_post : (c : Config) (g me h : ℕ) (m : Msg) (u : Turn) (b : Bool) → Placed c u → Placed c (cond b (posts g me h m u) u)
unfolding posts does
may_post c g me h m u true p = p
may_post c g me h m u false p = p

-- ---- persistent databases

awaits_placed : (c : Config) (me call db seq : ℕ) (ws : List Pair) (ns : List ℕ) (u : Turn) → Placed c u → Placed c (awaits_others me call db seq ws ns u)
unfolding awaits_others answers does with_commit with_node with_db
awaits_placed c me call db seq ws [] u p = p
awaits_placed c me call db seq ws (n ∷ ns) u p = posts_all_placed c _ me (n ∷ ns) _ _ p

commit_placed : (c : Config) (me call db : ℕ) (ws : List Pair) (u : Turn) → Placed c u → Placed c (commit me call db ws u)
unfolding commit commits_at updates makes with_node with_db
commit_placed c me call db ws u p = awaits_placed c me call db _ ws _ _ p

on_pupdate_placed : (c : Config) (me n db seq : ℕ) (ws : List Pair) (u : Turn) → Placed c u → Placed c (on_pupdate me n db seq ws u)
unfolding on_pupdate acknowledges updates posts does with_node with_db
on_pupdate_placed c me n db seq ws u p = either c _ _ _ p p

on_pack_of_placed : (c : Config) (n db seq : ℕ) (u : Turn) (x : Option Committing) → Placed c u → Placed c (on_pack_of n db seq u x)
unfolding on_pack_of answers does with_commit with_node with_db
on_pack_of_placed c n db seq u None p = p
on_pack_of_placed c n db seq u (Some x) p = either c _ _ _ p p

on_pack_placed : (c : Config) (n db seq : ℕ) (u : Turn) → Placed c u → Placed c (on_pack n db seq u)
unfolding on_pack
on_pack_placed c n db seq u p = on_pack_of_placed c n db seq u _ p

-- ---- rounds

begin_round_placed : (c : Config) (me g : ℕ) (members : List ℕ) (u : Turn) → Placed c u → Placed c (begin_round me g members u)
unfolding begin_round with_lead makes
begin_round_placed c me g members u p = either c _ _ _ (posts_all_placed c g me members _ _ p) p

frozen_placed : (c : Config) (me g h : ℕ) (u : Turn) → Placed c u → Placed c (frozen_if_unlocked me g h u)
unfolding frozen_if_unlocked posts does with_phase
frozen_placed c me g h u p = either c _ _ _ p p

ends_commit_placed : (c : Config) (db : ℕ) (name : List ℕ) (u : Turn) (x : Option Committing) → Placed c u → Placed c (ends_commit db name u x)
unfolding ends_commit ends_lock notes does answers with_commit with_node with_db with_state
ends_commit_placed c db name u None p = p
ends_commit_placed c db name u (Some x) p = p

ends_commits_placed : (c : Config) (i : ℕ) (dbs : List Database) (u : Turn) → Placed c u → Placed c (ends_commits c i dbs u)
unfolding ends_commits
ends_commits_placed c i [] u p = p
ends_commits_placed c i (d ∷ ds) u p = ends_commits_placed c (i + 1) ds _ (ends_commit_placed c i _ u d.commit p)

on_freeze_placed : (c : Config) (me h g : ℕ) (u : Turn) → Placed c u → Placed c (on_freeze c me h g u)
unfolding on_freeze freezes with_node
on_freeze_placed c me h g u p =
    either c (nat_lt u.node.promise g) (frozen_if_unlocked me g h (ends_commits c 0 u.node.dbs (freezes g h u))) (cond (is_frozen_in g u.node.phase) (posts g me h msg.FreezeAck u) u)
    (frozen_placed c me g h _ (ends_commits_placed c 0 u.node.dbs (freezes g h u) p)) (may_post c g me h msg.FreezeAck u _ p)

all_frozen_placed : (c : Config) (me g : ℕ) (members : List ℕ) (u : Turn) (ns : List ℕ) → Placed c u → Placed c (all_frozen me g members u ns)
unfolding all_frozen with_lead
all_frozen_placed c me g members u [] p = posts_all_placed c g me members _ _ p
all_frozen_placed c me g members u (n ∷ ns) p = p

on_freezeack_placed : (c : Config) (me n g : ℕ) (u : Turn) (l : Lead) → Placed c u → Placed c (on_freezeack me n g u l)
unfolding on_freezeack
on_freezeack_placed c me n g u (Freezes h members missing) p = either c _ _ _ (all_frozen_placed c me g members u _ p) p
on_freezeack_placed c me n g u _ p = p

on_pull_placed : (c : Config) (me h g : ℕ) (u : Turn) → Placed c u → Placed c (on_pull c me h g u)
unfolding on_pull posts does
on_pull_placed c me h g u p = either c _ _ _ p p

all_pulled_placed : (c : Config) (me g : ℕ) (members : List ℕ) (x : Gathered) (u : Turn) (ns : List ℕ) → Placed c u → Placed c (all_pulled me g members x u ns)
unfolding all_pulled pushes notes does with_lead
all_pulled_placed c me g members x u [] p = posts_all_placed c g me members _ _ p
all_pulled_placed c me g members x u (n ∷ ns) p = p

on_pullreply_placed : (c : Config) (me g : ℕ) (pull : Pull) (u : Turn) (l : Lead) → Placed c u → Placed c (on_pullreply me g pull u l)
unfolding on_pullreply
on_pullreply_placed c me g pull u (Pulls h members missing x) p = either c _ _ _ (all_pulled_placed c me g members _ u _ p) p
on_pullreply_placed c me g pull u _ p = p

releases_placed : (c : Config) (xs : List Address) (u : Turn) → Placed c u → Placed c (releases xs u)
unfolding releases notes does
releases_placed c [] u p = p
releases_placed c (a ∷ rest) u p = releases_placed c rest _ p

on_push_placed : (c : Config) (me h g : ℕ) (members : List ℕ) (table : List TableRow) (ptables : List PTable) (assigned : List Assigned) (u : Turn) → Placed c u → Placed c (on_push c me h g members table ptables assigned u)
unfolding on_push installs installed_node posts does notes with_node
on_push_placed c me h g members table ptables assigned u p =
    either c (is_frozen_in g u.node.phase) (posts g me h msg.PushAck (installs c me h g members table ptables assigned u)) (cond (is_present_in g u.node) (posts g me h msg.PushAck u) u)
    (releases_placed c _ _ (all_addresses c.addresses assigned)) (may_post c g me h msg.PushAck u _ p)

all_installed_placed : (c : Config) (me g : ℕ) (members : List ℕ) (b : PushBody) (u : Turn) (ns : List ℕ) → Placed c u → Placed c (all_installed c me g members b u ns)
unfolding all_installed with_lead
all_installed_placed c me g members b u [] p = posts_all_placed c g me members _ _ p
all_installed_placed c me g members b u (n ∷ ns) p = p

on_pushack_placed : (c : Config) (me n g : ℕ) (u : Turn) (l : Lead) → Placed c u → Placed c (on_pushack c me n g u l)
unfolding on_pushack
on_pushack_placed c me n g u (Installs h members missing b) p = either c _ _ _ (all_installed_placed c me g members b u _ p) p
on_pushack_placed c me n g u _ p = p

want_all_placed : (c : Config) (rules : Rules) (me : ℕ) (xs : List Called) (u : Turn) → Placed c u → Placed c (want_all c rules me xs u)
unfolding want_all at_record acted put_back
want_all_placed c rules me [] u p = p
want_all_placed c rules me (x ∷ xs) u p = want_all_placed c rules me xs _ p

on_thaw_placed : (c : Config) (rules : Rules) (me g : ℕ) (u : Turn) (q : Phase) → Placed c u → Placed c (on_thaw c rules me g u q)
unfolding on_thaw thaws notes does with_phase
on_thaw_placed c rules me g u Installed p = either c _ _ _ (want_all_placed c rules me _ _ p) p
on_thaw_placed c rules me g u Idle p = p
on_thaw_placed c rules me g u Serving p = p
on_thaw_placed c rules me g u (Freezing h l) p = p
on_thaw_placed c rules me g u (Frozen h) p = p

-- ---- takeover runs

send_releases_placed : (c : Config) (me g number : ℕ) (placement : List Assigned) (ns : List ℕ) (u : Turn) → Placed c u → Placed c (send_releases me g number placement ns u)
unfolding send_releases posts does
send_releases_placed c me g number placement [] u p = p
send_releases_placed c me g number placement (n ∷ ns) u p = send_releases_placed c me g number placement ns _ p

begin_takeover_placed : (c : Config) (me : ℕ) (able : List ℕ) (u : Turn) (l : Lead) → Placed c u → Placed c (begin_takeover me able u l)
unfolding begin_takeover runs makes with_lead
begin_takeover_placed c me able u (Completed g members x) p = either c _ _ _ (send_releases_placed c me g _ _ members _ p) p
begin_takeover_placed c me able u _ p = p

on_release_placed : (c : Config) (me h number : ℕ) (keep : List Address) (u : Turn) → Placed c u → Placed c (on_release me h number keep u)
unfolding on_release posts does with_node
on_release_placed c me h number keep u p = either c _ _ _ p (releases_placed c _ _ p)

all_released_placed : (c : Config) (me g : ℕ) (members : List ℕ) (x : Takeover) (placement : List Assigned) (u : Turn) (ns : List ℕ) → Placed c u → Placed c (all_released me g members x placement u ns)
unfolding all_released with_lead
all_released_placed c me g members x placement u [] p = posts_all_placed c g me members _ _ p
all_released_placed c me g members x placement u (n ∷ ns) p = p

released_by_placed : (c : Config) (me n g : ℕ) (members : List ℕ) (x : Takeover) (u : Turn) (r : Run) → Placed c u → Placed c (released_by me n g members x u r)
unfolding released_by
released_by_placed c me n g members x u (Releasing placement missing) p = either c _ _ _ (all_released_placed c me g members x placement u _ p) p
released_by_placed c me n g members x u _ p = p

on_releaseack_placed : (c : Config) (me n g number : ℕ) (u : Turn) (l : Lead) → Placed c u → Placed c (on_releaseack me n g number u l)
unfolding on_releaseack
on_releaseack_placed c me n g number u (Completed h members x) p = either c _ _ _ (released_by_placed c me n g members x u x.run p) p
on_releaseack_placed c me n g number u _ p = p

takes_placed : (c : Config) (xs : List Address) (u : Turn) → Placed c u → Placed c (takes xs u)
unfolding takes notes does with_node
takes_placed c [] u p = p
takes_placed c (a ∷ rest) u p = takes_placed c rest _ p

on_take_placed : (c : Config) (me number : ℕ) (assigned : List Assigned) (u : Turn) → Placed c u → Placed c (on_take c me number assigned u)
unfolding on_take with_node
on_take_placed c me number assigned u p = either c _ _ _ (takes_placed c _ _ (all_addresses c.addresses assigned)) p

-- ---- sending again

call_all_placed : (c : Config) (me : ℕ) (xs : List Called) (u : Turn) → Placed c u → Placed c (call_all c me xs u)
unfolding call_all at_record acted put_back
call_all_placed c me [] u p = p
call_all_placed c me (x ∷ xs) u p = call_all_placed c me xs _ p

revoke_all_placed : (c : Config) (me db : ℕ) (m : Pairs RecState) (u : Turn) → Placed c u → Placed c (revoke_all c me db m u)
unfolding revoke_all at_record acted put_back
revoke_all_placed c me db [] u p = p
revoke_all_placed c me db (e ∷ m) u p = revoke_all_placed c me db m _ p

revoke_in_placed : (c : Config) (me i : ℕ) (dbs : List Database) (u : Turn) → Placed c u → Placed c (revoke_in c me i dbs u)
unfolding revoke_in
revoke_in_placed c me i [] u p = p
revoke_in_placed c me i (d ∷ ds) u p = revoke_in_placed c me (i + 1) ds _ (revoke_all_placed c me i d.records u p)

update_again_placed : (c : Config) (me db : ℕ) (u : Turn) (x : Option Committing) → Placed c u → Placed c (update_again me db u x)
unfolding update_again
update_again_placed c me db u None p = p
update_again_placed c me db u (Some x) p = posts_all_placed c _ me _ _ u p

update_in_placed : (c : Config) (me i : ℕ) (dbs : List Database) (u : Turn) → Placed c u → Placed c (update_in me i dbs u)
unfolding update_in
update_in_placed c me i [] u p = p
update_in_placed c me i (d ∷ ds) u p = update_in_placed c me (i + 1) ds _ (update_again_placed c me i u d.commit p)

retry_records_placed : (c : Config) (me : ℕ) (u : Turn) → Placed c u → Placed c (retry_records c me u)
unfolding retry_records
retry_records_placed c me u p = either c _ _ _ (update_in_placed c me 0 u.node.dbs _ (revoke_in_placed c me 0 u.node.dbs _ (call_all_placed c me _ u p))) p

retry_run_placed : (c : Config) (me g : ℕ) (members : List ℕ) (x : Takeover) (u : Turn) (r : Run) → Placed c u → Placed c (retry_run me g members x u r)
unfolding retry_run
retry_run_placed c me g members x u NoRun p = p
retry_run_placed c me g members x u (Releasing placement missing) p = send_releases_placed c me g x.number placement missing u p
retry_run_placed c me g members x u (Taking placement) p = posts_all_placed c g me members _ u p

retry_lead_placed : (c : Config) (me : ℕ) (u : Turn) (l : Lead) → Placed c u → Placed c (retry_lead me u l)
unfolding retry_lead
retry_lead_placed c me u Nothing p = p
retry_lead_placed c me u (Freezes g members missing) p = posts_all_placed c g me missing _ u p
retry_lead_placed c me u (Pulls g members missing x) p = posts_all_placed c g me missing _ u p
retry_lead_placed c me u (Installs g members missing b) p = posts_all_placed c g me missing _ u p
retry_lead_placed c me u (Completed g members x) p = either c _ _ _ (retry_run_placed c me g members x _ x.run (posts_all_placed c g me members _ u p)) (posts_all_placed c g me members _ u p)

retry_placed : (c : Config) (me : ℕ) (u : Turn) → Placed c u → Placed c (retry c me u)
unfolding retry
retry_placed c me u p = retry_lead_placed c me _ _ (retry_records_placed c me u p)

-- ---- vacuums

vacuum_all_placed : (c : Config) (me db : ℕ) (m : Pairs RecState) (u : Turn) → Placed c u → Placed c (vacuum_all c me db m u)
unfolding vacuum_all at_record acted put_back
vacuum_all_placed c me db [] u p = p
vacuum_all_placed c me db (e ∷ m) u p = vacuum_all_placed c me db m _ p

vacuums_placed : (c : Config) (me db : ℕ) (u : Turn) → Placed c u → Placed c (vacuums c me db u)
unfolding vacuums
vacuums_placed c me db u p = either c _ _ _ (vacuum_all_placed c me db _ u p) p

-- ---- clients

unlocks_placed : (c : Config) (me call db : ℕ) (key : List ℕ) (u : Turn) (q : Phase) → Placed c u → Placed c (unlocks c me call db key u q)
unfolding unlocks at_record acted put_back
unlocks_placed c me call db key u (Freezing g h) p = frozen_placed c me g h _ p
unlocks_placed c me call db key u Idle p = p
unlocks_placed c me call db key u Serving p = p
unlocks_placed c me call db key u Installed p = p
unlocks_placed c me call db key u (Frozen g) p = p

serves_placed : (c : Config) (rules : Rules) (me call : ℕ) (u : Turn) (asked : ClientOp) → Placed c u → Placed c (serves c rules me call u asked)
unfolding serves reads read_pair answers does at_record acted put_back
serves_placed c rules me call u (op.Read db key) p = either c _ _ _ p p
serves_placed c rules me call u (op.Store db key v) p = p
serves_placed c rules me call u (op.Unlock db key) p = unlocks_placed c me call db key u u.node.phase p
serves_placed c rules me call u (op.Commit db writes) p = commit_placed c me call db writes u p
serves_placed c rules me call u (op.Lock db key) p = p
serves_placed c rules me call u (op.Write db key v) p = p
serves_placed c rules me call u (op.Apply db key f arg) p = p

serves_or_placed : (c : Config) (rules : Rules) (me call : ℕ) (asked : ClientOp) (u : Turn) (w : Option Why) → Placed c u → Placed c (serves_or c rules me call asked u w)
unfolding serves_or answers does
serves_or_placed c rules me call asked u (Some w) p = p
serves_or_placed c rules me call asked u None p = serves_placed c rules me call u asked p

client_placed : (c : Config) (rules : Rules) (me call : ℕ) (asked : ClientOp) (u : Turn) → Placed c u → Placed c (client c rules me call asked u)
unfolding client makes
client_placed c rules me call asked u p = serves_or_placed c rules me call asked _ (refusal c rules u.node asked) p

-- ---- messages

on_record_of_placed : (c : Config) (rules : Rules) (me : ℕ) (f : Frame) (u : Turn) (r : Option (ℕ × List ℕ)) → Placed c u → Placed c (on_record_of c rules me f u r)
unfolding on_record_of at_record acted put_back
on_record_of_placed c rules me f u None p = p
on_record_of_placed c rules me f u (Some r) p = either c _ _ _ p p

arrives_placed : (c : Config) (rules : Rules) (me : ℕ) (f : Frame) (u : Turn) (m : Msg) → Placed c u → Placed c (arrives c rules me f u m)
unfolding arrives if_persistent if_sound if_taken_over
arrives_placed c rules me f u (msg.PUpdate db seq writes) p = either c _ _ _ (on_pupdate_placed c me f.sender db seq writes u p) p
arrives_placed c rules me f u (msg.PAck db seq) p = either c _ _ _ (on_pack_placed c f.sender db seq u p) p
arrives_placed c rules me f u (msg.Freeze members) p = either c _ _ _ (on_freeze_placed c me f.sender f.generation u p) p
arrives_placed c rules me f u msg.FreezeAck p = either c _ _ _ (on_freezeack_placed c me f.sender f.generation u u.node.lead p) p
arrives_placed c rules me f u msg.Pull p = either c _ _ _ (on_pull_placed c me f.sender f.generation u p) p
arrives_placed c rules me f u (msg.PullReply vbase pbase table ptables addresses) p = either c _ _ _ (on_pullreply_placed c me f.generation _ u u.node.lead p) p
arrives_placed c rules me f u (msg.Push members table ptables assigned) p = either c _ _ _ (on_push_placed c me f.sender f.generation members table ptables assigned u p) p
arrives_placed c rules me f u msg.PushAck p = either c _ _ _ (on_pushack_placed c me f.sender f.generation u u.node.lead p) p
arrives_placed c rules me f u msg.Thaw p = either c _ _ _ (on_thaw_placed c rules me f.generation u u.node.phase p) p
arrives_placed c rules me f u (msg.Release number keep) p = either c _ _ _ (on_release_placed c me f.sender number keep u p) p
arrives_placed c rules me f u (msg.ReleaseAck number) p = either c _ _ _ (on_releaseack_placed c me f.sender f.generation number u u.node.lead p) p
arrives_placed c rules me f u (msg.Take number assigned) p = either c _ _ _ (on_take_placed c me number assigned u p) p
arrives_placed c rules me f u m p = on_record_of_placed c rules me f u (record_in m) p

-- ---- every event

pub stays_placed : StaysPlaced
unfolding happens
stays_placed c rules me u (event.Client call o) p = client_placed c rules me call o u p
stays_placed c rules me u (event.Arrive f) p = arrives_placed c rules me f u f.msg p
stays_placed c rules me u event.Retry p = retry_placed c me u p
stays_placed c rules me u (event.Vacuum db) p = vacuums_placed c me db u p
stays_placed c rules me u (event.BeginRound ticket members) p = begin_round_placed c me ticket members u p
stays_placed c rules me u (event.BeginTakeover able) p = begin_takeover_placed c me able u u.node.lead p

pub opens_placed : OpensPlaced
unfolding opening
opens_placed c members = all_addresses c.addresses []

pub restarts_placed : RestartsPlaced
unfolding restarted
restarts_placed c n = all_addresses c.addresses []

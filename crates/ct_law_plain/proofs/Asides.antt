-- What every part of a step that is at no record does to locks and to commits that wait: it keeps them, or ends all commits.
use Rattle.std.proofs.Common.{◌≡◌, ◌≢◌, ℕ, zero, suc, ◌+◌, Bool, true, false, cond, List, [], ◌∷◌, map, set, Option, Some, None, refl, sym, ap, ◌∙◌, subst, arith}
use Rattle.std.specs.Prelude.{slice_get, not, is_some, nat_eq, nat_lt, ◌||◌}
use Rattle.std.specs.List.{filter}
use Rattle.ct_values.specs.declared.address.Address.{Address}
use Rattle.ct_values.specs.declared.client.Pair.{Pair}
use Rattle.ct_values.specs.declared.config.Config.{Config}
use Rattle.ct_frame.specs.declared.frame.Assigned.{Assigned}
use Rattle.ct_frame.specs.declared.frame.Msg.{Msg}
use Rattle.ct_frame.specs.declared.frame.Msg.TheVariants as msg
use Rattle.ct_frame.specs.declared.frame.PTable.{PTable}
use Rattle.ct_frame.specs.declared.frame.TableRow.{TableRow}
use Rattle.ct_frame.specs.declared.round.Pull.{Pull}
use Rattle.ct_frame.specs.declared.round.PushBody.{PushBody}
use Rattle.ct_merge.specs.Gathered.{Gathered}
use Rattle.ct_store.specs.Map.{look}
use Rattle.ct_rules_node.specs.Node.{is_frozen_in, Node, Phase, Frozen, Database, Committing, Lead, Nothing, Freezes, Pulls, Installs, Completed, Takeover, Run, NoRun, Releasing, Taking, is_serving, is_present_in, master_of, or_untouched, or_nothing, untouched, db_at, with_db, restarted_db, restarted, untouched_all, opening}
use Rattle.ct_rules_node.specs.Turn.{Turn, does, with_node, with_lead, with_phase, makes, answers, notes, posts, posts_all}
use Rattle.ct_rules_node.specs.Records.{with_state}
use Rattle.ct_rules_node.specs.Clients.{frozen_if_unlocked, any_locked}
use Rattle.ct_rules_node.specs.Databases.{updates, with_commit, acknowledges, on_pupdate, on_pack_of, on_pack}
use Rattle.ct_rules_node.specs.Rounds.{begin_round, frozen_db, freezes, ends_lock, ends_commit, ends_commits, all_frozen, on_freezeack, table_of, ptables_of, on_pull, pushes, all_pulled, on_pullreply, releases, installed_db, installed_dbs, installed_node, row_master, makes_rows, installs, all_installed, on_pushack}
use Rattle.ct_rules_node.specs.Takeovers.{send_releases, runs, begin_takeover, has_address, on_release, all_released, released_by, on_releaseack, takes, on_take}
use Rattle.ct_rules_node.specs.Retries.{update_again, update_in, retry_run, retry_lead}
use Rattle.ct_law_plain.proofs.Plainly.{like_set}
use Rattle.ct_law_plain.proofs.Locked.{waits_in, locked_in, KeepsCommits, keeps_same, either_keeps, NoneWaits, waits_set, waits_ended}

-- ---- small words

-- the phase and the databases are as they were
pub record Alike (t u : Turn) : Type 0 where
  pub phase : u.node.phase ≡ t.node.phase
  pub dbs : u.node.dbs ≡ t.node.dbs

pub alike_same : (t : Turn) → Alike t t
alike_same t = record { phase = refl; dbs = refl }

alike_either : (t u v : Turn) (b : Bool) → Alike t u → Alike t v → Alike t (cond b u v)
alike_either t u v true f g = f
alike_either t u v false f g = g

pub alike_keeps : (t u : Turn) → Alike t u → KeepsCommits t u
alike_keeps t u a = record {
  serving = λ h. subst (λ (p : Phase). is_serving p ≡ true) (sym a.phase) h;
  waits = λ db w. subst (λ (ds : List Database). waits_in db ds ≡ true) a.dbs w;
  locks = λ key h. subst (λ (ds : List Database). locked_in key ds ≡ true) (sym a.dbs) h;
}

pub posts_all_alike : (t u : Turn) (g me : ℕ) (ns : List ℕ) (m : Msg) → Alike t u → Alike t (posts_all g me ns m u)
unfolding posts_all posts does
posts_all_alike t u g me [] m a = a
posts_all_alike t u g me (n ∷ ns) m a = posts_all_alike t (posts g me n m u) g me ns m (record { phase = a.phase; dbs = a.dbs })

pub releases_alike : (t u : Turn) (xs : List Address) → Alike t u → Alike t (releases xs u)
unfolding releases notes does
releases_alike t u [] a = a
releases_alike t u (x ∷ xs) a = releases_alike t _ xs (record { phase = a.phase; dbs = a.dbs })

takes_alike : (t : Turn) (xs : List Address) (u : Turn) → Alike t u → Alike t (takes xs u)
unfolding takes notes does with_node
takes_alike t [] u a = a
takes_alike t (x ∷ xs) u a = takes_alike t xs _ (record { phase = a.phase; dbs = a.dbs })

send_releases_alike : (t : Turn) (me g number : ℕ) (placement : List Assigned) (ns : List ℕ) (u : Turn) → Alike t u → Alike t (send_releases me g number placement ns u)
unfolding send_releases posts does
send_releases_alike t me g number placement [] u a = a
send_releases_alike t me g number placement (n ∷ ns) u a = send_releases_alike t me g number placement ns _ (record { phase = a.phase; dbs = a.dbs })

pub makes_rows_alike : (t : Turn) (me : ℕ) (members : List ℕ) (table : List TableRow) (u : Turn) → Alike t u → Alike t (makes_rows me members table u)
unfolding makes_rows makes
makes_rows_alike t me members [] u a = a
makes_rows_alike t me members (row ∷ rows) u a = makes_rows_alike t me members rows _
    (alike_either t (makes (row.rsn + 1) u) u (nat_eq me (row_master row) || nat_eq me (master_of members row.key)) (record { phase = a.phase; dbs = a.dbs }) a)

-- ---- rounds, but a freeze and an installation

pub begin_round_alike : (me g : ℕ) (members : List ℕ) (t : Turn) → Alike t (begin_round me g members t)
unfolding begin_round with_lead makes
begin_round_alike me g members t = alike_either t _ t _ (posts_all_alike t _ g me members _ (record { phase = refl; dbs = refl })) (alike_same t)

all_frozen_alike : (me g : ℕ) (members : List ℕ) (t : Turn) (ms : List ℕ) → Alike t (all_frozen me g members t ms)
unfolding all_frozen with_lead
all_frozen_alike me g members t [] = posts_all_alike t _ g me members _ (record { phase = refl; dbs = refl })
all_frozen_alike me g members t (m ∷ ms) = record { phase = refl; dbs = refl }

pub on_freezeack_alike : (me n g : ℕ) (t : Turn) (l : Lead) → Alike t (on_freezeack me n g t l)
unfolding on_freezeack
on_freezeack_alike me n g t (Freezes h members missing) = alike_either t _ t _ (all_frozen_alike me g members t _) (alike_same t)
on_freezeack_alike me n g t _ = alike_same t

pub on_pull_alike : (c : Config) (me h g : ℕ) (t : Turn) → Alike t (on_pull c me h g t)
unfolding on_pull posts does
on_pull_alike c me h g t = alike_either t (posts g me h (msg.PullReply t.node.generation t.node.pbase (table_of me 0 t.node.dbs) (ptables_of c 0 t.node.dbs) t.node.held) t) t (is_frozen_in g t.node.phase) (record { phase = refl; dbs = refl }) (alike_same t)

all_pulled_alike : (me g : ℕ) (members : List ℕ) (x : Gathered) (t : Turn) (ms : List ℕ) → Alike t (all_pulled me g members x t ms)
unfolding all_pulled pushes with_lead notes does
all_pulled_alike me g members x t [] = posts_all_alike t _ g me members _ (record { phase = refl; dbs = refl })
all_pulled_alike me g members x t (m ∷ ms) = record { phase = refl; dbs = refl }

pub on_pullreply_alike : (me g : ℕ) (pull : Pull) (t : Turn) (l : Lead) → Alike t (on_pullreply me g pull t l)
unfolding on_pullreply
on_pullreply_alike me g pull t (Pulls h members missing x) = alike_either t _ t _ (all_pulled_alike me g members _ t _) (alike_same t)
on_pullreply_alike me g pull t _ = alike_same t

all_installed_alike : (c : Config) (me g : ℕ) (members : List ℕ) (b : PushBody) (t : Turn) (ms : List ℕ) → Alike t (all_installed c me g members b t ms)
unfolding all_installed with_lead
all_installed_alike c me g members b t [] = posts_all_alike t _ g me members _ (record { phase = refl; dbs = refl })
all_installed_alike c me g members b t (m ∷ ms) = record { phase = refl; dbs = refl }

pub on_pushack_alike : (c : Config) (me n g : ℕ) (t : Turn) (l : Lead) → Alike t (on_pushack c me n g t l)
unfolding on_pushack
on_pushack_alike c me n g t (Installs h members missing b) = alike_either t _ t _ (all_installed_alike c me g members b t _) (alike_same t)
on_pushack_alike c me n g t _ = alike_same t

-- ---- takeovers

pub begin_takeover_alike : (me : ℕ) (able : List ℕ) (t : Turn) (l : Lead) → Alike t (begin_takeover me able t l)
unfolding begin_takeover runs makes with_lead
begin_takeover_alike me able t (Completed g members x) = alike_either t _ t _ (send_releases_alike t me g _ _ members _ (record { phase = refl; dbs = refl })) (alike_same t)
begin_takeover_alike me able t _ = alike_same t

pub on_release_alike : (me h number : ℕ) (keep : List Address) (t : Turn) → Alike t (on_release me h number keep t)
unfolding on_release posts does with_node
on_release_alike me h number keep t =
    let mid = with_node (record t.node { last_run = number; held = filter (has_address keep) t.node.held }) t in
    let given_up = filter (λ x. not (has_address keep x)) t.node.held in
    let a = releases_alike t mid given_up (record { phase = refl; dbs = refl }) in
    alike_either t t (posts t.node.generation me h (msg.ReleaseAck number) (releases given_up mid)) (nat_lt number t.node.last_run) (alike_same t) (record { phase = a.phase; dbs = a.dbs })

all_released_alike : (me g : ℕ) (members : List ℕ) (x : Takeover) (placement : List Assigned) (t : Turn) (ms : List ℕ) → Alike t (all_released me g members x placement t ms)
unfolding all_released with_lead
all_released_alike me g members x placement t [] = posts_all_alike t _ g me members _ (record { phase = refl; dbs = refl })
all_released_alike me g members x placement t (m ∷ ms) = record { phase = refl; dbs = refl }

released_by_alike : (me n g : ℕ) (members : List ℕ) (x : Takeover) (t : Turn) (run : Run) → Alike t (released_by me n g members x t run)
unfolding released_by
released_by_alike me n g members x t (Releasing placement missing) = alike_either t _ t _ (all_released_alike me g members x placement t _) (alike_same t)
released_by_alike me n g members x t _ = alike_same t

pub on_releaseack_alike : (me n g number : ℕ) (t : Turn) (l : Lead) → Alike t (on_releaseack me n g number t l)
unfolding on_releaseack
on_releaseack_alike me n g number t (Completed h members x) = alike_either t _ t _ (released_by_alike me n g members x t x.run) (alike_same t)
on_releaseack_alike me n g number t _ = alike_same t

pub on_take_alike : (c : Config) (me number : ℕ) (assigned : List Assigned) (t : Turn) → Alike t (on_take c me number assigned t)
unfolding on_take with_node
on_take_alike c me number assigned t = alike_either t _ t _ (takes_alike t _ _ (record { phase = refl; dbs = refl })) (alike_same t)

-- ---- Retry of commits, of the round and of the run

update_again_alike : (me db : ℕ) (t u : Turn) (x : Option Committing) → Alike t u → Alike t (update_again me db u x)
unfolding update_again
update_again_alike me db t u None a = a
update_again_alike me db t u (Some x) a = posts_all_alike t u _ me _ _ a

pub update_in_alike : (me i : ℕ) (ds : List Database) (t u : Turn) → Alike t u → Alike t (update_in me i ds u)
unfolding update_in
update_in_alike me i [] t u a = a
update_in_alike me i (d ∷ ds) t u a = update_in_alike me (i + 1) ds t _ (update_again_alike me i t u d.commit a)

retry_run_alike : (me g : ℕ) (members : List ℕ) (x : Takeover) (t u : Turn) (run : Run) → Alike t u → Alike t (retry_run me g members x u run)
unfolding retry_run
retry_run_alike me g members x t u NoRun a = a
retry_run_alike me g members x t u (Releasing placement missing) a = send_releases_alike t me g x.number placement missing u a
retry_run_alike me g members x t u (Taking placement) a = posts_all_alike t u g me members _ a

pub retry_lead_alike : (me : ℕ) (t : Turn) (l : Lead) → Alike t (retry_lead me t l)
unfolding retry_lead
retry_lead_alike me t Nothing = alike_same t
retry_lead_alike me t (Freezes g members missing) = posts_all_alike t t g me missing _ (alike_same t)
retry_lead_alike me t (Pulls g members missing x) = posts_all_alike t t g me missing _ (alike_same t)
retry_lead_alike me t (Installs g members missing b) = posts_all_alike t t g me missing _ (alike_same t)
retry_lead_alike me t (Completed g members x) =
    let a = posts_all_alike t t g me members _ (alike_same t) in
    alike_either t _ _ (is_present_in g t.node) (retry_run_alike me g members x t _ x.run a) a

-- ---- PUpdate and PAck

pub updates_keeps : (db seq : ℕ) (writes : List Pair) (t : Turn) → KeepsCommits t (updates db seq writes t)
unfolding updates with_node with_db db_at waits_in locked_in
updates_keeps db seq writes t = record {
  serving = λ h. h;
  waits = λ k w. sym (like_set (λ (d : Database). is_some d.commit) t.node.dbs db _ refl k) ∙ w;
  locks = λ key h. like_set (λ (d : Database). is_some (or_nothing (look key d.records)).locked) t.node.dbs db _ refl 0 ∙ h;
}

pub on_pupdate_keeps : (me sender db seq : ℕ) (writes : List Pair) (t : Turn) → KeepsCommits t (on_pupdate me sender db seq writes t)
unfolding on_pupdate acknowledges posts does
on_pupdate_keeps me sender db seq writes t = either_keeps t _ _ _ (updates_keeps db seq writes t) (updates_keeps db seq writes t)

with_commit_keeps : (db : ℕ) (x : Option Committing) (t : Turn) → (is_some x ≡ true → waits_in db t.node.dbs ≡ true) → KeepsCommits t (with_commit db x t)
unfolding with_commit with_node with_db db_at locked_in
with_commit_keeps db x t f = record {
  serving = λ h. h;
  waits = waits_set t.node.dbs db _ f;
  locks = λ key h. like_set (λ (d : Database). is_some (or_nothing (look key d.records)).locked) t.node.dbs db _ refl 0 ∙ h;
}

on_pack_of_keeps : (n db seq : ℕ) (t : Turn) (x : Option Committing) → (or_untouched (slice_get t.node.dbs db)).commit ≡ x → KeepsCommits t (on_pack_of n db seq t x)
unfolding on_pack_of answers does waits_in
on_pack_of_keeps n db seq t None e = keeps_same
on_pack_of_keeps n db seq t (Some x) e = either_keeps t _ _ _ (with_commit_keeps db None t (λ no. absurd (cc))) (with_commit_keeps db (Some _) t (λ _. ap is_some e))

pub on_pack_keeps : (n db seq : ℕ) (t : Turn) → KeepsCommits t (on_pack n db seq t)
unfolding on_pack db_at
on_pack_keeps n db seq t = on_pack_of_keeps n db seq t (or_untouched (slice_get t.node.dbs db)).commit refl

-- ---- Freeze: all commits end

-- only those wait that wait in a tail that begins at i
abbrev WaitIn : ℕ → List Database → List Database → Type 0
WaitIn i ds es = (db : ℕ) → waits_in db es ≡ true → (k : ℕ) × (db ≡ i + k) × (waits_in k ds ≡ true)

ends_one : (i : ℕ) (name : List ℕ) (t : Turn) (d : Database) (ds : List Database) (x : Option Committing) → d.commit ≡ x → WaitIn i (d ∷ ds) t.node.dbs → WaitIn (i + 1) ds (ends_commit i name t x).node.dbs
unfolding ends_commit ends_lock with_commit with_state with_node with_db db_at notes answers does waits_in or_untouched
ends_one i name t d ds None e h db w = rest db (h db w)
  where
    rest : (db : ℕ) → ((k : ℕ) × (db ≡ i + k) × (is_some (or_untouched (slice_get (d ∷ ds) k)).commit ≡ true)) → (k : ℕ) × (db ≡ (i + 1) + k) × (is_some (or_untouched (slice_get ds k)).commit ≡ true)
    rest db (zero, f, v) = absurd (let n = ap is_some e in cc)
    rest db (suc k, f, v) = (k, omega arith, v)
ends_one i name t d ds (Some x) e h db w = rest db (h db before.0) before.1
  where
    mid : List Database
    mid = set t.node.dbs i (record (or_untouched (slice_get t.node.dbs i)) { commit = None })

    before : (waits_in db t.node.dbs ≡ true) × (db ≢ i)
    before = waits_ended t.node.dbs i _ refl db (sym (like_set (λ (y : Database). is_some y.commit) mid 0 _ refl db) ∙ w)

    rest : (db : ℕ) → ((k : ℕ) × (db ≡ i + k) × (is_some (or_untouched (slice_get (d ∷ ds) k)).commit ≡ true)) → db ≢ i → (k : ℕ) × (db ≡ (i + 1) + k) × (is_some (or_untouched (slice_get ds k)).commit ≡ true)
    rest db (zero, f, v) ne = absurd (ne (omega arith))
    rest db (suc k, f, v) ne = (k, omega arith, v)

ends_all : (c : Config) (i : ℕ) (ds : List Database) (t : Turn) → WaitIn i ds t.node.dbs → NoneWaits (ends_commits c i ds t).node.dbs
unfolding ends_commits waits_in or_untouched untouched
ends_all c i [] t h db w = (let r = h db w in absurd (let n = r.2 in cc))
ends_all c i (d ∷ ds) t h db w = ends_all c (i + 1) ds _ (ends_one i _ t d ds d.commit refl h) db w

frozen_waits : (ds : List Database) (k : ℕ) → waits_in k (map frozen_db ds) ≡ waits_in k ds
unfolding waits_in or_untouched frozen_db
frozen_waits [] k = refl
frozen_waits (d ∷ ds) zero = refl
frozen_waits (d ∷ ds) (suc k) = frozen_waits ds k

-- no commit waits after a freeze that is followed
pub freeze_ends : (c : Config) (g h : ℕ) (t : Turn) → NoneWaits (ends_commits c 0 t.node.dbs (freezes g h t)).node.dbs
unfolding freezes with_node
freeze_ends c g h t = ends_all c 0 t.node.dbs (freezes g h t) (λ db w. (db, omega arith, sym (frozen_waits t.node.dbs db) ∙ w))

pub frozen_none : (me g leader : ℕ) (t : Turn) → NoneWaits t.node.dbs → NoneWaits (frozen_if_unlocked me g leader t).node.dbs
unfolding frozen_if_unlocked posts does with_phase
frozen_none me g leader t h = either (any_locked t.node.dbs)
  where
    either : (b : Bool) → NoneWaits (cond b t (posts g me leader msg.FreezeAck (with_phase (Frozen g) t))).node.dbs
    either true = h
    either false = h

-- ---- the installation, a stop and the opening

installed_waits : (me i : ℕ) (members : List ℕ) (table : List TableRow) (ptables : List PTable) (ds : List Database) (k : ℕ) → waits_in k (installed_dbs me i members table ptables ds) ≡ waits_in k ds
unfolding waits_in or_untouched installed_dbs installed_db
installed_waits me i members table ptables [] k = refl
installed_waits me i members table ptables (d ∷ ds) zero = refl
installed_waits me i members table ptables (d ∷ ds) (suc k) = installed_waits me (i + 1) members table ptables ds k

pub installs_none : (c : Config) (me h g : ℕ) (members : List ℕ) (table : List TableRow) (ptables : List PTable) (assigned : List Assigned) (t : Turn) → NoneWaits t.node.dbs → NoneWaits (installs c me h g members table ptables assigned t).node.dbs
unfolding installs notes does with_node installed_node
installs_none c me h g members table ptables assigned t none db w =
    let rows = makes_rows_alike t me members table t (alike_same t) in
    let a = releases_alike _ _ _ (alike_same (notes _ (with_node (installed_node c me h g members table ptables assigned t.node) (makes_rows me members table t)))) in
    none db (sym (installed_waits me 0 members table ptables t.node.dbs db) ∙ subst (λ (ds : List Database). waits_in db ds ≡ true) a.dbs w)

stopped_waits : (ds : List Database) → NoneWaits (map restarted_db ds)
unfolding waits_in or_untouched untouched restarted_db
stopped_waits [] k w = absurd (cc)
stopped_waits (d ∷ ds) zero w = absurd (cc)
stopped_waits (d ∷ ds) (suc k) w = stopped_waits ds k w

pub restarted_none : (c : Config) (n : Node) → NoneWaits (restarted c n).dbs
unfolding restarted
restarted_none c n = stopped_waits n.dbs

untouched_waits : {X : Type 0} (xs : List X) → NoneWaits (untouched_all xs)
unfolding waits_in or_untouched untouched untouched_all
untouched_waits {X} [] k w = absurd (cc)
untouched_waits {X} (x ∷ xs) zero w = absurd (cc)
untouched_waits {X} (x ∷ xs) (suc k) w = untouched_waits xs k w

pub opening_none : (c : Config) (members : List ℕ) → NoneWaits (opening c members).dbs
unfolding opening
opening_none c members = untouched_waits c.dbs

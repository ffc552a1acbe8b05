-- A part of a node's turn that looks at no record removes none.
use Rattle.std.proofs.Common.{◌≡◌, ℕ, ◌+◌, Bool, true, false, cond, ◌||◌, List, [], ◌∷◌, Option, Some, None, refl, ◌∙◌}
use Rattle.std.specs.Prelude.{nat_lt}
use Rattle.std.proofs.lemmas.List.Folds.{list_any-append}
use Rattle.ct_values.specs.declared.address.Address.{Address}
use Rattle.ct_values.specs.declared.client.Answer.{Answer}
use Rattle.ct_values.specs.declared.client.Pair.{Pair}
use Rattle.ct_values.specs.declared.config.Config.{Config}
use Rattle.ct_frame.specs.declared.event.Note.{Note}
use Rattle.ct_frame.specs.declared.event.Out.{Out}
use Rattle.ct_frame.specs.declared.frame.Assigned.{Assigned}
use Rattle.ct_frame.specs.declared.frame.Msg.{Msg}
use Rattle.ct_frame.specs.declared.frame.Msg.TheVariants as msg
use Rattle.ct_frame.specs.declared.frame.PTable.{PTable}
use Rattle.ct_frame.specs.declared.frame.TableRow.{TableRow}
use Rattle.ct_frame.specs.declared.round.Pull.{Pull}
use Rattle.ct_frame.specs.declared.round.PushBody.{PushBody}
use Rattle.ct_merge.specs.Gathered.{Gathered}
use Rattle.ct_rules_node.specs.Node.{Node, Database, Phase, Committing, Lead, Nothing, Freezes, Pulls, Installs, Completed, Takeover, Run, NoRun, Releasing, Taking, is_frozen_in, is_present_in}
use Rattle.ct_rules_node.specs.Turn.{Turn, does, with_node, with_lead, with_phase, makes, answers, notes, posts, posts_all}
use Rattle.ct_rules_node.specs.Records.{with_state}
use Rattle.ct_rules_node.specs.Clients.{frozen_if_unlocked}
use Rattle.ct_rules_node.specs.Databases.{updates, with_commit, awaits_others, commits_at, commit, acknowledges, on_pupdate, on_pack_of, on_pack, read_pair}
use Rattle.ct_rules_node.specs.Rounds.{begin_round, ends_lock, ends_commit, ends_commits, freezes, on_freeze, all_frozen, on_freezeack, on_pull, push_of, pushes, all_pulled, on_pullreply, releases, makes_rows, installs, on_push, all_installed, on_pushack}
use Rattle.ct_rules_node.specs.Takeovers.{send_releases, runs, begin_takeover, on_release, all_released, released_by, on_releaseack, takes, on_take}
use Rattle.ct_rules_node.specs.Retries.{update_again, update_in, retry_run, retry_lead}
use Rattle.ct_promise.specs.Marked.{removes}
use Rattle.ct_law_generation.proofs.Removing.{removes_by, removed_by}

-- the turn so far has not removed this record
pub record Silent (db : ℕ) (key : List ℕ) (t : Turn) : Type 0 where
  pub none : removed_by db key t.outs ≡ false

-- ---- the parts of every step

pub either : {d : ℕ} {k : List ℕ} {u v : Turn} (b : Bool) → Silent d k u → Silent d k v → Silent d k (cond b u v)
either {d} {k} {u} {v} true f g = f
either {d} {k} {u} {v} false f g = g

does_silent : {d : ℕ} {k : List ℕ} {u : Turn} (x : Out) → removes_by d k x ≡ false → Silent d k u → Silent d k (does x u)
unfolding does
does_silent {d} {k} {u} x e s = record { none = list_any-append (removes_by d k) u.outs (x ∷ []) ∙ (λ i. s.none i || (e i || false)) }

pub with_node_silent : {d : ℕ} {k : List ℕ} {u : Turn} (n : Node) → Silent d k u → Silent d k (with_node n u)
unfolding with_node
with_node_silent _ s = record { none = s.none }

pub with_lead_silent : {d : ℕ} {k : List ℕ} {u : Turn} (l : Lead) → Silent d k u → Silent d k (with_lead l u)
unfolding with_lead
with_lead_silent _ s = record { none = s.none }

pub with_phase_silent : {d : ℕ} {k : List ℕ} {u : Turn} (p : Phase) → Silent d k u → Silent d k (with_phase p u)
unfolding with_phase
with_phase_silent _ s = record { none = s.none }

pub makes_silent : {d : ℕ} {k : List ℕ} {u : Turn} (n : ℕ) → Silent d k u → Silent d k (makes n u)
unfolding makes
makes_silent _ s = record { none = s.none }

pub answers_silent : {d : ℕ} {k : List ℕ} {u : Turn} (call : ℕ) (a : Answer) → Silent d k u → Silent d k (answers call a u)
unfolding answers removes_by
answers_silent _ _ s = does_silent _ refl s

pub notes_silent : {d : ℕ} {k : List ℕ} {u : Turn} (n : Note) → removes d k n ≡ false → Silent d k u → Silent d k (notes n u)
unfolding notes removes_by
notes_silent _ e s = does_silent _ e s

posts_silent : {d : ℕ} {k : List ℕ} {u : Turn} (g me n : ℕ) (m : Msg) → Silent d k u → Silent d k (posts g me n m u)
unfolding posts removes_by
posts_silent _ _ _ _ s = does_silent _ refl s

posts_all_silent : {d : ℕ} {k : List ℕ} (g me : ℕ) (ns : List ℕ) (m : Msg) (u : Turn) → Silent d k u → Silent d k (posts_all g me ns m u)
unfolding posts_all
posts_all_silent g me [] m u s = s
posts_all_silent g me (n ∷ ns) m u s = posts_all_silent g me ns m (posts g me n m u) (posts_silent _ _ _ _ s)

-- ---- persistent databases

updates_silent : {d : ℕ} {k : List ℕ} {u : Turn} (db seq : ℕ) (ws : List Pair) → Silent d k u → Silent d k (updates db seq ws u)
unfolding updates
updates_silent _ _ _ s = with_node_silent _ s

with_commit_silent : {d : ℕ} {k : List ℕ} {u : Turn} (db : ℕ) (x : Option Committing) → Silent d k u → Silent d k (with_commit db x u)
unfolding with_commit
with_commit_silent _ _ s = with_node_silent _ s

awaits_silent : {d : ℕ} {k : List ℕ} (me call db seq : ℕ) (ws : List Pair) (ns : List ℕ) (u : Turn) → Silent d k u → Silent d k (awaits_others me call db seq ws ns u)
unfolding awaits_others
awaits_silent me call db seq ws [] u s = answers_silent _ _ s
awaits_silent me call db seq ws (n ∷ ns) u s = posts_all_silent _ _ _ _ _ (with_commit_silent _ _ s)

pub commit_silent : {d : ℕ} {k : List ℕ} {u : Turn} (me call db : ℕ) (ws : List Pair) → Silent d k u → Silent d k (commit me call db ws u)
unfolding commit commits_at
commit_silent _ _ _ _ s = awaits_silent _ _ _ _ _ _ _ (updates_silent _ _ _ (makes_silent _ s))

pub on_pupdate_silent : {d : ℕ} {k : List ℕ} {u : Turn} (me n db seq : ℕ) (ws : List Pair) → Silent d k u → Silent d k (on_pupdate me n db seq ws u)
unfolding on_pupdate acknowledges
on_pupdate_silent _ _ _ _ _ s = either _ (posts_silent _ _ _ _ (updates_silent _ _ _ s)) (updates_silent _ _ _ s)

on_pack_of_silent : {d : ℕ} {k : List ℕ} (n db seq : ℕ) (u : Turn) (x : Option Committing) → Silent d k u → Silent d k (on_pack_of n db seq u x)
unfolding on_pack_of
on_pack_of_silent n db seq u None s = s
on_pack_of_silent n db seq u (Some x) s = either _ (answers_silent _ _ (with_commit_silent _ _ s)) (with_commit_silent _ _ s)

pub on_pack_silent : {d : ℕ} {k : List ℕ} {u : Turn} (n db seq : ℕ) → Silent d k u → Silent d k (on_pack n db seq u)
unfolding on_pack
on_pack_silent _ _ _ s = on_pack_of_silent _ _ _ _ _ s

pub read_pair_silent : {d : ℕ} {k : List ℕ} {u : Turn} (call db : ℕ) (key : List ℕ) → Silent d k u → Silent d k (read_pair call db key u)
unfolding read_pair
read_pair_silent _ _ _ s = answers_silent _ _ s

-- ---- rounds

pub begin_round_silent : {d : ℕ} {k : List ℕ} {u : Turn} (me g : ℕ) (members : List ℕ) → Silent d k u → Silent d k (begin_round me g members u)
unfolding begin_round
begin_round_silent _ _ _ s = either _ (posts_all_silent _ _ _ _ _ (with_lead_silent _ (makes_silent _ s))) s

pub frozen_silent : {d : ℕ} {k : List ℕ} {u : Turn} (me g h : ℕ) → Silent d k u → Silent d k (frozen_if_unlocked me g h u)
unfolding frozen_if_unlocked
frozen_silent _ _ _ s = either _ s (posts_silent _ _ _ _ (with_phase_silent _ s))

ends_lock_silent : {d : ℕ} {k : List ℕ} {u : Turn} (name : List ℕ) → Silent d k u → Silent d k (ends_lock name u)
unfolding ends_lock with_state removes
ends_lock_silent _ s = notes_silent _ refl (with_node_silent _ s)

ends_commit_silent : {d : ℕ} {k : List ℕ} (db : ℕ) (name : List ℕ) (u : Turn) (x : Option Committing) → Silent d k u → Silent d k (ends_commit db name u x)
unfolding ends_commit
ends_commit_silent db name u None s = s
ends_commit_silent db name u (Some x) s = ends_lock_silent _ (with_commit_silent _ _ (answers_silent _ _ s))

ends_commits_silent : {d : ℕ} {k : List ℕ} (c : Config) (i : ℕ) (dbs : List Database) (u : Turn) → Silent d k u → Silent d k (ends_commits c i dbs u)
unfolding ends_commits
ends_commits_silent c i [] u s = s
ends_commits_silent c i (d ∷ ds) u s = ends_commits_silent c (i + 1) ds _ (ends_commit_silent _ _ _ _ s)

freezes_silent : {d : ℕ} {k : List ℕ} {u : Turn} (g h : ℕ) → Silent d k u → Silent d k (freezes g h u)
unfolding freezes
freezes_silent _ _ s = with_node_silent _ s

pub on_freeze_silent : {d : ℕ} {k : List ℕ} {u : Turn} (c : Config) (me h g : ℕ) → Silent d k u → Silent d k (on_freeze c me h g u)
unfolding on_freeze
on_freeze_silent {d} {k} {u} c me h g s =
    either (nat_lt u.node.promise g) (frozen_silent _ _ _ (ends_commits_silent c 0 u.node.dbs _ (freezes_silent _ _ s))) (either _ (posts_silent _ _ _ _ s) s)

all_frozen_silent : {d : ℕ} {k : List ℕ} (me g : ℕ) (members : List ℕ) (u : Turn) (ns : List ℕ) → Silent d k u → Silent d k (all_frozen me g members u ns)
unfolding all_frozen
all_frozen_silent me g members u [] s = posts_all_silent _ _ _ _ _ (with_lead_silent _ s)
all_frozen_silent me g members u (n ∷ ns) s = with_lead_silent _ s

pub on_freezeack_silent : {d : ℕ} {k : List ℕ} (me n g : ℕ) (u : Turn) (l : Lead) → Silent d k u → Silent d k (on_freezeack me n g u l)
unfolding on_freezeack
on_freezeack_silent me n g u (Freezes h members missing) s = either _ (all_frozen_silent _ _ _ _ _ s) s
on_freezeack_silent me n g u _ s = s

pub on_pull_silent : {d : ℕ} {k : List ℕ} {u : Turn} (c : Config) (me h g : ℕ) → Silent d k u → Silent d k (on_pull c me h g u)
unfolding on_pull
on_pull_silent _ _ _ _ s = either _ (posts_silent _ _ _ _ s) s

pushes_silent : {d : ℕ} {k : List ℕ} {u : Turn} (me g : ℕ) (members : List ℕ) (b : PushBody) → Silent d k u → Silent d k (pushes me g members b u)
unfolding pushes push_of removes
pushes_silent _ _ _ _ s = posts_all_silent _ _ _ _ _ (notes_silent _ refl (with_lead_silent _ s))

all_pulled_silent : {d : ℕ} {k : List ℕ} (me g : ℕ) (members : List ℕ) (x : Gathered) (u : Turn) (ns : List ℕ) → Silent d k u → Silent d k (all_pulled me g members x u ns)
unfolding all_pulled
all_pulled_silent me g members x u [] s = pushes_silent _ _ _ _ s
all_pulled_silent me g members x u (n ∷ ns) s = with_lead_silent _ s

pub on_pullreply_silent : {d : ℕ} {k : List ℕ} (me g : ℕ) (p : Pull) (u : Turn) (l : Lead) → Silent d k u → Silent d k (on_pullreply me g p u l)
unfolding on_pullreply
on_pullreply_silent me g p u (Pulls h members missing x) s = either _ (all_pulled_silent _ _ _ _ _ _ s) s
on_pullreply_silent me g p u _ s = s

releases_silent : {d : ℕ} {k : List ℕ} (xs : List Address) (u : Turn) → Silent d k u → Silent d k (releases xs u)
unfolding releases removes
releases_silent [] u s = s
releases_silent (a ∷ rest) u s = releases_silent rest _ (notes_silent _ refl s)

makes_rows_silent : {d : ℕ} {k : List ℕ} (me : ℕ) (members : List ℕ) (rows : List TableRow) (u : Turn) → Silent d k u → Silent d k (makes_rows me members rows u)
unfolding makes_rows
makes_rows_silent me members [] u s = s
makes_rows_silent me members (row ∷ rows) u s = makes_rows_silent me members rows _ (either _ (makes_silent _ s) s)

installs_silent : {d : ℕ} {k : List ℕ} {u : Turn} (c : Config) (me h g : ℕ) (members : List ℕ) (table : List TableRow) (ptables : List PTable) (assigned : List Assigned) → Silent d k u → Silent d k (installs c me h g members table ptables assigned u)
unfolding installs removes
installs_silent {d} {k} {u} c me h g members table ptables assigned s = releases_silent _ _ (notes_silent _ refl (with_node_silent _ (makes_rows_silent me members table u s)))

pub on_push_silent : {d : ℕ} {k : List ℕ} {u : Turn} (c : Config) (me h g : ℕ) (members : List ℕ) (table : List TableRow) (ptables : List PTable) (assigned : List Assigned) → Silent d k u → Silent d k (on_push c me h g members table ptables assigned u)
unfolding on_push
on_push_silent {d} {k} {u} c me h g members table ptables assigned s =
    either (is_frozen_in g u.node.phase) (posts_silent g me h msg.PushAck (installs_silent c me h g members table ptables assigned s)) (either (is_present_in g u.node) (posts_silent g me h msg.PushAck s) s)

all_installed_silent : {d : ℕ} {k : List ℕ} (c : Config) (me g : ℕ) (members : List ℕ) (b : PushBody) (u : Turn) (ns : List ℕ) → Silent d k u → Silent d k (all_installed c me g members b u ns)
unfolding all_installed
all_installed_silent c me g members b u [] s = posts_all_silent _ _ _ _ _ (with_lead_silent _ s)
all_installed_silent c me g members b u (n ∷ ns) s = with_lead_silent _ s

pub on_pushack_silent : {d : ℕ} {k : List ℕ} (c : Config) (me n g : ℕ) (u : Turn) (l : Lead) → Silent d k u → Silent d k (on_pushack c me n g u l)
unfolding on_pushack
on_pushack_silent c me n g u (Installs h members missing b) s = either _ (all_installed_silent _ _ _ _ _ _ _ s) s
on_pushack_silent c me n g u _ s = s

-- ---- takeover runs

send_releases_silent : {d : ℕ} {k : List ℕ} (me g number : ℕ) (placement : List Assigned) (ns : List ℕ) (u : Turn) → Silent d k u → Silent d k (send_releases me g number placement ns u)
unfolding send_releases
send_releases_silent me g number placement [] u s = s
send_releases_silent me g number placement (n ∷ ns) u s = send_releases_silent me g number placement ns _ (posts_silent _ _ _ _ s)

pub begin_takeover_silent : {d : ℕ} {k : List ℕ} (me : ℕ) (able : List ℕ) (u : Turn) (l : Lead) → Silent d k u → Silent d k (begin_takeover me able u l)
unfolding begin_takeover runs
begin_takeover_silent me able u (Completed g members x) s = either _ (send_releases_silent _ _ _ _ _ _ (makes_silent _ (with_lead_silent _ s))) s
begin_takeover_silent me able u _ s = s

pub on_release_silent : {d : ℕ} {k : List ℕ} {u : Turn} (me h number : ℕ) (keep : List Address) → Silent d k u → Silent d k (on_release me h number keep u)
unfolding on_release
on_release_silent _ _ _ _ s = either _ s (posts_silent _ _ _ _ (releases_silent _ _ (with_node_silent _ s)))

all_released_silent : {d : ℕ} {k : List ℕ} (me g : ℕ) (members : List ℕ) (x : Takeover) (placement : List Assigned) (u : Turn) (ns : List ℕ) → Silent d k u → Silent d k (all_released me g members x placement u ns)
unfolding all_released
all_released_silent me g members x placement u [] s = posts_all_silent _ _ _ _ _ (with_lead_silent _ s)
all_released_silent me g members x placement u (n ∷ ns) s = with_lead_silent _ s

released_by_silent : {d : ℕ} {k : List ℕ} (me n g : ℕ) (members : List ℕ) (x : Takeover) (u : Turn) (r : Run) → Silent d k u → Silent d k (released_by me n g members x u r)
unfolding released_by
released_by_silent me n g members x u (Releasing placement missing) s = either _ (all_released_silent _ _ _ _ _ _ _ s) s
released_by_silent me n g members x u _ s = s

pub on_releaseack_silent : {d : ℕ} {k : List ℕ} (me n g number : ℕ) (u : Turn) (l : Lead) → Silent d k u → Silent d k (on_releaseack me n g number u l)
unfolding on_releaseack
on_releaseack_silent me n g number u (Completed h members x) s = either _ (released_by_silent _ _ _ _ _ _ _ s) s
on_releaseack_silent me n g number u _ s = s

takes_silent : {d : ℕ} {k : List ℕ} (xs : List Address) (u : Turn) → Silent d k u → Silent d k (takes xs u)
unfolding takes removes
takes_silent [] u s = s
takes_silent (a ∷ rest) u s = takes_silent rest _ (notes_silent _ refl (with_node_silent _ s))

pub on_take_silent : {d : ℕ} {k : List ℕ} {u : Turn} (c : Config) (me number : ℕ) (assigned : List Assigned) → Silent d k u → Silent d k (on_take c me number assigned u)
unfolding on_take
on_take_silent _ _ _ _ s = either _ (takes_silent _ _ (with_node_silent _ s)) s

-- ---- sending again

update_again_silent : {d : ℕ} {k : List ℕ} (me db : ℕ) (u : Turn) (x : Option Committing) → Silent d k u → Silent d k (update_again me db u x)
unfolding update_again
update_again_silent me db u None s = s
update_again_silent me db u (Some x) s = posts_all_silent _ _ _ _ _ s

pub update_in_silent : {d : ℕ} {k : List ℕ} (me i : ℕ) (dbs : List Database) (u : Turn) → Silent d k u → Silent d k (update_in me i dbs u)
unfolding update_in
update_in_silent me i [] u s = s
update_in_silent me i (d ∷ ds) u s = update_in_silent me (i + 1) ds _ (update_again_silent _ _ _ _ s)

retry_run_silent : {d : ℕ} {k : List ℕ} (me g : ℕ) (members : List ℕ) (x : Takeover) (u : Turn) (r : Run) → Silent d k u → Silent d k (retry_run me g members x u r)
unfolding retry_run
retry_run_silent me g members x u NoRun s = s
retry_run_silent me g members x u (Releasing placement missing) s = send_releases_silent _ _ _ _ _ _ s
retry_run_silent me g members x u (Taking placement) s = posts_all_silent _ _ _ _ _ s

pub retry_lead_silent : {d : ℕ} {k : List ℕ} (me : ℕ) (u : Turn) (l : Lead) → Silent d k u → Silent d k (retry_lead me u l)
unfolding retry_lead push_of
retry_lead_silent me u Nothing s = s
retry_lead_silent me u (Freezes g members missing) s = posts_all_silent _ _ _ _ _ s
retry_lead_silent me u (Pulls g members missing x) s = posts_all_silent _ _ _ _ _ s
retry_lead_silent me u (Installs g members missing b) s = posts_all_silent _ _ _ _ _ s
retry_lead_silent me u (Completed g members x) s = either _ (retry_run_silent _ _ _ _ _ _ (posts_all_silent _ _ _ _ _ s)) (posts_all_silent _ _ _ _ _ s)

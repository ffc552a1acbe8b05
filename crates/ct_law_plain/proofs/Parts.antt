-- What is steady of what a node does beside its records: commits, rounds and takeover runs.
use Rattle.std.proofs.Common.{◌≡◌, ℕ, ◌+◌, Bool, true, false, cond, List, [], ◌∷◌, ◌++◌, append_assoc, Option, Some, None, refl, sym, ap, ◌∙◌, subst, inl, inr}
use Rattle.std.specs.Prelude.{◌⊎◌, not, nat_eq, nat_lt, ◌&&◌, ◌||◌}
use Rattle.std.specs.List.{AllByRecursion, filter}
use Rattle.ct_values.specs.Words.{others}
use Rattle.ct_values.specs.declared.address.Address.{Address}
use Rattle.ct_values.specs.declared.client.Answer.TheVariants as answer
use Rattle.ct_values.specs.declared.client.Pair.{Pair}
use Rattle.ct_values.specs.declared.config.Config.{Config}
use Rattle.ct_frame.specs.declared.event.Note.TheVariants as note
use Rattle.ct_frame.specs.declared.event.Out.{Out}
use Rattle.ct_frame.specs.declared.event.Out.TheVariants as out
use Rattle.ct_frame.specs.declared.frame.Assigned.{Assigned}
use Rattle.ct_frame.specs.declared.frame.Msg.{Msg}
use Rattle.ct_frame.specs.declared.frame.Msg.TheVariants as msg
use Rattle.ct_frame.specs.declared.frame.PTable.{PTable}
use Rattle.ct_frame.specs.declared.frame.TableRow.{TableRow}
use Rattle.ct_frame.specs.declared.round.Pull.{Pull}
use Rattle.ct_frame.specs.declared.round.PushBody.{PushBody}
use Rattle.ct_merge.specs.Gathered.{Gathered, gathered, finished}
use Rattle.ct_rules_node.specs.Node.{Node, Database, Committing, Lead, Nothing, Freezes, Pulls, Installs, Completed, Takeover, Run, NoRun, Releasing, Taking, is_present, is_present_in, is_frozen_in, master_of, db_at, with_db}
use Rattle.ct_rules_node.specs.Turn.{Turn, does, with_node, with_lead, makes, notes, posts, posts_all}
use Rattle.ct_rules_node.specs.Databases.{updates, with_commit, awaits_others, commits_at, commit, acknowledges, on_pupdate, on_pack_of, on_pack}
use Rattle.ct_rules_node.specs.Rounds.{begin_round, all_frozen, on_freezeack, on_pull, body_of, push_of, pushes, all_pulled, on_pullreply, releases, installed_node, row_master, makes_rows, installs, on_push, all_installed, on_pushack}
use Rattle.ct_rules_node.specs.Takeovers.{send_releases, runs, begin_takeover, has_address, on_release, all_released, released_by, on_releaseack, takes, on_take}
use Rattle.ct_rules_node.specs.Retries.{update_again, update_in, retry_run, retry_lead}
use Rattle.ct_law_plain.proofs.Steady.{IsOwn, Steady, steady_same, steady_after, either_steady, makes_steady, leads_steady, node_steady, answers_steady, notes_steady, posts_steady, posts_all_steady}

-- ---- commits

updates_steady : (me db seq : ℕ) (writes : List Pair) (t : Turn) → Steady me t (updates db seq writes t)
unfolding updates with_db
updates_steady me db seq writes t = node_steady me _ t refl refl

with_commit_steady : (me db : ℕ) (x : Option Committing) (t : Turn) → Steady me t (with_commit db x t)
unfolding with_commit with_db
with_commit_steady me db x t = node_steady me _ t refl refl

awaits_steady : (me call db seq : ℕ) (writes : List Pair) (ns : List ℕ) (t : Turn) → Steady me t (awaits_others me call db seq writes ns t)
unfolding awaits_others
awaits_steady me call db seq writes [] t = answers_steady me call (answer.Committed seq) t
awaits_steady me call db seq writes (n ∷ ns) t = steady_after (with_commit_steady me db _ t) (posts_all_steady me t.node.generation (n ∷ ns) (msg.PUpdate db seq writes) _)

pub commit_steady : (me call db : ℕ) (writes : List Pair) (t : Turn) → Steady me t (commit me call db writes t)
unfolding commit commits_at
commit_steady me call db writes t =
    let seq = (db_at db t.node).store.seq + 1 in
    steady_after (makes_steady me seq t) (steady_after (updates_steady me db seq writes (makes seq t)) (awaits_steady me call db seq writes _ (updates db seq writes (makes seq t))))

pub on_pupdate_steady : (me sender db seq : ℕ) (writes : List Pair) (t : Turn) → Steady me t (on_pupdate me sender db seq writes t)
unfolding on_pupdate acknowledges
on_pupdate_steady me sender db seq writes t = steady_after (updates_steady me db seq writes t) (either_steady _ (posts_steady me _ sender (msg.PAck db seq) (updates db seq writes t)) steady_same)

on_pack_of_steady : (me n db seq : ℕ) (t : Turn) (x : Option Committing) → Steady me t (on_pack_of n db seq t x)
unfolding on_pack_of
on_pack_of_steady me n db seq t None = steady_same
on_pack_of_steady me n db seq t (Some x) = either_steady _ (steady_after (with_commit_steady me db None t) (answers_steady me x.call (answer.Committed seq) (with_commit db None t))) (with_commit_steady me db _ t)

pub on_pack_steady : (me n db seq : ℕ) (t : Turn) → Steady me t (on_pack n db seq t)
unfolding on_pack
on_pack_steady me n db seq t = on_pack_of_steady me n db seq t (db_at db t.node).commit

-- ---- rounds, but a freeze

pub begin_round_steady : (me g : ℕ) (members : List ℕ) (t : Turn) → Steady me t (begin_round me g members t)
unfolding begin_round
begin_round_steady me g members t = either_steady _ (steady_after (makes_steady me g t) (steady_after (leads_steady me _ (makes g t)) (posts_all_steady me g members (msg.Freeze members) _))) steady_same

all_frozen_steady : (me g : ℕ) (members : List ℕ) (t : Turn) (ms : List ℕ) → Steady me t (all_frozen me g members t ms)
unfolding all_frozen
all_frozen_steady me g members t [] = steady_after (leads_steady me _ t) (posts_all_steady me g members msg.Pull _)
all_frozen_steady me g members t (m ∷ ms) = leads_steady me _ t

pub on_freezeack_steady : (me n g : ℕ) (t : Turn) (l : Lead) → Steady me t (on_freezeack me n g t l)
unfolding on_freezeack
on_freezeack_steady me n g t (Freezes h members missing) = either_steady _ (all_frozen_steady me g members t _) steady_same
on_freezeack_steady me n g t _ = steady_same

pub on_pull_steady : (c : Config) (me h g : ℕ) (t : Turn) → Steady me t (on_pull c me h g t)
unfolding on_pull
on_pull_steady c me h g t = either_steady _ (posts_steady me g h _ t) steady_same

-- the last reply: the round is noted, and pushed
abbrev pub Pushes : ℕ → Turn → Turn → Type 0
Pushes me t u = (g : ℕ) × (members : List ℕ) × (b : PushBody) × (u ≡ pushes me g members b t)

all_pulled_either : (me g : ℕ) (members : List ℕ) (x : Gathered) (t : Turn) (ms : List ℕ) → Steady me t (all_pulled me g members x t ms) ⊎ Pushes me t (all_pulled me g members x t ms)
unfolding all_pulled
all_pulled_either me g members x t [] = inr (g, members, body_of me members (finished x), refl)
all_pulled_either me g members x t (m ∷ ms) = inl (leads_steady me _ t)

pub either_push : (me : ℕ) (t u : Turn) (b : Bool) → Steady me t u ⊎ Pushes me t u → Steady me t (cond b u t) ⊎ Pushes me t (cond b u t)
either_push me t u true h = h
either_push me t u false h = inl steady_same

pub on_pullreply_either : (me g : ℕ) (pull : Pull) (t : Turn) (l : Lead) → Steady me t (on_pullreply me g pull t l) ⊎ Pushes me t (on_pullreply me g pull t l)
unfolding on_pullreply
on_pullreply_either me g pull t (Pulls h members missing x) = either_push me t _ _ (all_pulled_either me g members (gathered pull x) t (others pull.node missing))
on_pullreply_either me g pull t _ = inl steady_same

-- what comes of it
pub record Pushed (me : ℕ) (t u : Turn) : Type 0 where
  pub promise : u.node.promise ≡ t.node.promise
  pub phase : u.node.phase ≡ t.node.phase
  pub outs : (g : ℕ) × (members : List ℕ) × (p : ℕ) × (q : ℕ) × (more : List Out) × (u.outs ≡ t.outs ++ out.Note (note.Round g members p q) ∷ more) × AllByRecursion (IsOwn me) more

posts_node : (me g : ℕ) (m : Msg) (ns : List ℕ) (t : Turn) → (posts_all g me ns m t).node ≡ t.node
unfolding posts_all posts does
posts_node me g m [] t = refl
posts_node me g m (n ∷ ns) t = posts_node me g m ns (posts g me n m t)

-- the middle, in which the round is noted
noted_turn : (me g : ℕ) (members : List ℕ) (b : PushBody) (t : Turn) → Turn
noted_turn me g members b t = notes (note.Round g members b.vparent b.pparent) (with_lead (Installs g members members b) t)

noted_is : (me g : ℕ) (members : List ℕ) (b : PushBody) (t : Turn) → ((noted_turn me g members b t).node.promise ≡ t.node.promise) × ((noted_turn me g members b t).node.phase ≡ t.node.phase) × ((noted_turn me g members b t).outs ≡ t.outs ++ out.Note (note.Round g members b.vparent b.pparent) ∷ [])
unfolding noted_turn notes does with_lead
noted_is me g members b t = (refl, refl, refl)

pub pushes_are : (me g : ℕ) (members : List ℕ) (b : PushBody) (t : Turn) → Pushed me t (pushes me g members b t)
unfolding pushes noted_turn
pushes_are me g members b t =
    let mid : Turn = noted_turn me g members b t in
    let s = posts_all_steady me g members (push_of b) mid in
    let k = noted_is me g members b t in
    let node = posts_node me g (push_of b) members mid in
    record {
      promise = s.promise ∙ k.0;
      phase = ap (λ (x : Node). x.phase) node ∙ k.1;
      outs = (
        g,
        members,
        b.vparent,
        b.pparent,
        s.outs.0,
        s.outs.1 ∙ ap (λ (l : List Out). l ++ s.outs.0) k.2 ∙ append_assoc t.outs (out.Note (note.Round g members b.vparent b.pparent) ∷ []) s.outs.0,
        s.outs.2,
      );
    }

releases_steady : (me : ℕ) (xs : List Address) (t : Turn) → Steady me t (releases xs t)
unfolding releases IsOwn
releases_steady me [] t = steady_same
releases_steady me (x ∷ xs) t = steady_after (notes_steady me (note.Released x) t tt) (releases_steady me xs (notes (note.Released x) t))

makes_rows_steady : (me : ℕ) (members : List ℕ) (table : List TableRow) (t : Turn) → Steady me t (makes_rows me members table t)
unfolding makes_rows
makes_rows_steady me members [] t = steady_same
makes_rows_steady me members (row ∷ rows) t = steady_after (either_steady (nat_eq me (row_master row) || nat_eq me (master_of members row.key)) (makes_steady me (row.rsn + 1) t) steady_same) (makes_rows_steady me members rows _)

-- an installation: the node is present after it
installed_steady : (c : Config) (me h g : ℕ) (members : List ℕ) (table : List TableRow) (ptables : List PTable) (assigned : List Assigned) (t u : Turn) → u.node.promise ≡ t.node.promise → Steady me u (with_node (installed_node c me h g members table ptables assigned t.node) u)
unfolding with_node installed_node is_present
installed_steady c me h g members table ptables assigned t u same = (let s : Steady me u u = steady_same in record { promise = sym same; present = λ _. refl; outs = s.outs })

pub installs_steady : (c : Config) (me h g : ℕ) (members : List ℕ) (table : List TableRow) (ptables : List PTable) (assigned : List Assigned) (t : Turn) → Steady me t (installs c me h g members table ptables assigned t)
unfolding installs IsOwn
installs_steady c me h g members table ptables assigned t =
    let rows = makes_rows_steady me members table t in
    steady_after rows (steady_after (installed_steady c me h g members table ptables assigned t (makes_rows me members table t) rows.promise) (steady_after (notes_steady me (note.Installed g) _ tt) (releases_steady me _ _)))

pub on_push_steady : (c : Config) (me h g : ℕ) (members : List ℕ) (table : List TableRow) (ptables : List PTable) (assigned : List Assigned) (t : Turn) → Steady me t (on_push c me h g members table ptables assigned t)
unfolding on_push
on_push_steady c me h g members table ptables assigned t =
    either_steady (is_frozen_in g t.node.phase) (steady_after (installs_steady c me h g members table ptables assigned t) (posts_steady me g h msg.PushAck _)) (either_steady (is_present_in g t.node) (posts_steady me g h msg.PushAck t) steady_same)

all_installed_steady : (c : Config) (me g : ℕ) (members : List ℕ) (b : PushBody) (t : Turn) (ms : List ℕ) → Steady me t (all_installed c me g members b t ms)
unfolding all_installed
all_installed_steady c me g members b t [] = steady_after (leads_steady me _ t) (posts_all_steady me g members msg.Thaw _)
all_installed_steady c me g members b t (m ∷ ms) = leads_steady me _ t

pub on_pushack_steady : (c : Config) (me n g : ℕ) (t : Turn) (l : Lead) → Steady me t (on_pushack c me n g t l)
unfolding on_pushack
on_pushack_steady c me n g t (Installs h members missing b) = either_steady _ (all_installed_steady c me g members b t _) steady_same
on_pushack_steady c me n g t _ = steady_same

-- ---- takeover runs

send_releases_steady : (me g number : ℕ) (placement : List Assigned) (ns : List ℕ) (t : Turn) → Steady me t (send_releases me g number placement ns t)
unfolding send_releases
send_releases_steady me g number placement [] t = steady_same
send_releases_steady me g number placement (n ∷ ns) t = steady_after (posts_steady me g n _ t) (send_releases_steady me g number placement ns _)

pub begin_takeover_steady : (me : ℕ) (able : List ℕ) (t : Turn) (l : Lead) → Steady me t (begin_takeover me able t l)
unfolding begin_takeover runs
begin_takeover_steady me able t (Completed g members x) = either_steady _ (steady_after (leads_steady me _ t) (steady_after (makes_steady me (x.number + 1) _) (send_releases_steady me g _ _ members _))) steady_same
begin_takeover_steady me able t _ = steady_same

pub on_release_steady : (me h number : ℕ) (keep : List Address) (t : Turn) → Steady me t (on_release me h number keep t)
unfolding on_release
on_release_steady me h number keep t = either_steady (nat_lt number t.node.last_run) steady_same
    (steady_after (node_steady me _ t refl refl) (steady_after (releases_steady me (filter (λ x. not (has_address keep x)) t.node.held) (with_node (record t.node { last_run = number; held = filter (has_address keep) t.node.held }) t)) (posts_steady me _ h (msg.ReleaseAck number) _)))

all_released_steady : (me g : ℕ) (members : List ℕ) (x : Takeover) (placement : List Assigned) (t : Turn) (ms : List ℕ) → Steady me t (all_released me g members x placement t ms)
unfolding all_released
all_released_steady me g members x placement t [] = steady_after (leads_steady me _ t) (posts_all_steady me g members _ _)
all_released_steady me g members x placement t (m ∷ ms) = leads_steady me _ t

released_by_steady : (me n g : ℕ) (members : List ℕ) (x : Takeover) (t : Turn) (run : Run) → Steady me t (released_by me n g members x t run)
unfolding released_by
released_by_steady me n g members x t (Releasing placement missing) = either_steady _ (all_released_steady me g members x placement t _) steady_same
released_by_steady me n g members x t _ = steady_same

pub on_releaseack_steady : (me n g number : ℕ) (t : Turn) (l : Lead) → Steady me t (on_releaseack me n g number t l)
unfolding on_releaseack
on_releaseack_steady me n g number t (Completed h members x) = either_steady _ (released_by_steady me n g members x t x.run) steady_same
on_releaseack_steady me n g number t _ = steady_same

takes_steady : (me : ℕ) (xs : List Address) (t : Turn) → Steady me t (takes xs t)
unfolding takes IsOwn
takes_steady me [] t = steady_same
takes_steady me (x ∷ xs) t = steady_after (node_steady me _ t refl refl) (steady_after (notes_steady me (note.Took x) _ tt) (takes_steady me xs _))

pub on_take_steady : (c : Config) (me number : ℕ) (assigned : List Assigned) (t : Turn) → Steady me t (on_take c me number assigned t)
unfolding on_take
on_take_steady c me number assigned t = either_steady (nat_eq number t.node.last_run) (steady_after (node_steady me _ t refl refl) (takes_steady me _ _)) steady_same

-- ---- Retry of commits, of the round and of the run

update_again_steady : (me db : ℕ) (t : Turn) (x : Option Committing) → Steady me t (update_again me db t x)
unfolding update_again
update_again_steady me db t None = steady_same
update_again_steady me db t (Some x) = posts_all_steady me _ _ _ t

pub update_in_steady : (me i : ℕ) (ds : List Database) (t : Turn) → Steady me t (update_in me i ds t)
unfolding update_in
update_in_steady me i [] t = steady_same
update_in_steady me i (d ∷ ds) t = steady_after (update_again_steady me i t d.commit) (update_in_steady me (i + 1) ds _)

retry_run_steady : (me g : ℕ) (members : List ℕ) (x : Takeover) (t : Turn) (run : Run) → Steady me t (retry_run me g members x t run)
unfolding retry_run
retry_run_steady me g members x t NoRun = steady_same
retry_run_steady me g members x t (Releasing placement missing) = send_releases_steady me g x.number placement missing t
retry_run_steady me g members x t (Taking placement) = posts_all_steady me g members _ t

pub retry_lead_steady : (me : ℕ) (t : Turn) (l : Lead) → Steady me t (retry_lead me t l)
unfolding retry_lead
retry_lead_steady me t Nothing = steady_same
retry_lead_steady me t (Freezes g members missing) = posts_all_steady me g missing _ t
retry_lead_steady me t (Pulls g members missing x) = posts_all_steady me g missing _ t
retry_lead_steady me t (Installs g members missing b) = posts_all_steady me g missing _ t
retry_lead_steady me t (Completed g members x) = steady_after (posts_all_steady me g members msg.Thaw t) (either_steady (is_present_in g t.node) (retry_run_steady me g members x _ x.run) steady_same)

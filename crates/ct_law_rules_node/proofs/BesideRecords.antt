-- What a step adds to where no record is looked at: it only grows, and no message of a record is sent.
use Rattle.std.proofs.Common.{◌≡◌, ℕ, suc, ◌+◌, ◌<◌, ◌≤◌, Bool, true, false, cond, ◌||◌, List, [], ◌∷◌, ◌++◌, length, map, Option, Some, None, refl, sym, ap, ◌∙◌, subst, append_assoc, append-nil, arith}
use Rattle.std.proofs.lemmas.List.{length-set, length-map}
use Rattle.std.proofs.lemmas.Bool.{cond_both, ltb-true, or_left}
use Rattle.std.specs.Prelude.{nat_lt}
use Rattle.std.specs.List.{filter}
use Rattle.ct_values.specs.declared.address.Address.{Address}
use Rattle.ct_values.specs.declared.client.Answer.{Answer}
use Rattle.ct_values.specs.declared.client.Pair.{Pair}
use Rattle.ct_values.specs.declared.config.Config.{Config}
use Rattle.ct_frame.specs.declared.event.Note.{Note}
use Rattle.ct_frame.specs.declared.event.Out.{Out}
use Rattle.ct_frame.specs.declared.frame.Assigned.{Assigned}
use Rattle.ct_frame.specs.declared.frame.Msg.{Msg}
use Rattle.ct_frame.specs.declared.frame.Msg.TheVariants as msg
use Rattle.ct_frame.specs.declared.frame.PTable.{PTable}
use Rattle.ct_frame.specs.declared.frame.TableRow.{TableRow}
use Rattle.ct_frame.specs.declared.round.Pull.{Pull}
use Rattle.ct_frame.specs.declared.round.PushBody.{PushBody}
use Rattle.ct_merge.specs.Gathered.{Gathered}
use Rattle.ct_store.specs.Map.{Ascends}
use Rattle.ct_law_rules.specs.Form.{is_of_record}
use Rattle.ct_law_rules.specs.Laws.{IsFront}
use Rattle.ct_law_rules.proofs.Growing.{front_same, front_more}
use Rattle.ct_rules_node.specs.Node.{Node, Database, Phase, Committing, Lead, Nothing, Freezes, Pulls, Installs, Completed, Takeover, Run, NoRun, Releasing, Taking, with_db, db_at, is_frozen_in, is_present_in}
use Rattle.ct_rules_node.specs.Turn.{Turn, does, with_node, with_lead, with_phase, makes, answers, notes, posts, posts_all}
use Rattle.ct_rules_node.specs.Records.{with_state}
use Rattle.ct_rules_node.specs.Clients.{frozen_if_unlocked}
use Rattle.ct_rules_node.specs.Databases.{updates, with_commit, awaits_others, commits_at, commit, acknowledges, on_pupdate, on_pack_of, on_pack, read_pair}
use Rattle.ct_rules_node.specs.Rounds.{begin_round, ends_lock, ends_commit, ends_commits, freezes, on_freeze, all_frozen, on_freezeack, on_pull, push_of, pushes, all_pulled, on_pullreply, releases, frozen_state, frozen_db, changed, bared, installed_db, installed_dbs, installed_node, makes_rows, installs, on_push, all_installed, on_pushack}
use Rattle.ct_rules_node.specs.Takeovers.{send_releases, runs, begin_takeover, on_release, all_released, released_by, on_releaseack, takes, on_take}
use Rattle.ct_rules_node.specs.Retries.{update_again, update_in, retry_run, retry_lead}
use Rattle.ct_law_rules_node.specs.NodeLaws.{AllAscend, NodeAscends, TurnGrows, sends_of_record, record_sends}
use Rattle.ct_law_rules_node.proofs.Keys.{changed_ascends, kept_ascends}
use Rattle.ct_law_rules_node.proofs.Installed.{install_ascends}
use Rattle.ct_law_rules_node.proofs.AtRecord.{all_set, at_ascends}

-- what is sent of records by more outputs
pub sends_more : (xs ys : List Out) → record_sends (xs ++ ys) ≡ record_sends xs ++ record_sends ys
unfolding record_sends
sends_more [] ys = refl
sends_more (x ∷ xs) ys =
    elim (sends_of_record x) as (λ b. cond b (x ∷ filter sends_of_record (xs ++ ys)) (filter sends_of_record (xs ++ ys)) ≡ cond b (x ∷ filter sends_of_record xs) (filter sends_of_record xs) ++ filter sends_of_record ys) [
      | true ↦ ap (λ l. x ∷ l) (sends_more xs ys)
      | false ↦ sends_more xs ys
    ]

sends_one : (xs : List Out) (x : Out) → sends_of_record x ≡ false → record_sends (xs ++ x ∷ []) ≡ record_sends xs
unfolding record_sends
sends_one xs x e = sends_more xs (x ∷ []) ∙ ap (λ (b : Bool). filter sends_of_record xs ++ cond b (x ∷ []) []) e ∙ append-nil (filter sends_of_record xs)

-- a part that looks at no record
pub record Steady (t u : Turn) : Type 0 where
  pub promise : t.node.promise ≤ u.node.promise
  pub next : t.node.next ≤ u.node.next
  pub spent : t.spent ≡ true → u.spent ≡ true
  pub outs : IsFront t.outs u.outs
  pub quiet : record_sends u.outs ≡ record_sends t.outs
  pub dbs : length u.node.dbs ≡ length t.node.dbs
  pub order : NodeAscends t.node → NodeAscends u.node

pub same : {t : Turn} → Steady t t
same {t} = record { promise = omega arith; next = omega arith; spent = λ e. e; outs = front_same t.outs; quiet = refl; dbs = refl; order = λ h. h }

pub either : {t u v : Turn} (b : Bool) → Steady t u → Steady t v → Steady t (cond b u v)
either {t} {u} {v} true f g = f
either {t} {u} {v} false f g = g

pub steady_grows : (t u : Turn) → Steady t u → TurnGrows t u
steady_grows t u s = record { promise = s.promise; next = s.next; spent = s.spent; outs = s.outs }

-- ---- the parts of every step

does_steady : {t u : Turn} (x : Out) → sends_of_record x ≡ false → Steady t u → Steady t (does x u)
unfolding does
does_steady {t} {u} x e s = record { promise = s.promise; next = s.next; spent = s.spent; outs = front_more t.outs u.outs (x ∷ []) s.outs; quiet = sends_one u.outs x e ∙ s.quiet; dbs = s.dbs; order = s.order }

pub with_node_steady : {t u : Turn} (n : Node) → u.node.promise ≤ n.promise → u.node.next ≤ n.next → length n.dbs ≡ length u.node.dbs → (NodeAscends u.node → NodeAscends n) → Steady t u → Steady t (with_node n u)
unfolding with_node
with_node_steady _ p q l o s = record { promise = omega arith; next = omega arith; spent = s.spent; outs = s.outs; quiet = s.quiet; dbs = l ∙ s.dbs; order = λ h. o (s.order h) }

-- with another state of a database, whose records are in order
with_db_steady : {t u : Turn} (db : ℕ) (d : Database) → (Ascends (db_at db u.node).records → Ascends d.records) → Steady t u → Steady t (with_node (with_db db d u.node) u)
unfolding with_db db_at AllAscend
with_db_steady {t} {u} db d o s =
    with_node_steady _ (omega arith) (omega arith) (length-set u.node.dbs db d) (λ h. all_set (λ d. Ascends d.records) u.node.dbs db d (o (at_ascends u.node.dbs db h)) h) s

pub with_lead_steady : {t u : Turn} (l : Lead) → Steady t u → Steady t (with_lead l u)
unfolding with_lead
with_lead_steady _ s = record { promise = s.promise; next = s.next; spent = s.spent; outs = s.outs; quiet = s.quiet; dbs = s.dbs; order = s.order }

pub with_phase_steady : {t u : Turn} (p : Phase) → Steady t u → Steady t (with_phase p u)
unfolding with_phase
with_phase_steady _ s = record { promise = s.promise; next = s.next; spent = s.spent; outs = s.outs; quiet = s.quiet; dbs = s.dbs; order = s.order }

pub makes_steady : {t u : Turn} (n : ℕ) → Steady t u → Steady t (makes n u)
unfolding makes
makes_steady {t} {u} n s = record { promise = s.promise; next = s.next; spent = λ e. or_left u.spent _ (s.spent e); outs = s.outs; quiet = s.quiet; dbs = s.dbs; order = s.order }

pub answers_steady : {t u : Turn} (call : ℕ) (a : Answer) → Steady t u → Steady t (answers call a u)
unfolding answers sends_of_record
answers_steady _ _ s = does_steady _ refl s

pub notes_steady : {t u : Turn} (n : Note) → Steady t u → Steady t (notes n u)
unfolding notes sends_of_record
notes_steady _ s = does_steady _ refl s

pub posts_steady : {t u : Turn} (g me n : ℕ) (m : Msg) → is_of_record m ≡ false → Steady t u → Steady t (posts g me n m u)
unfolding posts sends_of_record
posts_steady _ _ _ _ e s = does_steady _ e s

pub posts_all_steady : {t : Turn} (g me : ℕ) (ns : List ℕ) (m : Msg) (u : Turn) → is_of_record m ≡ false → Steady t u → Steady t (posts_all g me ns m u)
unfolding posts_all
posts_all_steady g me [] m u e s = s
posts_all_steady g me (n ∷ ns) m u e s = posts_all_steady g me ns m (posts g me n m u) e (posts_steady _ _ _ _ e s)

-- ---- persistent databases

updates_steady : {t u : Turn} (db seq : ℕ) (ws : List Pair) → Steady t u → Steady t (updates db seq ws u)
unfolding updates
updates_steady _ _ _ s = with_db_steady _ _ (λ h. h) s

with_commit_steady : {t u : Turn} (db : ℕ) (x : Option Committing) → Steady t u → Steady t (with_commit db x u)
unfolding with_commit
with_commit_steady _ _ s = with_db_steady _ _ (λ h. h) s

awaits_steady : {t : Turn} (me call db seq : ℕ) (ws : List Pair) (ns : List ℕ) (u : Turn) → Steady t u → Steady t (awaits_others me call db seq ws ns u)
unfolding awaits_others is_of_record
awaits_steady me call db seq ws [] u s = answers_steady _ _ s
awaits_steady me call db seq ws (n ∷ ns) u s = posts_all_steady _ _ _ _ _ refl (with_commit_steady _ _ s)

pub commit_steady : {t u : Turn} (me call db : ℕ) (ws : List Pair) → Steady t u → Steady t (commit me call db ws u)
unfolding commit commits_at
commit_steady _ _ _ _ s = awaits_steady _ _ _ _ _ _ _ (updates_steady _ _ _ (makes_steady _ s))

pub on_pupdate_steady : {t u : Turn} (me n db seq : ℕ) (ws : List Pair) → Steady t u → Steady t (on_pupdate me n db seq ws u)
unfolding on_pupdate acknowledges is_of_record
on_pupdate_steady _ _ _ _ _ s = either _ (posts_steady _ _ _ _ refl (updates_steady _ _ _ s)) (updates_steady _ _ _ s)

on_pack_of_steady : {t : Turn} (n db seq : ℕ) (u : Turn) (x : Option Committing) → Steady t u → Steady t (on_pack_of n db seq u x)
unfolding on_pack_of
on_pack_of_steady n db seq u None s = s
on_pack_of_steady n db seq u (Some x) s = either _ (answers_steady _ _ (with_commit_steady _ _ s)) (with_commit_steady _ _ s)

pub on_pack_steady : {t u : Turn} (n db seq : ℕ) → Steady t u → Steady t (on_pack n db seq u)
unfolding on_pack
on_pack_steady _ _ _ s = on_pack_of_steady _ _ _ _ _ s

pub read_pair_steady : {t u : Turn} (call db : ℕ) (key : List ℕ) → Steady t u → Steady t (read_pair call db key u)
unfolding read_pair
read_pair_steady _ _ _ s = answers_steady _ _ s

-- ---- rounds

pub begin_round_steady : {t u : Turn} (me g : ℕ) (members : List ℕ) → Steady t u → Steady t (begin_round me g members u)
unfolding begin_round is_of_record
begin_round_steady _ _ _ s = either _ (posts_all_steady _ _ _ _ _ refl (with_lead_steady _ (makes_steady _ s))) s

pub frozen_steady : {t u : Turn} (me g h : ℕ) → Steady t u → Steady t (frozen_if_unlocked me g h u)
unfolding frozen_if_unlocked is_of_record
frozen_steady _ _ _ s = either _ s (posts_steady _ _ _ _ refl (with_phase_steady _ s))

ends_lock_steady : {t u : Turn} (name : List ℕ) → Steady t u → Steady t (ends_lock name u)
unfolding ends_lock with_state
ends_lock_steady _ s = notes_steady _ (with_db_steady _ _ (λ h. kept_ascends _ _ _ h) s)

ends_commit_steady : {t : Turn} (db : ℕ) (name : List ℕ) (u : Turn) (x : Option Committing) → Steady t u → Steady t (ends_commit db name u x)
unfolding ends_commit
ends_commit_steady db name u None s = s
ends_commit_steady db name u (Some x) s = ends_lock_steady _ (with_commit_steady _ _ (answers_steady _ _ s))

ends_commits_steady : {t : Turn} (c : Config) (i : ℕ) (dbs : List Database) (u : Turn) → Steady t u → Steady t (ends_commits c i dbs u)
unfolding ends_commits
ends_commits_steady c i [] u s = s
ends_commits_steady c i (d ∷ ds) u s = ends_commits_steady c (i + 1) ds _ (ends_commit_steady _ _ _ _ s)

pub frozen_order : (dbs : List Database) → AllAscend dbs → AllAscend (map frozen_db dbs)
unfolding AllAscend frozen_db
frozen_order [] h = tt
frozen_order (d ∷ ds) h = (changed_ascends frozen_state d.records h.0, frozen_order ds h.1)

freezes_steady : {t u : Turn} (g h : ℕ) → u.node.promise < g → Steady t u → Steady t (freezes g h u)
unfolding freezes
freezes_steady {t} {u} _ _ l s = with_node_steady _ (omega arith) (omega arith) (length-map u.node.dbs frozen_db) (frozen_order u.node.dbs) s

pub on_freeze_steady : {t u : Turn} (c : Config) (me h g : ℕ) → Steady t u → Steady t (on_freeze c me h g u)
unfolding on_freeze is_of_record
on_freeze_steady {t} {u} c me h g s =
    cond_both (nat_lt u.node.promise g) _ _ (Steady t) (λ l. frozen_steady _ _ _ (ends_commits_steady c 0 u.node.dbs _ (freezes_steady _ _ (ltb-true _ _ l) s))) (λ _. either _ (posts_steady _ _ _ _ refl s) s)

all_frozen_steady : {t : Turn} (me g : ℕ) (members : List ℕ) (u : Turn) (ns : List ℕ) → Steady t u → Steady t (all_frozen me g members u ns)
unfolding all_frozen is_of_record
all_frozen_steady me g members u [] s = posts_all_steady _ _ _ _ _ refl (with_lead_steady _ s)
all_frozen_steady me g members u (n ∷ ns) s = with_lead_steady _ s

pub on_freezeack_steady : {t : Turn} (me n g : ℕ) (u : Turn) (l : Lead) → Steady t u → Steady t (on_freezeack me n g u l)
unfolding on_freezeack
on_freezeack_steady me n g u (Freezes h members missing) s = either _ (all_frozen_steady _ _ _ _ _ s) s
on_freezeack_steady me n g u _ s = s

pub on_pull_steady : {t u : Turn} (c : Config) (me h g : ℕ) → Steady t u → Steady t (on_pull c me h g u)
unfolding on_pull is_of_record
on_pull_steady _ _ _ _ s = either _ (posts_steady _ _ _ _ refl s) s

pushes_steady : {t u : Turn} (me g : ℕ) (members : List ℕ) (b : PushBody) → Steady t u → Steady t (pushes me g members b u)
unfolding pushes push_of is_of_record
pushes_steady _ _ _ _ s = posts_all_steady _ _ _ _ _ refl (notes_steady _ (with_lead_steady _ s))

all_pulled_steady : {t : Turn} (me g : ℕ) (members : List ℕ) (x : Gathered) (u : Turn) (ns : List ℕ) → Steady t u → Steady t (all_pulled me g members x u ns)
unfolding all_pulled
all_pulled_steady me g members x u [] s = pushes_steady _ _ _ _ s
all_pulled_steady me g members x u (n ∷ ns) s = with_lead_steady _ s

pub on_pullreply_steady : {t : Turn} (me g : ℕ) (p : Pull) (u : Turn) (l : Lead) → Steady t u → Steady t (on_pullreply me g p u l)
unfolding on_pullreply
on_pullreply_steady me g p u (Pulls h members missing x) s = either _ (all_pulled_steady _ _ _ _ _ _ s) s
on_pullreply_steady me g p u _ s = s

releases_steady : {t : Turn} (xs : List Address) (u : Turn) → Steady t u → Steady t (releases xs u)
unfolding releases
releases_steady [] u s = s
releases_steady (a ∷ rest) u s = releases_steady rest _ (notes_steady _ s)

makes_rows_steady : {t : Turn} (me : ℕ) (members : List ℕ) (rows : List TableRow) (u : Turn) → Steady t u → Steady t (makes_rows me members rows u)
unfolding makes_rows
makes_rows_steady me members [] u s = s
makes_rows_steady me members (row ∷ rows) u s = makes_rows_steady me members rows _ (either _ (makes_steady _ s) s)

made_node : (b : Bool) (n : ℕ) (u : Turn) → (cond b (makes n u) u).node ≡ u.node
unfolding makes
made_node true n u = refl
made_node false n u = refl

pub makes_rows_node : (me : ℕ) (members : List ℕ) (rows : List TableRow) (u : Turn) → (makes_rows me members rows u).node ≡ u.node
unfolding makes_rows
makes_rows_node me members [] u = refl
makes_rows_node me members (row ∷ rows) u = makes_rows_node me members rows _ ∙ made_node _ (row.rsn + 1) u

pub installed_length : (me i : ℕ) (members : List ℕ) (table : List TableRow) (ptables : List PTable) (dbs : List Database) → length (installed_dbs me i members table ptables dbs) ≡ length dbs
unfolding installed_dbs
installed_length me i members table ptables [] = refl
installed_length me i members table ptables (d ∷ ds) = ap suc (installed_length me (i + 1) members table ptables ds)

pub installed_order : (me i : ℕ) (members : List ℕ) (table : List TableRow) (ptables : List PTable) (dbs : List Database) → AllAscend dbs → AllAscend (installed_dbs me i members table ptables dbs)
unfolding installed_dbs installed_db AllAscend
installed_order me i members table ptables [] h = tt
installed_order me i members table ptables (d ∷ ds) h =
    (install_ascends me i members table (changed bared d.records) (changed_ascends bared d.records h.0), installed_order me (i + 1) members table ptables ds h.1)

installed_steady : {t : Turn} (n : Node) (v u : Turn) → v.node ≡ u.node → n.promise ≡ u.node.promise → n.next ≡ u.node.next → length n.dbs ≡ length u.node.dbs → (NodeAscends u.node → NodeAscends n) → Steady t v → Steady t (with_node n v)
installed_steady n v u e p q l o s =
    let a = ap (λ (x : Node). x.promise) e in
    let b = ap (λ (x : Node). x.next) e in
    with_node_steady _ (omega arith) (omega arith) (l ∙ ap (λ (x : Node). length x.dbs) (sym e)) (λ h. o (subst (λ (x : Node). NodeAscends x) e h)) s

installs_steady : {t u : Turn} (c : Config) (me h g : ℕ) (members : List ℕ) (table : List TableRow) (ptables : List PTable) (assigned : List Assigned) → Steady t u → Steady t (installs c me h g members table ptables assigned u)
unfolding installs installed_node
installs_steady {t} {u} c me h g members table ptables assigned s =
    releases_steady _ _
    (notes_steady _ (installed_steady _ (makes_rows me members table u) u (makes_rows_node me members table u) refl refl (installed_length me 0 members table ptables u.node.dbs) (installed_order me 0 members table ptables u.node.dbs) (makes_rows_steady me members table u s)))

pub on_push_steady : {t u : Turn} (c : Config) (me h g : ℕ) (members : List ℕ) (table : List TableRow) (ptables : List PTable) (assigned : List Assigned) → Steady t u → Steady t (on_push c me h g members table ptables assigned u)
unfolding on_push is_of_record
on_push_steady {t} {u} c me h g members table ptables assigned s =
    either (is_frozen_in g u.node.phase) (posts_steady g me h msg.PushAck refl (installs_steady c me h g members table ptables assigned s)) (either (is_present_in g u.node) (posts_steady g me h msg.PushAck refl s) s)

all_installed_steady : {t : Turn} (c : Config) (me g : ℕ) (members : List ℕ) (b : PushBody) (u : Turn) (ns : List ℕ) → Steady t u → Steady t (all_installed c me g members b u ns)
unfolding all_installed is_of_record
all_installed_steady c me g members b u [] s = posts_all_steady _ _ _ _ _ refl (with_lead_steady _ s)
all_installed_steady c me g members b u (n ∷ ns) s = with_lead_steady _ s

pub on_pushack_steady : {t : Turn} (c : Config) (me n g : ℕ) (u : Turn) (l : Lead) → Steady t u → Steady t (on_pushack c me n g u l)
unfolding on_pushack
on_pushack_steady c me n g u (Installs h members missing b) s = either _ (all_installed_steady _ _ _ _ _ _ _ s) s
on_pushack_steady c me n g u _ s = s

-- ---- takeover runs

send_releases_steady : {t : Turn} (me g number : ℕ) (placement : List Assigned) (ns : List ℕ) (u : Turn) → Steady t u → Steady t (send_releases me g number placement ns u)
unfolding send_releases is_of_record
send_releases_steady me g number placement [] u s = s
send_releases_steady me g number placement (n ∷ ns) u s = send_releases_steady me g number placement ns _ (posts_steady _ _ _ _ refl s)

pub begin_takeover_steady : {t : Turn} (me : ℕ) (able : List ℕ) (u : Turn) (l : Lead) → Steady t u → Steady t (begin_takeover me able u l)
unfolding begin_takeover runs
begin_takeover_steady me able u (Completed g members x) s = either _ (send_releases_steady _ _ _ _ _ _ (makes_steady _ (with_lead_steady _ s))) s
begin_takeover_steady me able u _ s = s

pub on_release_steady : {t u : Turn} (me h number : ℕ) (keep : List Address) → Steady t u → Steady t (on_release me h number keep u)
unfolding on_release is_of_record
on_release_steady _ _ _ _ s = either _ s (posts_steady _ _ _ _ refl (releases_steady _ _ (with_node_steady _ (omega arith) (omega arith) refl (λ h. h) s)))

all_released_steady : {t : Turn} (me g : ℕ) (members : List ℕ) (x : Takeover) (placement : List Assigned) (u : Turn) (ns : List ℕ) → Steady t u → Steady t (all_released me g members x placement u ns)
unfolding all_released is_of_record
all_released_steady me g members x placement u [] s = posts_all_steady _ _ _ _ _ refl (with_lead_steady _ s)
all_released_steady me g members x placement u (n ∷ ns) s = with_lead_steady _ s

released_by_steady : {t : Turn} (me n g : ℕ) (members : List ℕ) (x : Takeover) (u : Turn) (r : Run) → Steady t u → Steady t (released_by me n g members x u r)
unfolding released_by
released_by_steady me n g members x u (Releasing placement missing) s = either _ (all_released_steady _ _ _ _ _ _ _ s) s
released_by_steady me n g members x u _ s = s

pub on_releaseack_steady : {t : Turn} (me n g number : ℕ) (u : Turn) (l : Lead) → Steady t u → Steady t (on_releaseack me n g number u l)
unfolding on_releaseack
on_releaseack_steady me n g number u (Completed h members x) s = either _ (released_by_steady _ _ _ _ _ _ _ s) s
on_releaseack_steady me n g number u _ s = s

takes_steady : {t : Turn} (xs : List Address) (u : Turn) → Steady t u → Steady t (takes xs u)
unfolding takes
takes_steady [] u s = s
takes_steady (a ∷ rest) u s = takes_steady rest _ (notes_steady _ (with_node_steady _ (omega arith) (omega arith) refl (λ h. h) s))

pub on_take_steady : {t u : Turn} (c : Config) (me number : ℕ) (assigned : List Assigned) → Steady t u → Steady t (on_take c me number assigned u)
unfolding on_take
on_take_steady _ _ _ _ s = either _ (takes_steady _ _ (with_node_steady _ (omega arith) (omega arith) refl (λ h. h) s)) s

-- ---- sending again

update_again_steady : {t : Turn} (me db : ℕ) (u : Turn) (x : Option Committing) → Steady t u → Steady t (update_again me db u x)
unfolding update_again is_of_record
update_again_steady me db u None s = s
update_again_steady me db u (Some x) s = posts_all_steady _ _ _ _ _ refl s

pub update_in_steady : {t : Turn} (me i : ℕ) (dbs : List Database) (u : Turn) → Steady t u → Steady t (update_in me i dbs u)
unfolding update_in
update_in_steady me i [] u s = s
update_in_steady me i (d ∷ ds) u s = update_in_steady me (i + 1) ds _ (update_again_steady _ _ _ _ s)

retry_run_steady : {t : Turn} (me g : ℕ) (members : List ℕ) (x : Takeover) (u : Turn) (r : Run) → Steady t u → Steady t (retry_run me g members x u r)
unfolding retry_run is_of_record
retry_run_steady me g members x u NoRun s = s
retry_run_steady me g members x u (Releasing placement missing) s = send_releases_steady _ _ _ _ _ _ s
retry_run_steady me g members x u (Taking placement) s = posts_all_steady _ _ _ _ _ refl s

pub retry_lead_steady : {t : Turn} (me : ℕ) (u : Turn) (l : Lead) → Steady t u → Steady t (retry_lead me u l)
unfolding retry_lead push_of is_of_record
retry_lead_steady me u Nothing s = s
retry_lead_steady me u (Freezes g members missing) s = posts_all_steady _ _ _ _ _ refl s
retry_lead_steady me u (Pulls g members missing x) s = posts_all_steady _ _ _ _ _ refl s
retry_lead_steady me u (Installs g members missing b) s = posts_all_steady _ _ _ _ _ refl s
retry_lead_steady me u (Completed g members x) s = either _ (retry_run_steady _ _ _ _ _ _ (posts_all_steady _ _ _ _ _ refl s)) (posts_all_steady _ _ _ _ _ refl s)

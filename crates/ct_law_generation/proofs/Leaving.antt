-- A turn of a node leaves entries to location masters: what looks at no record.
use Rattle.std.proofs.Common.{◌≡◌, ◌≢◌, ℕ, zero, suc, ◌+◌, Bool, true, false, cond, List, [], ◌∷◌, length, set, Option, Some, None, refl, sym, ap, ◌∙◌, subst, ⊎_elim}
use Rattle.std.specs.Prelude.{nat_eq, nat_lt, bytes_eq, slice_get}
use Rattle.std.proofs.lemmas.Bool.{cond_both, cases_eq, eqb-true, ltb-true, ltb-false, cases_Bool}
use Rattle.std.proofs.lemmas.Slice.Eq.{bytes_eq-Decides}
use Rattle.ct_values.specs.declared.address.Address.{Address}
use Rattle.ct_values.specs.declared.client.Answer.{Answer}
use Rattle.ct_values.specs.declared.client.Pair.{Pair}
use Rattle.ct_values.specs.declared.config.Config.{Config}
use Rattle.ct_frame.specs.declared.event.Note.{Note}
use Rattle.ct_frame.specs.declared.frame.Assigned.{Assigned}
use Rattle.ct_frame.specs.declared.frame.Msg.{Msg}
use Rattle.ct_frame.specs.declared.frame.Msg.TheVariants as msg
use Rattle.ct_frame.specs.declared.frame.PTable.{PTable}
use Rattle.ct_frame.specs.declared.frame.TableRow.{TableRow}
use Rattle.ct_frame.specs.declared.round.Pull.{Pull}
use Rattle.ct_frame.specs.declared.round.PushBody.{PushBody}
use Rattle.ct_merge.specs.Gathered.{Gathered}
use Rattle.ct_rules.specs.declared.state.Entry.{Entry}
use Rattle.ct_rules.specs.declared.state.RecState.{RecState}
use Rattle.ct_store.specs.Map.{Pairs, Ascends, look, write}
use Rattle.ct_store.proofs.Maps.{written, not_written}
use Rattle.ct_rules_node.specs.Node.{Node, Database, Phase, Committing, Lead, Nothing, Freezes, Pulls, Installs, Completed, Takeover, Run, NoRun, Releasing, Taking, master_of, state_at, db_at, with_db, or_nothing, or_untouched, untouched, is_frozen_in, is_present_in}
use Rattle.ct_rules_node.specs.Turn.{Turn, does, with_node, with_lead, with_phase, makes, answers, notes, posts, posts_all}
use Rattle.ct_rules_node.specs.Records.{kept, with_state}
use Rattle.ct_rules_node.specs.Clients.{frozen_if_unlocked}
use Rattle.ct_rules_node.specs.Databases.{updates, with_commit, awaits_others, commits_at, commit, acknowledges, on_pupdate, on_pack_of, on_pack, read_pair}
use Rattle.ct_rules_node.specs.Rounds.{begin_round, frozen_state, changed, frozen_db, ends_lock, ends_commit, ends_commits, freezes, on_freeze, all_frozen, on_freezeack, on_pull, push_of, pushes, all_pulled, on_pullreply, entry_from, bared, installed_state, install_row, install_rows, installed_db, installed_dbs, installed_node, releases, makes_rows, installs, on_push, all_installed, on_pushack}
use Rattle.ct_rules_node.specs.Takeovers.{send_releases, runs, begin_takeover, on_release, all_released, released_by, on_releaseack, takes, on_take}
use Rattle.ct_rules_node.specs.Retries.{update_again, update_in, retry_run, retry_lead}
use Rattle.ct_law_rules_node.specs.NodeLaws.{changed_at, AllAscend, NodeAscends}
use Rattle.ct_law_rules_node.proofs.BesideRecords.{installed_order}
use Rattle.ct_law_rules_node.proofs.Keys.{changed_seen, changed_ascends, kept_seen, kept_others, kept_ascends}
use Rattle.ct_law_rules_node.proofs.Installed.{install_ascends}
use Rattle.ct_law_rules_node.proofs.Rounds.{freezes_each}
use Rattle.ct_law_rules_node.proofs.AtRecord.{at_set, at_other, set_past, all_set, at_ascends}
use Rattle.ct_law_generation.proofs.Removing.{kept_entry}

-- the node has no entry of a record whose location master it is not; its records are in order
pub record AtHome (n : ℕ) (t : Turn) : Type 0 where
  pub order : NodeAscends t.node
  pub entry : (db : ℕ) (key : List ℕ) → n ≢ master_of t.node.members key → (state_at db key t.node).entry ≡ None

-- ---- one key of a map

other_key : (k q : List ℕ) → bytes_eq k q ≡ false → k ≢ q
other_key k q unlike e = absurd (let a = (bytes_eq-Decides k q).1 e in cc)

kept_none : (k q : List ℕ) (s : RecState) (m : Pairs RecState) → Ascends m → (q ≡ k → s.entry ≡ None) → (or_nothing (look q m)).entry ≡ None → (or_nothing (look q (kept k s m))).entry ≡ None
kept_none k q s m order own h = ⊎_elim
    (λ (is : bytes_eq q k ≡ true). (let e = (bytes_eq-Decides q k).0 is in
    subst (λ (x : List ℕ). (or_nothing (look x (kept k s m))).entry ≡ None) (sym e) (ap (λ (o : Option RecState). (or_nothing o).entry) (kept_seen k s m order) ∙ kept_entry s (own e))))
    (λ (unlike : bytes_eq q k ≡ false). ap (λ (o : Option RecState). (or_nothing o).entry) (kept_others k s m q (other_key q k unlike)) ∙ h)
    (cases_Bool (bytes_eq q k))

changed_none : (f : RecState → RecState) (o : Option RecState) → ((s : RecState) → (f s).entry ≡ None) → (or_nothing (changed_at f o)).entry ≡ None
unfolding changed_at or_nothing
changed_none f None h = refl
changed_none f (Some s) h = kept_entry (f s) (h s)

pub all_ascend : (dbs : List Database) → ((i : ℕ) → Ascends (or_untouched (slice_get dbs i)).records) → AllAscend dbs
unfolding AllAscend or_untouched
all_ascend [] f = tt
all_ascend (d ∷ ds) f = (f zero, all_ascend ds (λ i. f (suc i)))

-- ---- the parts of every step

pub either : {here : ℕ} {u v : Turn} (b : Bool) → AtHome here u → AtHome here v → AtHome here (cond b u v)
either {here} {u} {v} true f g = f
either {here} {u} {v} false f g = g

pub with_node_home : {here : ℕ} {u : Turn} (x : Node) → x.dbs ≡ u.node.dbs → x.members ≡ u.node.members → AtHome here u → AtHome here (with_node x u)
unfolding with_node state_at db_at
with_node_home {here} {u} x dbs members s = record {
  order = subst AllAscend (sym dbs) s.order;
  entry = λ db key ne. ap (λ (ds : List Database). (or_nothing (look key (or_untouched (slice_get ds db)).records)).entry) dbs ∙ s.entry db key (λ is. ne (is ∙ ap (λ (ms : List ℕ). master_of ms key) (sym members)));
}

-- with another state of a database
changed_home : {here : ℕ} {u : Turn} (db : ℕ) (d : Database) → (Ascends (db_at db u.node).records → Ascends d.records) →
    ((key : List ℕ) → Ascends (db_at db u.node).records → here ≢ master_of u.node.members key → (or_nothing (look key (db_at db u.node).records)).entry ≡ None → (or_nothing (look key d.records)).entry ≡ None) →
    AtHome here u → AtHome here (with_node (with_db db d u.node) u)
unfolding with_node with_db state_at db_at AllAscend
changed_home {here} {u} db d order none s = record {
  order = all_set (λ x. Ascends x.records) u.node.dbs db d (order (at_ascends u.node.dbs db s.order)) s.order;
  entry = λ e key ne. ⊎_elim
      (λ (is : e ≡ db). subst (λ (i : ℕ). (or_nothing (look key (or_untouched (slice_get (set u.node.dbs db d) i)).records)).entry ≡ None) (sym is)
      (cond_both (nat_lt db (length u.node.dbs)) true false (λ (_ : Bool). (or_nothing (look key (or_untouched (slice_get (set u.node.dbs db d) db)).records)).entry ≡ None)
      (λ t. ap (λ (x : Database). (or_nothing (look key x.records)).entry) (at_set u.node.dbs db d (ltb-true db (length u.node.dbs) t)) ∙ none key (at_ascends u.node.dbs db s.order) ne (s.entry db key ne))
      (λ f. ap (λ (ds : List Database). (or_nothing (look key (or_untouched (slice_get ds db)).records)).entry) (set_past u.node.dbs db d (ltb-false db (length u.node.dbs) f)) ∙ s.entry db key ne)))
      (λ (unlike : e ≢ db). ap (λ (x : Database). (or_nothing (look key x.records)).entry) (at_other u.node.dbs db e d unlike) ∙ s.entry e key ne)
      (cases_eq e db);
}

-- with the same records
with_db_home : {here : ℕ} {u : Turn} (db : ℕ) (d : Database) → d.records ≡ (db_at db u.node).records → AtHome here u → AtHome here (with_node (with_db db d u.node) u)
with_db_home {here} {u} db d same s = changed_home db d (λ h. subst Ascends (sym same) h) (λ key h ne none. ap (λ (m : Pairs RecState). (or_nothing (look key m)).entry) same ∙ none) s

pub with_lead_home : {here : ℕ} {u : Turn} (l : Lead) → AtHome here u → AtHome here (with_lead l u)
unfolding with_lead state_at db_at
with_lead_home _ s = record { order = s.order; entry = s.entry }

pub with_phase_home : {here : ℕ} {u : Turn} (p : Phase) → AtHome here u → AtHome here (with_phase p u)
unfolding with_phase state_at db_at
with_phase_home _ s = record { order = s.order; entry = s.entry }

pub makes_home : {here : ℕ} {u : Turn} (n : ℕ) → AtHome here u → AtHome here (makes n u)
unfolding makes
makes_home _ s = record { order = s.order; entry = s.entry }

pub answers_home : {here : ℕ} {u : Turn} (call : ℕ) (a : Answer) → AtHome here u → AtHome here (answers call a u)
unfolding answers does
answers_home _ _ s = record { order = s.order; entry = s.entry }

pub notes_home : {here : ℕ} {u : Turn} (n : Note) → AtHome here u → AtHome here (notes n u)
unfolding notes does
notes_home _ s = record { order = s.order; entry = s.entry }

posts_home : {here : ℕ} {u : Turn} (g me n : ℕ) (m : Msg) → AtHome here u → AtHome here (posts g me n m u)
unfolding posts does
posts_home _ _ _ _ s = record { order = s.order; entry = s.entry }

posts_all_home : {here : ℕ} (g me : ℕ) (ns : List ℕ) (m : Msg) (u : Turn) → AtHome here u → AtHome here (posts_all g me ns m u)
unfolding posts_all
posts_all_home g me [] m u s = s
posts_all_home g me (n ∷ ns) m u s = posts_all_home g me ns m (posts g me n m u) (posts_home _ _ _ _ s)

-- ---- persistent databases

updates_home : {here : ℕ} {u : Turn} (db seq : ℕ) (ws : List Pair) → AtHome here u → AtHome here (updates db seq ws u)
unfolding updates
updates_home _ _ _ s = with_db_home _ _ refl s

with_commit_home : {here : ℕ} {u : Turn} (db : ℕ) (x : Option Committing) → AtHome here u → AtHome here (with_commit db x u)
unfolding with_commit
with_commit_home _ _ s = with_db_home _ _ refl s

awaits_home : {here : ℕ} (me call db seq : ℕ) (ws : List Pair) (ns : List ℕ) (u : Turn) → AtHome here u → AtHome here (awaits_others me call db seq ws ns u)
unfolding awaits_others
awaits_home me call db seq ws [] u s = answers_home _ _ s
awaits_home me call db seq ws (m ∷ ms) u s = posts_all_home _ _ _ _ _ (with_commit_home _ _ s)

pub commit_home : {here : ℕ} {u : Turn} (me call db : ℕ) (ws : List Pair) → AtHome here u → AtHome here (commit me call db ws u)
unfolding commit commits_at
commit_home _ _ _ _ s = awaits_home _ _ _ _ _ _ _ (updates_home _ _ _ (makes_home _ s))

pub on_pupdate_home : {here : ℕ} {u : Turn} (me n db seq : ℕ) (ws : List Pair) → AtHome here u → AtHome here (on_pupdate me n db seq ws u)
unfolding on_pupdate acknowledges
on_pupdate_home _ _ _ _ _ s = either _ (posts_home _ _ _ _ (updates_home _ _ _ s)) (updates_home _ _ _ s)

on_pack_of_home : {here : ℕ} (n db seq : ℕ) (u : Turn) (x : Option Committing) → AtHome here u → AtHome here (on_pack_of n db seq u x)
unfolding on_pack_of
on_pack_of_home n db seq u None s = s
on_pack_of_home n db seq u (Some x) s = either _ (answers_home _ _ (with_commit_home _ _ s)) (with_commit_home _ _ s)

pub on_pack_home : {here : ℕ} {u : Turn} (n db seq : ℕ) → AtHome here u → AtHome here (on_pack n db seq u)
unfolding on_pack
on_pack_home _ _ _ s = on_pack_of_home _ _ _ _ _ s

pub read_pair_home : {here : ℕ} {u : Turn} (call db : ℕ) (key : List ℕ) → AtHome here u → AtHome here (read_pair call db key u)
unfolding read_pair
read_pair_home _ _ _ s = answers_home _ _ s

-- ---- rounds

pub begin_round_home : {here : ℕ} {u : Turn} (me g : ℕ) (members : List ℕ) → AtHome here u → AtHome here (begin_round me g members u)
unfolding begin_round
begin_round_home _ _ _ s = either _ (posts_all_home _ _ _ _ _ (with_lead_home _ (makes_home _ s))) s

pub frozen_home : {here : ℕ} {u : Turn} (me g h : ℕ) → AtHome here u → AtHome here (frozen_if_unlocked me g h u)
unfolding frozen_if_unlocked
frozen_home _ _ _ s = either _ s (posts_home _ _ _ _ (with_phase_home _ s))

ends_lock_home : {here : ℕ} {u : Turn} (name : List ℕ) → AtHome here u → AtHome here (ends_lock name u)
unfolding ends_lock with_state state_at
ends_lock_home {here} {u} name s = notes_home _
    (changed_home 0 _ (λ h. kept_ascends name _ _ h) (λ key h ne none. kept_none name key _ _ h (λ is. subst (λ (q : List ℕ). (or_nothing (look q (db_at 0 u.node).records)).entry ≡ None) is none) none) s)

ends_commit_home : {here : ℕ} (db : ℕ) (name : List ℕ) (u : Turn) (x : Option Committing) → AtHome here u → AtHome here (ends_commit db name u x)
unfolding ends_commit
ends_commit_home db name u None s = s
ends_commit_home db name u (Some x) s = ends_lock_home _ (with_commit_home _ _ (answers_home _ _ s))

ends_commits_home : {here : ℕ} (c : Config) (i : ℕ) (dbs : List Database) (u : Turn) → AtHome here u → AtHome here (ends_commits c i dbs u)
unfolding ends_commits
ends_commits_home c i [] u s = s
ends_commits_home c i (d ∷ ds) u s = ends_commits_home c (i + 1) ds _ (ends_commit_home _ _ _ _ s)

freezes_home : {here : ℕ} {u : Turn} (g h : ℕ) → AtHome here u → AtHome here (freezes g h u)
unfolding state_at frozen_db frozen_state db_at
freezes_home {here} {u} g h s = record {
  order = all_ascend (freezes g h u).node.dbs (λ i. subst Ascends (sym (ap (λ (x : Database). x.records) (freezes_each g h i u))) (changed_ascends frozen_state (db_at i u.node).records (at_ascends u.node.dbs i s.order)));
  entry = λ db key ne. ap (λ (x : Database). (or_nothing (look key x.records)).entry) (freezes_each g h db u)
      ∙ ap (λ (o : Option RecState). (or_nothing o).entry) (changed_seen frozen_state (db_at db u.node).records (at_ascends u.node.dbs db s.order) key) ∙ changed_none frozen_state (look key (db_at db u.node).records) (λ x. refl);
}

pub on_freeze_home : {here : ℕ} {u : Turn} (c : Config) (me h g : ℕ) → AtHome here u → AtHome here (on_freeze c me h g u)
unfolding on_freeze
on_freeze_home {here} {u} c me h g s =
    either (nat_lt u.node.promise g) (frozen_home _ _ _ (ends_commits_home c 0 u.node.dbs _ (freezes_home _ _ s))) (either _ (posts_home _ _ _ _ s) s)

all_frozen_home : {here : ℕ} (me g : ℕ) (members : List ℕ) (u : Turn) (ns : List ℕ) → AtHome here u → AtHome here (all_frozen me g members u ns)
unfolding all_frozen
all_frozen_home me g members u [] s = posts_all_home _ _ _ _ _ (with_lead_home _ s)
all_frozen_home me g members u (m ∷ ms) s = with_lead_home _ s

pub on_freezeack_home : {here : ℕ} (me n g : ℕ) (u : Turn) (l : Lead) → AtHome here u → AtHome here (on_freezeack me n g u l)
unfolding on_freezeack
on_freezeack_home me n g u (Freezes h members missing) s = either _ (all_frozen_home _ _ _ _ _ s) s
on_freezeack_home me n g u _ s = s

pub on_pull_home : {here : ℕ} {u : Turn} (c : Config) (me h g : ℕ) → AtHome here u → AtHome here (on_pull c me h g u)
unfolding on_pull
on_pull_home _ _ _ _ s = either _ (posts_home _ _ _ _ s) s

pushes_home : {here : ℕ} {u : Turn} (me g : ℕ) (members : List ℕ) (b : PushBody) → AtHome here u → AtHome here (pushes me g members b u)
unfolding pushes push_of
pushes_home _ _ _ _ s = posts_all_home _ _ _ _ _ (notes_home _ (with_lead_home _ s))

all_pulled_home : {here : ℕ} (me g : ℕ) (members : List ℕ) (x : Gathered) (u : Turn) (ns : List ℕ) → AtHome here u → AtHome here (all_pulled me g members x u ns)
unfolding all_pulled
all_pulled_home me g members x u [] s = pushes_home _ _ _ _ s
all_pulled_home me g members x u (m ∷ ms) s = with_lead_home _ s

pub on_pullreply_home : {here : ℕ} (me g : ℕ) (p : Pull) (u : Turn) (l : Lead) → AtHome here u → AtHome here (on_pullreply me g p u l)
unfolding on_pullreply
on_pullreply_home me g p u (Pulls h members missing x) s = either _ (all_pulled_home _ _ _ _ _ _ s) s
on_pullreply_home me g p u _ s = s

releases_home : {here : ℕ} (xs : List Address) (u : Turn) → AtHome here u → AtHome here (releases xs u)
unfolding releases
releases_home [] u s = s
releases_home (a ∷ rest) u s = releases_home rest _ (notes_home _ s)

pub own_entry : (me l : ℕ) (row : TableRow) → me ≢ l → entry_from me l row ≡ None
unfolding entry_from
own_entry me l row ne = cond_both (nat_eq me l) _ None (λ (e : Option Entry). e ≡ None) (λ t. absurd (ne (eqb-true me l t))) (λ _. refl)

row_none : (me : ℕ) (members : List ℕ) (row : TableRow) (m : Pairs RecState) (key : List ℕ) → me ≢ master_of members key → (or_nothing (look key m)).entry ≡ None → (or_nothing (look key (install_row me members row m))).entry ≡ None
unfolding install_row installed_state or_nothing
row_none me members row m key ne h =
    let x = installed_state me (master_of members row.key) row (or_nothing (look row.key m)) in
    ⊎_elim
    (λ (is : bytes_eq key row.key ≡ true). (let e = (bytes_eq-Decides key row.key).0 is in
    subst (λ (q : List ℕ). (or_nothing (look q (write row.key x m))).entry ≡ None) (sym e)
    (ap (λ (o : Option RecState). (or_nothing o).entry) (written m row.key x) ∙ own_entry me (master_of members row.key) row (λ me_is. ne (me_is ∙ ap (λ (q : List ℕ). master_of members q) (sym e))))))
    (λ (unlike : bytes_eq key row.key ≡ false). ap (λ (o : Option RecState). (or_nothing o).entry) (not_written m row.key key x (other_key key row.key unlike)) ∙ h)
    (cases_Bool (bytes_eq key row.key))

rows_none : (me db : ℕ) (members : List ℕ) (rows : List TableRow) (m : Pairs RecState) (key : List ℕ) → me ≢ master_of members key → (or_nothing (look key m)).entry ≡ None → (or_nothing (look key (install_rows me db members rows m))).entry ≡ None
unfolding install_rows
rows_none me db members [] m key ne h = h
rows_none me db members (row ∷ rows) m key ne h =
    rows_none me db members rows _ key ne (cond_both (nat_eq row.db db) (install_row me members row m) m (λ (x : Pairs RecState). (or_nothing (look key x)).entry ≡ None) (λ _. row_none me members row m key ne h) (λ _. h))

installed_none : (me i : ℕ) (members : List ℕ) (table : List TableRow) (ptables : List PTable) (dbs : List Database) (db : ℕ) (key : List ℕ) → me ≢ master_of members key → AllAscend dbs →
    (or_nothing (look key (or_untouched (slice_get (installed_dbs me i members table ptables dbs) db)).records)).entry ≡ None
unfolding installed_dbs installed_db bared AllAscend or_untouched untouched or_nothing
installed_none me i members table ptables [] db key ne h = refl
installed_none me i members table ptables (x ∷ xs) zero key ne h =
    rows_none me i members table (changed bared x.records) key ne (ap (λ (o : Option RecState). (or_nothing o).entry) (changed_seen bared x.records h.0 key) ∙ changed_none bared (look key x.records) (λ s. refl))
installed_none me i members table ptables (x ∷ xs) (suc db) key ne h = installed_none me (i + 1) members table ptables xs db key ne h.1

installed_home : {here : ℕ} (c : Config) (h g : ℕ) (members : List ℕ) (table : List TableRow) (ptables : List PTable) (assigned : List Assigned) (v u : Turn) → AtHome here u → AtHome here (with_node (installed_node c here h g members table ptables assigned u.node) v)
unfolding with_node installed_node state_at db_at
installed_home {here} c h g members table ptables assigned v u s = record { order = installed_order here 0 members table ptables u.node.dbs s.order; entry = λ db key ne. installed_none here 0 members table ptables u.node.dbs db key ne s.order }

installs_home : {here : ℕ} {u : Turn} (c : Config) (h g : ℕ) (members : List ℕ) (table : List TableRow) (ptables : List PTable) (assigned : List Assigned) → AtHome here u → AtHome here (installs c here h g members table ptables assigned u)
unfolding installs
installs_home {here} {u} c h g members table ptables assigned s = releases_home _ _ (notes_home _ (installed_home c h g members table ptables assigned (makes_rows here members table u) u s))

pub on_push_home : {here : ℕ} {u : Turn} (c : Config) (h g : ℕ) (members : List ℕ) (table : List TableRow) (ptables : List PTable) (assigned : List Assigned) → AtHome here u → AtHome here (on_push c here h g members table ptables assigned u)
unfolding on_push
on_push_home {here} {u} c h g members table ptables assigned s =
    either (is_frozen_in g u.node.phase) (posts_home g here h msg.PushAck (installs_home c h g members table ptables assigned s)) (either (is_present_in g u.node) (posts_home g here h msg.PushAck s) s)

all_installed_home : {here : ℕ} (c : Config) (me g : ℕ) (members : List ℕ) (b : PushBody) (u : Turn) (ns : List ℕ) → AtHome here u → AtHome here (all_installed c me g members b u ns)
unfolding all_installed
all_installed_home c me g members b u [] s = posts_all_home _ _ _ _ _ (with_lead_home _ s)
all_installed_home c me g members b u (m ∷ ms) s = with_lead_home _ s

pub on_pushack_home : {here : ℕ} (c : Config) (me n g : ℕ) (u : Turn) (l : Lead) → AtHome here u → AtHome here (on_pushack c me n g u l)
unfolding on_pushack
on_pushack_home c me n g u (Installs h members missing b) s = either _ (all_installed_home _ _ _ _ _ _ _ s) s
on_pushack_home c me n g u _ s = s

-- ---- takeover runs

send_releases_home : {here : ℕ} (me g number : ℕ) (placement : List Assigned) (ns : List ℕ) (u : Turn) → AtHome here u → AtHome here (send_releases me g number placement ns u)
unfolding send_releases
send_releases_home me g number placement [] u s = s
send_releases_home me g number placement (m ∷ ms) u s = send_releases_home me g number placement ms _ (posts_home _ _ _ _ s)

pub begin_takeover_home : {here : ℕ} (me : ℕ) (able : List ℕ) (u : Turn) (l : Lead) → AtHome here u → AtHome here (begin_takeover me able u l)
unfolding begin_takeover runs
begin_takeover_home me able u (Completed g members x) s = either _ (send_releases_home _ _ _ _ _ _ (makes_home _ (with_lead_home _ s))) s
begin_takeover_home me able u _ s = s

pub on_release_home : {here : ℕ} {u : Turn} (me h number : ℕ) (keep : List Address) → AtHome here u → AtHome here (on_release me h number keep u)
unfolding on_release
on_release_home _ _ _ _ s = either _ s (posts_home _ _ _ _ (releases_home _ _ (with_node_home _ refl refl s)))

all_released_home : {here : ℕ} (me g : ℕ) (members : List ℕ) (x : Takeover) (placement : List Assigned) (u : Turn) (ns : List ℕ) → AtHome here u → AtHome here (all_released me g members x placement u ns)
unfolding all_released
all_released_home me g members x placement u [] s = posts_all_home _ _ _ _ _ (with_lead_home _ s)
all_released_home me g members x placement u (m ∷ ms) s = with_lead_home _ s

released_by_home : {here : ℕ} (me n g : ℕ) (members : List ℕ) (x : Takeover) (u : Turn) (r : Run) → AtHome here u → AtHome here (released_by me n g members x u r)
unfolding released_by
released_by_home me n g members x u (Releasing placement missing) s = either _ (all_released_home _ _ _ _ _ _ _ s) s
released_by_home me n g members x u _ s = s

pub on_releaseack_home : {here : ℕ} (me n g number : ℕ) (u : Turn) (l : Lead) → AtHome here u → AtHome here (on_releaseack me n g number u l)
unfolding on_releaseack
on_releaseack_home me n g number u (Completed h members x) s = either _ (released_by_home _ _ _ _ _ _ _ s) s
on_releaseack_home me n g number u _ s = s

takes_home : {here : ℕ} (xs : List Address) (u : Turn) → AtHome here u → AtHome here (takes xs u)
unfolding takes
takes_home [] u s = s
takes_home (a ∷ rest) u s = takes_home rest _ (notes_home _ (with_node_home _ refl refl s))

pub on_take_home : {here : ℕ} {u : Turn} (c : Config) (me number : ℕ) (assigned : List Assigned) → AtHome here u → AtHome here (on_take c me number assigned u)
unfolding on_take
on_take_home _ _ _ _ s = either _ (takes_home _ _ (with_node_home _ refl refl s)) s

-- ---- sending again

update_again_home : {here : ℕ} (me db : ℕ) (u : Turn) (x : Option Committing) → AtHome here u → AtHome here (update_again me db u x)
unfolding update_again
update_again_home me db u None s = s
update_again_home me db u (Some x) s = posts_all_home _ _ _ _ _ s

pub update_in_home : {here : ℕ} (me i : ℕ) (dbs : List Database) (u : Turn) → AtHome here u → AtHome here (update_in me i dbs u)
unfolding update_in
update_in_home me i [] u s = s
update_in_home me i (d ∷ ds) u s = update_in_home me (i + 1) ds _ (update_again_home _ _ _ _ s)

retry_run_home : {here : ℕ} (me g : ℕ) (members : List ℕ) (x : Takeover) (u : Turn) (r : Run) → AtHome here u → AtHome here (retry_run me g members x u r)
unfolding retry_run
retry_run_home me g members x u NoRun s = s
retry_run_home me g members x u (Releasing placement missing) s = send_releases_home _ _ _ _ _ _ s
retry_run_home me g members x u (Taking placement) s = posts_all_home _ _ _ _ _ s

pub retry_lead_home : {here : ℕ} (me : ℕ) (u : Turn) (l : Lead) → AtHome here u → AtHome here (retry_lead me u l)
unfolding retry_lead push_of
retry_lead_home me u Nothing s = s
retry_lead_home me u (Freezes g members missing) s = posts_all_home _ _ _ _ _ s
retry_lead_home me u (Pulls g members missing x) s = posts_all_home _ _ _ _ _ s
retry_lead_home me u (Installs g members missing b) s = posts_all_home _ _ _ _ _ s
retry_lead_home me u (Completed g members x) s = either _ (retry_run_home _ _ _ _ _ _ (posts_all_home _ _ _ _ _ s)) (posts_all_home _ _ _ _ _ s)

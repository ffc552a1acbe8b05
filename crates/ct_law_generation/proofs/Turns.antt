-- A turn of a node leaves its calls even: what looks at no record.
use Rattle.std.proofs.Common.{◌≡◌, ◌≢◌, ℕ, zero, suc, ◌+◌, Bool, true, false, cond, ◌||◌, List, [], ◌∷◌, ◌++◌, length, set, Option, Some, None, refl, sym, ap, ◌∙◌, subst, arith, ⊎_elim}
use Rattle.std.specs.Prelude.{nat_eq, nat_lt, bytes_eq, slice_get}
use Rattle.std.proofs.lemmas.Bool.{cond_both, cases_eq, ltb-true, ltb-false, cases_Bool}
use Rattle.std.proofs.lemmas.Slice.Eq.{bytes_eq-Decides}
use Rattle.ct_values.specs.declared.address.Address.{Address}
use Rattle.ct_values.specs.declared.client.Answer.TheVariants as answer
use Rattle.ct_values.specs.declared.client.ClientOp.TheVariants as op
use Rattle.ct_frame.specs.declared.event.Out.TheVariants as out
use Rattle.ct_values.specs.declared.client.Pair.{Pair}
use Rattle.ct_values.specs.declared.config.Config.{Config}
use Rattle.ct_frame.specs.declared.event.Note.{Note}
use Rattle.ct_frame.specs.declared.frame.Assigned.{Assigned}
use Rattle.ct_frame.specs.declared.frame.Msg.{Msg}
use Rattle.ct_frame.specs.declared.frame.Msg.TheVariants as msg
use Rattle.ct_frame.specs.declared.frame.PTable.{PTable}
use Rattle.ct_frame.specs.declared.frame.TableRow.{TableRow}
use Rattle.ct_frame.specs.declared.round.Pull.{Pull}
use Rattle.ct_frame.specs.declared.round.PushBody.{PushBody}
use Rattle.ct_merge.specs.Gathered.{Gathered}
use Rattle.ct_rules.specs.declared.state.RecState.{RecState}
use Rattle.ct_store.specs.Map.{Pairs, Ascends, look, write}
use Rattle.ct_store.proofs.Maps.{written, not_written}
use Rattle.ct_rules_node.specs.Node.{name_of, Node, Database, Phase, Committing, Lead, Nothing, Freezes, Pulls, Installs, Completed, Takeover, Run, NoRun, Releasing, Taking, master_of, state_at, db_at, with_db, or_nothing, or_untouched, untouched, is_frozen_in, is_present_in}
use Rattle.ct_rules_node.specs.Turn.{Turn, does, with_node, with_lead, with_phase, makes, answers, notes, posts, posts_all}
use Rattle.ct_rules_node.specs.Records.{kept, with_state}
use Rattle.ct_rules_node.specs.Clients.{frozen_if_unlocked}
use Rattle.ct_persist.specs.Commits.{completes}
use Rattle.ct_persist.specs.Persisted.{updated}
use Rattle.ct_rules_node.specs.Databases.{updates, with_commit, commit, acknowledges, on_pupdate, on_pack_of, on_pack}
use Rattle.ct_rules_node.specs.Rounds.{row_master, begin_round, frozen_state, changed, frozen_db, ends_lock, ends_commit, ends_commits, freezes, on_freeze, all_frozen, on_freezeack, on_pull, push_of, pushes, all_pulled, on_pullreply, bared, installed_state, install_row, install_rows, installed_db, installed_dbs, installed_node, releases, makes_rows, installs, on_push, all_installed, on_pushack}
use Rattle.ct_rules_node.specs.Takeovers.{send_releases, runs, begin_takeover, on_release, all_released, released_by, on_releaseack, takes, on_take}
use Rattle.ct_rules_node.specs.Retries.{update_again, update_in, retry_run, retry_lead}
use Rattle.ct_law_rules_node.specs.NodeLaws.{unless_blank, changed_at, AllAscend}
use Rattle.ct_law_rules_node.proofs.BesideRecords.{installed_order}
use Rattle.ct_law_rules_node.proofs.Keys.{changed_seen, changed_ascends, kept_seen, kept_others, kept_ascends}
use Rattle.ct_law_rules_node.proofs.Installed.{install_ascends}
use Rattle.ct_law_rules_node.proofs.Rounds.{freezes_each}
use Rattle.ct_law_rules_node.proofs.AtRecord.{at_set, at_other, set_past, all_set, at_ascends}
use Rattle.ct_law_generation.proofs.Opened.{Opened, without, without_all, answered_by, AllOpen, answered_more, without_more, open_more}
use Rattle.ct_law_generation.proofs.Records.{kept_wish}
use Rattle.ct_law_generation.proofs.Accounts.{Stands, Account, Committed, same_stands, same_kept, with_committing, committing_other, commit_ends, commit_stays}
use Rattle.std.proofs.lemmas.List.{append-nil}
use Rattle.ct_law_generation.proofs.Pending.{zero_more}

other_key : (k q : List ℕ) → bytes_eq k q ≡ false → k ≢ q
other_key k q unlike e = absurd (let a = (bytes_eq-Decides k q).1 e in cc)

changed_wish : (f : RecState → RecState) (o : Option RecState) → ((s : RecState) → (f s).wish ≡ s.wish) → (or_nothing (changed_at f o)).wish ≡ (or_nothing o).wish
unfolding changed_at or_nothing
changed_wish f None h = refl
changed_wish f (Some s) h = kept_wish (f s) ∙ h s

-- a lock that ends leaves the calls that wait
lock_wish : (key name : List ℕ) (m : Pairs RecState) → Ascends m → (or_nothing (look key (kept name (record (or_nothing (look name m)) { locked = None }) m))).wish ≡ (or_nothing (look key m)).wish
lock_wish key name m order = ⊎_elim
    (λ (is : bytes_eq key name ≡ true). (let e = (bytes_eq-Decides key name).0 is in
    subst (λ (q : List ℕ). (or_nothing (look q (kept name (record (or_nothing (look name m)) { locked = None }) m))).wish ≡ (or_nothing (look q m)).wish) (sym e)
    (ap (λ (o : Option RecState). (or_nothing o).wish) (kept_seen name _ m order) ∙ kept_wish (record (or_nothing (look name m)) { locked = None }))))
    (λ (unlike : bytes_eq key name ≡ false). ap (λ (o : Option RecState). (or_nothing o).wish) (kept_others name _ m key (other_key key name unlike)))
    (cases_Bool (bytes_eq key name))

next_at : (i k : ℕ) → i + 1 + k ≡ i + suc k
next_at i k = omega arith

first_at : (i : ℕ) → i ≡ i + 0
first_at i = omega arith

state_commit : (db d : ℕ) (key : List ℕ) (s : RecState) (x : Node) → (db_at d (with_state db key s x)).commit ≡ (db_at d x).commit
unfolding with_state with_db db_at
state_commit db d key s x = ⊎_elim
    (λ (is : d ≡ db). subst (λ (i : ℕ). (or_untouched (slice_get (with_state db key s x).dbs i)).commit ≡ (or_untouched (slice_get x.dbs i)).commit) (sym is)
    (cond_both (nat_lt db (length x.dbs)) true false (λ (_ : Bool). (or_untouched (slice_get (with_state db key s x).dbs db)).commit ≡ (or_untouched (slice_get x.dbs db)).commit)
    (λ t. ap (λ (y : Database). y.commit) (at_set x.dbs db _ (ltb-true db (length x.dbs) t)))
    (λ f. ap (λ (ds : List Database). (or_untouched (slice_get ds db)).commit) (set_past x.dbs db _ (ltb-false db (length x.dbs) f)))))
    (λ (ne : d ≢ db). ap (λ (y : Database). y.commit) (at_other x.dbs db d _ ne))
    (cases_eq d db)

other_commits : (db d : ℕ) (name : List ℕ) (u : Turn) (x : Option Committing) → d ≢ db → (db_at d (ends_commit db name u x).node).commit ≡ (db_at d u.node).commit
unfolding ends_commit ends_lock with_commit with_node answers notes does
other_commits db d name u None ne = refl
other_commits db d name u (Some x) ne = state_commit 0 d name _ (with_committing db None u.node) ∙ ap (λ (y : Database). y.commit) (committing_other db d None u.node ne)

pack_outs : (db : ℕ) (x : Committing) (seq : ℕ) (u : Turn) → answered_by (answers x.call (answer.Committed seq) (with_commit db None u)).outs ≡ answered_by u.outs ++ x.call ∷ []
unfolding answers does with_commit with_node answered_by
pack_outs db x seq u = answered_more u.outs _

pack_node : (db : ℕ) (x : Committing) (seq : ℕ) (u : Turn) → (answers x.call (answer.Committed seq) (with_commit db None u)).node ≡ with_committing db None u.node
unfolding answers does with_commit with_node
pack_node db x seq u = refl

unsure_outs : (db : ℕ) (x : Committing) (u : Turn) → answered_by (with_commit db None (answers x.call (answer.Unsure x.pending.seq x.pending.missing) u)).outs ≡ answered_by u.outs ++ x.call ∷ []
unfolding answers does with_commit with_node answered_by
unsure_outs db x u = answered_more u.outs _

unsure_node : (db : ℕ) (x : Committing) (u : Turn) → (with_commit db None (answers x.call (answer.Unsure x.pending.seq x.pending.missing) u)).node ≡ with_committing db None u.node
unfolding answers does with_commit with_node
unsure_node db x u = refl

frozen_outs : (g h : ℕ) (u : Turn) → answered_by (freezes g h u).outs ≡ answered_by u.outs
unfolding freezes with_node
frozen_outs g h u = refl

pub all_ascend : (dbs : List Database) → ((i : ℕ) → Ascends (or_untouched (slice_get dbs i)).records) → AllAscend dbs
unfolding AllAscend or_untouched
all_ascend [] f = tt
all_ascend (d ∷ ds) f = (f zero, all_ascend ds (λ i. f (suc i)))

-- ---- the parts of every step

pub either : {who : Opened} {here : ℕ} {u v : Turn} (b : Bool) → Account who here u → Account who here v → Account who here (cond b u v)
either {who} {here} {u} {v} true f g = f
either {who} {here} {u} {v} false f g = g

pub with_node_kept : {who : Opened} {here : ℕ} {u : Turn} (x : Node) → x.dbs ≡ u.node.dbs → x.members ≡ u.node.members → Account who here u → Account who here (with_node x u)
unfolding with_node state_at db_at
with_node_kept {who} {here} {u} x dbs members s = same_kept (with_node x u) refl (subst AllAscend (sym dbs) s.stands.order)
    (λ db key. ap (λ (ds : List Database). (or_nothing (look key (or_untouched (slice_get ds db)).records)).wish) dbs)
    (λ db. ap (λ (ds : List Database). (or_untouched (slice_get ds db)).commit) dbs) s

-- what is seen of a database that was put into its place
set_same : {X : Type 0} (dbs : List Database) (db e : ℕ) (d : Database) (f : Database → X) → f d ≡ f (or_untouched (slice_get dbs db)) → f (or_untouched (slice_get (set dbs db d) e)) ≡ f (or_untouched (slice_get dbs e))
set_same dbs db e d f same = ⊎_elim
    (λ (is : e ≡ db). subst (λ (i : ℕ). f (or_untouched (slice_get (set dbs db d) i)) ≡ f (or_untouched (slice_get dbs i))) (sym is)
    (cond_both (nat_lt db (length dbs)) true false (λ (_ : Bool). f (or_untouched (slice_get (set dbs db d) db)) ≡ f (or_untouched (slice_get dbs db)))
    (λ t. ap f (at_set dbs db d (ltb-true db (length dbs) t)) ∙ same)
    (λ g. ap (λ (ds : List Database). f (or_untouched (slice_get ds db))) (set_past dbs db d (ltb-false db (length dbs) g)))))
    (λ (unlike : e ≢ db). ap f (at_other dbs db e d unlike))
    (cases_eq e db)

-- with another state of a database, in which the same calls wait
pub changed_kept : {who : Opened} {here : ℕ} {u : Turn} (db : ℕ) (d : Database) → (Ascends (db_at db u.node).records → Ascends d.records) →
    ((key : List ℕ) → Ascends (db_at db u.node).records → (or_nothing (look key d.records)).wish ≡ (or_nothing (look key (db_at db u.node).records)).wish) → d.commit ≡ (db_at db u.node).commit →
    Account who here u → Account who here (with_node (with_db db d u.node) u)
unfolding with_node with_db state_at db_at AllAscend
changed_kept {who} {here} {u} db d order wish commit s = same_kept (with_node (with_db db d u.node) u) refl
    (all_set (λ x. Ascends x.records) u.node.dbs db d (order (at_ascends u.node.dbs db s.stands.order)) s.stands.order)
    (λ e key. set_same u.node.dbs db e d (λ (x : Database). (or_nothing (look key x.records)).wish) (wish key (at_ascends u.node.dbs db s.stands.order)))
    (λ e. set_same u.node.dbs db e d (λ (x : Database). x.commit) commit) s

pub with_lead_kept : {who : Opened} {here : ℕ} {u : Turn} (l : Lead) → Account who here u → Account who here (with_lead l u)
unfolding with_lead state_at db_at
with_lead_kept {who} {here} {u} l s = same_kept (with_lead l u) refl s.stands.order (λ db key. refl) (λ db. refl) s

pub with_phase_kept : {who : Opened} {here : ℕ} {u : Turn} (p : Phase) → Account who here u → Account who here (with_phase p u)
unfolding with_phase state_at db_at
with_phase_kept {who} {here} {u} p s = same_kept (with_phase p u) refl s.stands.order (λ db key. refl) (λ db. refl) s

pub makes_kept : {who : Opened} {here : ℕ} {u : Turn} (n : ℕ) → Account who here u → Account who here (makes n u)
unfolding makes
makes_kept {who} {here} {u} n s = same_kept (makes n u) refl s.stands.order (λ db key. refl) (λ db. refl) s

pub notes_kept : {who : Opened} {here : ℕ} {u : Turn} (n : Note) → Account who here u → Account who here (notes n u)
unfolding notes does answered_by
notes_kept {who} {here} {u} n s = same_kept (notes n u) (answered_more u.outs (out.Note n ∷ []) ∙ append-nil (answered_by u.outs)) s.stands.order (λ db key. refl) (λ db. refl) s

posts_kept : {who : Opened} {here : ℕ} {u : Turn} (g me n : ℕ) (m : Msg) → Account who here u → Account who here (posts g me n m u)
unfolding posts does answered_by
posts_kept {who} {here} {u} g me n m s = same_kept (posts g me n m u) (answered_more u.outs (out.Send _ ∷ []) ∙ append-nil (answered_by u.outs)) s.stands.order (λ db key. refl) (λ db. refl) s

pub posts_all_kept : {who : Opened} {here : ℕ} (g me : ℕ) (ns : List ℕ) (m : Msg) (u : Turn) → Account who here u → Account who here (posts_all g me ns m u)
unfolding posts_all
posts_all_kept g me [] m u s = s
posts_all_kept g me (n ∷ ns) m u s = posts_all_kept g me ns m (posts g me n m u) (posts_kept _ _ _ _ s)

-- ---- persistent databases

updates_kept : {who : Opened} {here : ℕ} {u : Turn} (db seq : ℕ) (ws : List Pair) → Account who here u → Account who here (updates db seq ws u)
unfolding updates
updates_kept _ _ _ s = changed_kept _ _ (λ h. h) (λ key h. refl) refl s

-- the commit that waits is answered, and waits no more
commit_answered : {who : Opened} {here : ℕ} {u : Turn} (v : Turn) (db : ℕ) (x : Committing) → (db_at db u.node).commit ≡ Some x → answered_by v.outs ≡ answered_by u.outs ++ x.call ∷ [] → v.node ≡ with_committing db None u.node → Account who here u → Account who here v
unfolding AllOpen without_all Committed
commit_answered {who} {here} {u} v db x is outs node s =
    let mine : without_all (answered_by u.outs) who x.call ≡ Some (here, op.Commit db x.writes) = subst (λ (c : Option Committing). Committed here (without_all (answered_by u.outs) who) db c) is (s.stands.commits db) in
    record {
      asked = subst (λ (l : List ℕ). AllOpen here who l) (sym outs) (open_more here who (answered_by u.outs) (x.call ∷ []) s.asked ((op.Commit db x.writes, mine), tt));
      stands = subst (λ (l : List ℕ). Stands here (without_all l who) v.node) (sym outs) (subst (λ (f : Opened). Stands here f v.node) (sym (without_more (answered_by u.outs) (x.call ∷ []) who))
          (subst (λ (y : Node). Stands here (without x.call (without_all (answered_by u.outs) who)) y) (sym node) (commit_ends here db (without_all (answered_by u.outs) who) u.node x is s.stands)));
    }

-- the commit that waits, with other acknowledgements
commit_goes : {who : Opened} {here : ℕ} {u : Turn} (db : ℕ) (x y : Committing) → (db_at db u.node).commit ≡ Some x → y.call ≡ x.call → y.writes ≡ x.writes → Account who here u → Account who here (with_commit db (Some y) u)
unfolding with_commit with_node
commit_goes {who} {here} {u} db x y is call writes s = record { asked = s.asked; stands = commit_stays here db (without_all (answered_by u.outs) who) u.node x y is call writes s.stands }

pub on_pupdate_kept : {who : Opened} {here : ℕ} {u : Turn} (me n db seq : ℕ) (ws : List Pair) → Account who here u → Account who here (on_pupdate me n db seq ws u)
unfolding on_pupdate acknowledges
on_pupdate_kept _ _ _ _ _ s = either _ (posts_kept _ _ _ _ (updates_kept _ _ _ s)) (updates_kept _ _ _ s)

on_pack_of_kept : {who : Opened} {here : ℕ} (n db seq : ℕ) (u : Turn) (x : Option Committing) → (db_at db u.node).commit ≡ x → Account who here u → Account who here (on_pack_of n db seq u x)
unfolding on_pack_of
on_pack_of_kept n db seq u None is s = s
on_pack_of_kept n db seq u (Some x) is s = either (completes n seq x.pending) (commit_answered _ db x is (pack_outs db x seq u) (pack_node db x seq u) s) (commit_goes db x _ is refl refl s)

pub on_pack_kept : {who : Opened} {here : ℕ} {u : Turn} (n db seq : ℕ) → Account who here u → Account who here (on_pack n db seq u)
unfolding on_pack
on_pack_kept {who} {here} {u} n db seq s = on_pack_of_kept n db seq u (db_at db u.node).commit refl s

-- ---- rounds

pub begin_round_kept : {who : Opened} {here : ℕ} {u : Turn} (me g : ℕ) (members : List ℕ) → Account who here u → Account who here (begin_round me g members u)
unfolding begin_round
begin_round_kept _ _ _ s = either _ (posts_all_kept _ _ _ _ _ (with_lead_kept _ (makes_kept _ s))) s

pub frozen_kept : {who : Opened} {here : ℕ} {u : Turn} (me g h : ℕ) → Account who here u → Account who here (frozen_if_unlocked me g h u)
unfolding frozen_if_unlocked
frozen_kept _ _ _ s = either _ s (posts_kept _ _ _ _ (with_phase_kept _ s))

ends_lock_kept : {who : Opened} {here : ℕ} {u : Turn} (name : List ℕ) → Account who here u → Account who here (ends_lock name u)
unfolding ends_lock with_state state_at
ends_lock_kept {who} {here} {u} name s = notes_kept _ (changed_kept 0 _ (λ h. kept_ascends name _ _ h) (λ key h. lock_wish key name (db_at 0 u.node).records h) refl s)

ends_commit_kept : {who : Opened} {here : ℕ} (db : ℕ) (name : List ℕ) (u : Turn) (x : Option Committing) → (db_at db u.node).commit ≡ x → Account who here u → Account who here (ends_commit db name u x)
unfolding ends_commit
ends_commit_kept db name u None is s = s
ends_commit_kept db name u (Some x) is s = ends_lock_kept name (commit_answered _ db x is (unsure_outs db x u) (unsure_node db x u) s)

ends_commits_kept : {who : Opened} {here : ℕ} (c : Config) (i : ℕ) (dbs : List Database) (u : Turn) → ((k : ℕ) → (db_at (i + k) u.node).commit ≡ (or_untouched (slice_get dbs k)).commit) → Account who here u → Account who here (ends_commits c i dbs u)
unfolding ends_commits or_untouched
ends_commits_kept c i [] u same s = s
ends_commits_kept c i (d ∷ ds) u same s = ends_commits_kept c (i + 1) ds _
    (λ k. other_commits i (i + 1 + k) (name_of c i) u d.commit (λ is. omega arith) ∙ ap (λ (j : ℕ). (db_at j u.node).commit) (next_at i k) ∙ same (suc k))
    (ends_commit_kept i (name_of c i) u d.commit (ap (λ (j : ℕ). (db_at j u.node).commit) (first_at i) ∙ same 0) s)

freezes_kept : {who : Opened} {here : ℕ} {u : Turn} (g h : ℕ) → Account who here u → Account who here (freezes g h u)
unfolding state_at frozen_db db_at frozen_state
freezes_kept {who} {here} {u} g h s = same_kept (freezes g h u) (frozen_outs g h u)
    (all_ascend (freezes g h u).node.dbs (λ i. subst Ascends (sym (ap (λ (x : Database). x.records) (freezes_each g h i u))) (changed_ascends frozen_state (db_at i u.node).records (at_ascends u.node.dbs i s.stands.order))))
    (λ db key. ap (λ (x : Database). (or_nothing (look key x.records)).wish) (freezes_each g h db u)
    ∙ ap (λ (o : Option RecState). (or_nothing o).wish) (changed_seen frozen_state (db_at db u.node).records (at_ascends u.node.dbs db s.stands.order) key) ∙ changed_wish frozen_state (look key (db_at db u.node).records) (λ x. refl))
    (λ db. ap (λ (x : Database). x.commit) (freezes_each g h db u)) s

frozen_commits : (g h db : ℕ) (u : Turn) → (db_at (0 + db) (freezes g h u).node).commit ≡ (or_untouched (slice_get u.node.dbs db)).commit
unfolding frozen_db db_at
frozen_commits g h db u = ap (λ (x : Database). x.commit) (freezes_each g h (0 + db) u) ∙ ap (λ (j : ℕ). (or_untouched (slice_get u.node.dbs j)).commit) (sym (zero_more db))

pub on_freeze_kept : {who : Opened} {here : ℕ} {u : Turn} (c : Config) (me h g : ℕ) → Account who here u → Account who here (on_freeze c me h g u)
unfolding on_freeze
on_freeze_kept {who} {here} {u} c me h g s =
    either (nat_lt u.node.promise g) (frozen_kept _ _ _ (ends_commits_kept c 0 u.node.dbs _ (λ k. frozen_commits g h k u) (freezes_kept _ _ s))) (either _ (posts_kept _ _ _ _ s) s)

all_frozen_kept : {who : Opened} {here : ℕ} (me g : ℕ) (members : List ℕ) (u : Turn) (ns : List ℕ) → Account who here u → Account who here (all_frozen me g members u ns)
unfolding all_frozen
all_frozen_kept me g members u [] s = posts_all_kept _ _ _ _ _ (with_lead_kept _ s)
all_frozen_kept me g members u (m ∷ ms) s = with_lead_kept _ s

pub on_freezeack_kept : {who : Opened} {here : ℕ} (me n g : ℕ) (u : Turn) (l : Lead) → Account who here u → Account who here (on_freezeack me n g u l)
unfolding on_freezeack
on_freezeack_kept me n g u (Freezes h members missing) s = either _ (all_frozen_kept _ _ _ _ _ s) s
on_freezeack_kept me n g u _ s = s

pub on_pull_kept : {who : Opened} {here : ℕ} {u : Turn} (c : Config) (me h g : ℕ) → Account who here u → Account who here (on_pull c me h g u)
unfolding on_pull
on_pull_kept _ _ _ _ s = either _ (posts_kept _ _ _ _ s) s

pushes_kept : {who : Opened} {here : ℕ} {u : Turn} (me g : ℕ) (members : List ℕ) (b : PushBody) → Account who here u → Account who here (pushes me g members b u)
unfolding pushes push_of
pushes_kept _ _ _ _ s = posts_all_kept _ _ _ _ _ (notes_kept _ (with_lead_kept _ s))

all_pulled_kept : {who : Opened} {here : ℕ} (me g : ℕ) (members : List ℕ) (x : Gathered) (u : Turn) (ns : List ℕ) → Account who here u → Account who here (all_pulled me g members x u ns)
unfolding all_pulled
all_pulled_kept me g members x u [] s = pushes_kept _ _ _ _ s
all_pulled_kept me g members x u (m ∷ ms) s = with_lead_kept _ s

pub on_pullreply_kept : {who : Opened} {here : ℕ} (me g : ℕ) (p : Pull) (u : Turn) (l : Lead) → Account who here u → Account who here (on_pullreply me g p u l)
unfolding on_pullreply
on_pullreply_kept me g p u (Pulls h members missing x) s = either _ (all_pulled_kept _ _ _ _ _ _ s) s
on_pullreply_kept me g p u _ s = s

releases_kept : {who : Opened} {here : ℕ} (xs : List Address) (u : Turn) → Account who here u → Account who here (releases xs u)
unfolding releases
releases_kept [] u s = s
releases_kept (a ∷ rest) u s = releases_kept rest _ (notes_kept _ s)

row_wish : (me : ℕ) (members : List ℕ) (row : TableRow) (m : Pairs RecState) (key : List ℕ) → (or_nothing (look key (install_row me members row m))).wish ≡ (or_nothing (look key m)).wish
unfolding install_row installed_state or_nothing
row_wish me members row m key =
    let x = installed_state me (master_of members row.key) row (or_nothing (look row.key m)) in
    ⊎_elim
    (λ (is : bytes_eq key row.key ≡ true). (let e = (bytes_eq-Decides key row.key).0 is in
    subst (λ (q : List ℕ). (or_nothing (look q (write row.key x m))).wish ≡ (or_nothing (look q m)).wish) (sym e) (ap (λ (o : Option RecState). (or_nothing o).wish) (written m row.key x))))
    (λ (unlike : bytes_eq key row.key ≡ false). ap (λ (o : Option RecState). (or_nothing o).wish) (not_written m row.key key x (other_key key row.key unlike)))
    (cases_Bool (bytes_eq key row.key))

rows_wish : (me db : ℕ) (members : List ℕ) (rows : List TableRow) (m : Pairs RecState) (key : List ℕ) → (or_nothing (look key (install_rows me db members rows m))).wish ≡ (or_nothing (look key m)).wish
unfolding install_rows
rows_wish me db members [] m key = refl
rows_wish me db members (row ∷ rows) m key =
    rows_wish me db members rows _ key ∙ cond_both (nat_eq row.db db) (install_row me members row m) m (λ (x : Pairs RecState). (or_nothing (look key x)).wish ≡ (or_nothing (look key m)).wish) (λ _. row_wish me members row m key) (λ _. refl)

installed_wish : (me i : ℕ) (members : List ℕ) (table : List TableRow) (ptables : List PTable) (dbs : List Database) (db : ℕ) (key : List ℕ) → AllAscend dbs →
    (or_nothing (look key (or_untouched (slice_get (installed_dbs me i members table ptables dbs) db)).records)).wish ≡ (or_nothing (look key (or_untouched (slice_get dbs db)).records)).wish
unfolding installed_dbs installed_db bared AllAscend or_untouched untouched
installed_wish me i members table ptables [] db key h = refl
installed_wish me i members table ptables (x ∷ xs) zero key h =
    rows_wish me i members table (changed bared x.records) key ∙ ap (λ (o : Option RecState). (or_nothing o).wish) (changed_seen bared x.records h.0 key) ∙ changed_wish bared (look key x.records) (λ s. refl)
installed_wish me i members table ptables (x ∷ xs) (suc db) key h = installed_wish me (i + 1) members table ptables xs db key h.1

installed_commit : (me i : ℕ) (members : List ℕ) (table : List TableRow) (ptables : List PTable) (dbs : List Database) (db : ℕ) → (or_untouched (slice_get (installed_dbs me i members table ptables dbs) db)).commit ≡ (or_untouched (slice_get dbs db)).commit
unfolding installed_dbs installed_db or_untouched
installed_commit me i members table ptables [] db = refl
installed_commit me i members table ptables (x ∷ xs) zero = refl
installed_commit me i members table ptables (x ∷ xs) (suc db) = installed_commit me (i + 1) members table ptables xs db

installed_kept : {who : Opened} {here : ℕ} (c : Config) (h g : ℕ) (members : List ℕ) (table : List TableRow) (ptables : List PTable) (assigned : List Assigned) (v u : Turn) → v.outs ≡ u.outs → Account who here u → Account who here (with_node (installed_node c here h g members table ptables assigned u.node) v)
unfolding with_node installed_node state_at db_at
installed_kept {who} {here} c h g members table ptables assigned v u outs s = same_kept (with_node (installed_node c here h g members table ptables assigned u.node) v) (ap answered_by outs) (installed_order here 0 members table ptables u.node.dbs s.stands.order)
    (λ db key. installed_wish here 0 members table ptables u.node.dbs db key s.stands.order) (λ db. installed_commit here 0 members table ptables u.node.dbs db) s

rows_outs : (me : ℕ) (members : List ℕ) (rows : List TableRow) (t : Turn) → (makes_rows me members rows t).outs ≡ t.outs
unfolding makes_rows makes
rows_outs me members [] t = refl
rows_outs me members (row ∷ rows) t = rows_outs me members rows _ ∙ cond_both (nat_eq me (row_master row) || nat_eq me (master_of members row.key)) (makes (row.rsn + 1) t) t (λ (u : Turn). u.outs ≡ t.outs) (λ _. refl) (λ _. refl)

installs_kept : {who : Opened} {here : ℕ} {u : Turn} (c : Config) (h g : ℕ) (members : List ℕ) (table : List TableRow) (ptables : List PTable) (assigned : List Assigned) → Account who here u → Account who here (installs c here h g members table ptables assigned u)
unfolding installs
installs_kept {who} {here} {u} c h g members table ptables assigned s = releases_kept _ _ (notes_kept _ (installed_kept c h g members table ptables assigned (makes_rows here members table u) u (rows_outs here members table u) s))

pub on_push_kept : {who : Opened} {here : ℕ} {u : Turn} (c : Config) (h g : ℕ) (members : List ℕ) (table : List TableRow) (ptables : List PTable) (assigned : List Assigned) → Account who here u → Account who here (on_push c here h g members table ptables assigned u)
unfolding on_push
on_push_kept {who} {here} {u} c h g members table ptables assigned s =
    either (is_frozen_in g u.node.phase) (posts_kept g here h msg.PushAck (installs_kept c h g members table ptables assigned s)) (either (is_present_in g u.node) (posts_kept g here h msg.PushAck s) s)

all_installed_kept : {who : Opened} {here : ℕ} (c : Config) (me g : ℕ) (members : List ℕ) (b : PushBody) (u : Turn) (ns : List ℕ) → Account who here u → Account who here (all_installed c me g members b u ns)
unfolding all_installed
all_installed_kept c me g members b u [] s = posts_all_kept _ _ _ _ _ (with_lead_kept _ s)
all_installed_kept c me g members b u (m ∷ ms) s = with_lead_kept _ s

pub on_pushack_kept : {who : Opened} {here : ℕ} (c : Config) (me n g : ℕ) (u : Turn) (l : Lead) → Account who here u → Account who here (on_pushack c me n g u l)
unfolding on_pushack
on_pushack_kept c me n g u (Installs h members missing b) s = either _ (all_installed_kept _ _ _ _ _ _ _ s) s
on_pushack_kept c me n g u _ s = s

-- ---- takeover runs

send_releases_kept : {who : Opened} {here : ℕ} (me g number : ℕ) (placement : List Assigned) (ns : List ℕ) (u : Turn) → Account who here u → Account who here (send_releases me g number placement ns u)
unfolding send_releases
send_releases_kept me g number placement [] u s = s
send_releases_kept me g number placement (m ∷ ms) u s = send_releases_kept me g number placement ms _ (posts_kept _ _ _ _ s)

pub begin_takeover_kept : {who : Opened} {here : ℕ} (me : ℕ) (able : List ℕ) (u : Turn) (l : Lead) → Account who here u → Account who here (begin_takeover me able u l)
unfolding begin_takeover runs
begin_takeover_kept me able u (Completed g members x) s = either _ (send_releases_kept _ _ _ _ _ _ (makes_kept _ (with_lead_kept _ s))) s
begin_takeover_kept me able u _ s = s

pub on_release_kept : {who : Opened} {here : ℕ} {u : Turn} (me h number : ℕ) (keep : List Address) → Account who here u → Account who here (on_release me h number keep u)
unfolding on_release
on_release_kept _ _ _ _ s = either _ s (posts_kept _ _ _ _ (releases_kept _ _ (with_node_kept _ refl refl s)))

all_released_kept : {who : Opened} {here : ℕ} (me g : ℕ) (members : List ℕ) (x : Takeover) (placement : List Assigned) (u : Turn) (ns : List ℕ) → Account who here u → Account who here (all_released me g members x placement u ns)
unfolding all_released
all_released_kept me g members x placement u [] s = posts_all_kept _ _ _ _ _ (with_lead_kept _ s)
all_released_kept me g members x placement u (m ∷ ms) s = with_lead_kept _ s

released_by_kept : {who : Opened} {here : ℕ} (me n g : ℕ) (members : List ℕ) (x : Takeover) (u : Turn) (r : Run) → Account who here u → Account who here (released_by me n g members x u r)
unfolding released_by
released_by_kept me n g members x u (Releasing placement missing) s = either _ (all_released_kept _ _ _ _ _ _ _ s) s
released_by_kept me n g members x u _ s = s

pub on_releaseack_kept : {who : Opened} {here : ℕ} (me n g number : ℕ) (u : Turn) (l : Lead) → Account who here u → Account who here (on_releaseack me n g number u l)
unfolding on_releaseack
on_releaseack_kept me n g number u (Completed h members x) s = either _ (released_by_kept _ _ _ _ _ _ _ s) s
on_releaseack_kept me n g number u _ s = s

takes_kept : {who : Opened} {here : ℕ} (xs : List Address) (u : Turn) → Account who here u → Account who here (takes xs u)
unfolding takes
takes_kept [] u s = s
takes_kept (a ∷ rest) u s = takes_kept rest _ (notes_kept _ (with_node_kept _ refl refl s))

pub on_take_kept : {who : Opened} {here : ℕ} {u : Turn} (c : Config) (me number : ℕ) (assigned : List Assigned) → Account who here u → Account who here (on_take c me number assigned u)
unfolding on_take
on_take_kept _ _ _ _ s = either _ (takes_kept _ _ (with_node_kept _ refl refl s)) s

-- ---- sending again

update_again_kept : {who : Opened} {here : ℕ} (me db : ℕ) (u : Turn) (x : Option Committing) → Account who here u → Account who here (update_again me db u x)
unfolding update_again
update_again_kept me db u None s = s
update_again_kept me db u (Some x) s = posts_all_kept _ _ _ _ _ s

pub update_in_kept : {who : Opened} {here : ℕ} (me i : ℕ) (dbs : List Database) (u : Turn) → Account who here u → Account who here (update_in me i dbs u)
unfolding update_in
update_in_kept me i [] u s = s
update_in_kept me i (d ∷ ds) u s = update_in_kept me (i + 1) ds _ (update_again_kept _ _ _ _ s)

retry_run_kept : {who : Opened} {here : ℕ} (me g : ℕ) (members : List ℕ) (x : Takeover) (u : Turn) (r : Run) → Account who here u → Account who here (retry_run me g members x u r)
unfolding retry_run
retry_run_kept me g members x u NoRun s = s
retry_run_kept me g members x u (Releasing placement missing) s = send_releases_kept _ _ _ _ _ _ s
retry_run_kept me g members x u (Taking placement) s = posts_all_kept _ _ _ _ _ s

pub retry_lead_kept : {who : Opened} {here : ℕ} (me : ℕ) (u : Turn) (l : Lead) → Account who here u → Account who here (retry_lead me u l)
unfolding retry_lead push_of
retry_lead_kept me u Nothing s = s
retry_lead_kept me u (Freezes g members missing) s = posts_all_kept _ _ _ _ _ s
retry_lead_kept me u (Pulls g members missing x) s = posts_all_kept _ _ _ _ _ s
retry_lead_kept me u (Installs g members missing b) s = posts_all_kept _ _ _ _ _ s
retry_lead_kept me u (Completed g members x) s = either _ (retry_run_kept _ _ _ _ _ _ (posts_all_kept _ _ _ _ _ s)) (posts_all_kept _ _ _ _ _ s)

-- ---- an update of a persistent database

pub updates_stands : (n : ℕ) (who : Opened) (db seq : ℕ) (ws : List Pair) (x : Node) → Stands n who x → Stands n who (with_db db (record (db_at db x) { store = updated seq ws (db_at db x).store }) x)
unfolding with_db state_at db_at AllAscend
updates_stands n who db seq ws x s = same_stands n who x _ (all_set (λ y. Ascends y.records) x.dbs db _ (at_ascends x.dbs db s.order) s.order)
    (λ e key. set_same x.dbs db e _ (λ (y : Database). (or_nothing (look key y.records)).wish) refl)
    (λ e. set_same x.dbs db e _ (λ (y : Database). y.commit) refl) s

pub updates_commit : (db seq : ℕ) (ws : List Pair) (t : Turn) → (db_at db (updates db seq ws (makes seq t)).node).commit ≡ (db_at db t.node).commit
unfolding updates makes with_node with_db db_at
updates_commit db seq ws t = set_same t.node.dbs db db _ (λ (y : Database). y.commit) refl

-- Whatever comes to a node: after it each commit that waits is under its lock, and the node serves.
use Rattle.std.proofs.Common.{◌≡◌, ◌≢◌, ℕ, zero, suc, ◌+◌, Bool, true, false, cond, List, [], ◌∷◌, set, Option, Some, None, refl, sym, ap, ◌∙◌, subst, arith, ⊎_elim}
use Rattle.std.specs.Prelude.{◌&&◌, ◌||◌, slice_get, is_some, nat_eq, nat_lt}
use Rattle.std.specs.Cmp.Lexicographic.{pointwise}
use Rattle.std.proofs.lemmas.Bool.{eq-eqb}
use Rattle.std.proofs.lemmas.Slice.Eq.{bytes_eq-Decides}
use Rattle.ct_values.specs.Words.{others}
use Rattle.ct_values.specs.Client.{db_of, is_read, key_of}
use Rattle.ct_values.specs.declared.client.ClientOp.{ClientOp}
use Rattle.ct_values.specs.declared.client.ClientOp.TheVariants as op
use Rattle.ct_values.specs.declared.client.Pair.{Pair}
use Rattle.ct_values.specs.declared.client.Why.{Why}
use Rattle.ct_values.specs.declared.config.Config.{Config}
use Rattle.ct_frame.specs.declared.event.Event.{Event}
use Rattle.ct_frame.specs.declared.event.Event.TheVariants as event
use Rattle.ct_frame.specs.declared.frame.Assigned.{Assigned}
use Rattle.ct_frame.specs.declared.frame.Frame.{Frame}
use Rattle.ct_frame.specs.declared.frame.Msg.{Msg}
use Rattle.ct_frame.specs.declared.frame.Msg.TheVariants as msg
use Rattle.ct_frame.specs.declared.frame.PTable.{PTable}
use Rattle.ct_frame.specs.declared.frame.TableRow.{TableRow}
use Rattle.ct_call.specs.Rules.{Rules}
use Rattle.ct_store.specs.Map.{Pairs, look}
use Rattle.ct_rules.specs.Parts.{Moving, want}
use Rattle.ct_rules.specs.Moves.{call_again, revoke_again, release}
use Rattle.ct_rules.specs.declared.event.Place.{Place}
use Rattle.ct_rules.specs.declared.state.RecState.{RecState}
use Rattle.ct_rules_node.specs.Node.{Node, Phase, Serving, Installed, Freezing, Frozen, Database, Committing, is_present, is_serving, is_frozen_in, is_present_in, is_persistent, kind_at, name_of, untouched, or_untouched, or_nothing, db_at, with_db, state_at, restarted, opening}
use Rattle.ct_rules_node.specs.Turn.{Turn, does, with_node, with_phase, makes, answers, notes, posts, posts_all}
use Rattle.ct_rules_node.specs.Records.{at_record}
use Rattle.ct_rules_node.specs.Refusals.{refused_if}
use Rattle.ct_rules_node.specs.Databases.{updates, with_commit, awaits_others, commits_at, commit, read_pair}
use Rattle.ct_rules_node.specs.Clients.{is_commit, is_unlock, is_under_lock, is_locked, refusal, may_finish, not_serving, wrong_kind, not_locked, commit_pending, is_name_of_commit, frozen_if_unlocked, unlocks, reads, serves, serves_or, client}
use Rattle.ct_rules_node.specs.Rounds.{Called, want_again, want_all, thaws, pending_calls, freezes, ends_commits, on_freeze, installs, on_push, on_thaw}
use Rattle.ct_rules_node.specs.Retries.{call_all, revoke_all, revoke_in, retry_records, retry}
use Rattle.ct_rules_node.specs.Steps.{on_record_of, if_persistent, if_sound, if_taken_over, arrives, vacuum_all, vacuums, happens}
use Rattle.ct_rules_node.specs.Admission.{record_in}
use Rattle.ct_law_rules_node.proofs.Refusals.{first_none, not_refused, required}
use Rattle.ct_law_plain.proofs.Plainly.{like_set}
use Rattle.ct_law_plain.proofs.Locking.{want_held, want_again_held, store_held, vacuum_held, arrive_held, call_again_held, revoke_again_held}
use Rattle.ct_law_plain.proofs.Locked.{waits_in, locked_in, UnderLock, Locked, CommitLocked, KeepsCommits, keeps_same, keeps_after, either_keeps, locked_kept, locked_none, none_waits, waits_begun, lock_at_record, waits_at_record, phase_at_record, at_record_keeps}
use Rattle.ct_law_plain.proofs.Asides.{alike_same, alike_keeps, begin_round_alike, on_freezeack_alike, on_pull_alike, on_pullreply_alike, on_pushack_alike, begin_takeover_alike, on_release_alike, on_releaseack_alike, on_take_alike, update_in_alike, retry_lead_alike, updates_keeps, on_pupdate_keeps, on_pack_keeps, freeze_ends, frozen_none, installs_none, restarted_none, opening_none}

-- ---- records, one after the other

want_all_keeps : (c : Config) (rules : Rules) (me : ℕ) (xs : List Called) (t : Turn) → KeepsCommits t (want_all c rules me xs t)
unfolding want_all
want_all_keeps c rules me [] t = keeps_same
want_all_keeps c rules me (x ∷ xs) t = keeps_after (at_record_keeps c me x.db x.key (want_again rules) t (want_again_held rules)) (want_all_keeps c rules me xs (at_record c me x.db x.key (want_again rules) t))

call_all_keeps : (c : Config) (me : ℕ) (xs : List Called) (t : Turn) → KeepsCommits t (call_all c me xs t)
unfolding call_all
call_all_keeps c me [] t = keeps_same
call_all_keeps c me (x ∷ xs) t = keeps_after (at_record_keeps c me x.db x.key call_again t call_again_held) (call_all_keeps c me xs (at_record c me x.db x.key call_again t))

revoke_all_keeps : (c : Config) (me db : ℕ) (m : Pairs RecState) (t : Turn) → KeepsCommits t (revoke_all c me db m t)
unfolding revoke_all
revoke_all_keeps c me db [] t = keeps_same
revoke_all_keeps c me db (e ∷ m) t = keeps_after (at_record_keeps c me db e.0 revoke_again t revoke_again_held) (revoke_all_keeps c me db m (at_record c me db e.0 revoke_again t))

revoke_in_keeps : (c : Config) (me i : ℕ) (ds : List Database) (t : Turn) → KeepsCommits t (revoke_in c me i ds t)
unfolding revoke_in
revoke_in_keeps c me i [] t = keeps_same
revoke_in_keeps c me i (d ∷ ds) t = keeps_after (revoke_all_keeps c me i d.records t) (revoke_in_keeps c me (i + 1) ds (revoke_all c me i d.records t))

vacuum_all_keeps : (c : Config) (me db : ℕ) (m : Pairs RecState) (t : Turn) → KeepsCommits t (vacuum_all c me db m t)
unfolding vacuum_all
vacuum_all_keeps c me db [] t = keeps_same
vacuum_all_keeps c me db (e ∷ m) t = keeps_after (at_record_keeps c me db e.0 _ t (vacuum_held (others me t.node.members))) (vacuum_all_keeps c me db m _)

vacuums_keeps : (c : Config) (me db : ℕ) (t : Turn) → KeepsCommits t (vacuums c me db t)
unfolding vacuums
vacuums_keeps c me db t = either_keeps t _ t _ (vacuum_all_keeps c me db _ t) keeps_same

retry_keeps : (c : Config) (me : ℕ) (t : Turn) → KeepsCommits t (retry c me t)
unfolding retry retry_records
retry_keeps c me t = keeps_after
    (either_keeps t _ t _ (keeps_after (call_all_keeps c me (pending_calls t.node) t) (keeps_after (revoke_in_keeps c me 0 t.node.dbs _) (alike_keeps _ _ (update_in_alike me 0 t.node.dbs _ _ (alike_same _))))) keeps_same)
    (alike_keeps _ _ (retry_lead_alike me (retry_records c me t) (retry_records c me t).node.lead))

on_record_of_keeps : (c : Config) (rules : Rules) (me : ℕ) (f : Frame) (t : Turn) (r : Option (ℕ × List ℕ)) → KeepsCommits t (on_record_of c rules me f t r)
unfolding on_record_of
on_record_of_keeps c rules me f t None = keeps_same
on_record_of_keeps c rules me f t (Some r) = either_keeps t _ t _ (at_record_keeps c me r.0 r.1 _ t (arrive_held rules f.sender f.msg)) keeps_same

on_thaw_keeps : (c : Config) (rules : Rules) (me g : ℕ) (t : Turn) (p : Phase) → KeepsCommits t (on_thaw c rules me g t p)
unfolding on_thaw thaws with_phase notes does is_serving
on_thaw_keeps c rules me g t Installed = either_keeps t _ t _ (keeps_after (record { serving = λ h. refl; waits = λ db h. h; locks = λ key h. h }) (want_all_keeps c rules me (pending_calls t.node) _)) keeps_same
on_thaw_keeps c rules me g t _ = keeps_same

-- ---- the refusals of a commit and of an unlock

-- the refusals that matter to locks do not hold
record Allowed (c : Config) (n : Node) (o : ClientOp) : Type 0 where
  kind : wrong_kind c o ≡ None
  serving : not_serving n o ≡ None
  pending : commit_pending c n o ≡ None
  under : not_locked c n o ≡ None

allowed : (c : Config) (rules : Rules) (n : Node) (o : ClientOp) → refusal c rules n o ≡ None → Allowed c n o
unfolding refusal
allowed c rules n o e =
    let db = first_none _ _ e in let kind = first_none _ _ db.1 in let serving = first_none _ _ kind.1 in let wish = first_none _ _ serving.1 in
    let pending = first_none _ _ wish.1 in let lock = first_none _ _ pending.1 in let under = first_none _ _ lock.1 in
    record { kind = kind.0; serving = serving.0; pending = pending.0; under = under.0 }

commit_serving : (n : Node) (db : ℕ) (writes : List Pair) → not_serving n (op.Commit db writes) ≡ None → is_serving n.phase ≡ true
unfolding not_serving may_finish is_under_lock is_read refused_if
commit_serving n db writes e = grind arith

commit_locks : (c : Config) (n : Node) (db : ℕ) (writes : List Pair) → not_locked c n (op.Commit db writes) ≡ None → is_locked 0 (name_of c db) n ≡ true
unfolding not_locked is_under_lock is_commit refused_if
commit_locks c n db writes e = grind arith

-- a commit that is not refused has what it needs
under_lock : (c : Config) (rules : Rules) (n : Node) (db : ℕ) (writes : List Pair) → refusal c rules n (op.Commit db writes) ≡ None → UnderLock c db n.phase n.dbs
unfolding wrong_kind is_commit locked_in is_locked state_at db_at
under_lock c rules n db writes e =
    let a = allowed c rules n (op.Commit db writes) e in
    record { kind = required (is_persistent (kind_at c db)) _ a.kind; serving = commit_serving n db writes a.serving; lock = commit_locks c n db writes a.under }

or_right : (a b : Bool) → cond a true b ≡ false → b ≡ false
or_right true b e = absurd (cc)
or_right false b e = e

-- the name of a database whose commit waits is found
name_found : (c : Config) (key : List ℕ) (i : ℕ) (ds : List Database) (k : ℕ) → waits_in k ds ≡ true → key ≡ name_of c (i + k) → is_name_of_commit c key i ds ≡ true
unfolding waits_in or_untouched untouched is_name_of_commit
name_found c key i [] k w e = absurd (cc)
name_found c key i (d ∷ ds) zero w e =
    let same : pointwise nat_eq key (name_of c i) ≡ true = (bytes_eq-Decides key (name_of c i)).1 (e ∙ ap (name_of c) (omega arith)) in
    rw w (rw same refl)
name_found c key i (d ∷ ds) (suc k) w e =
    let rest = name_found c key (i + 1) ds k w (e ∙ ap (name_of c) (omega arith)) in
    rw rest (or_true (is_some d.commit && pointwise nat_eq key (name_of c i)))
  where
    or_true : (b : Bool) → (b || true) ≡ true
    or_true true = refl
    or_true false = refl

-- an unlock that is not refused is of no such name
pub no_name : (c : Config) (rules : Rules) (n : Node) (db : ℕ) (key : List ℕ) → refusal c rules n (op.Unlock db key) ≡ None → db ≡ 0 → (k : ℕ) → waits_in k n.dbs ≡ true → key ≢ name_of c k
unfolding commit_pending is_unlock is_commit
no_name c rules n db key e zero_db k w same =
    let a = (allowed c rules n (op.Unlock db key) e).pending in
    let f = not_refused _ _ a in
    let t = name_found c key 0 n.dbs k w (same ∙ ap (name_of c) (omega arith)) in
    let z = eq-eqb db 0 zero_db in
    absurd (cc)

-- ---- clients

unlocked : (c : Config) (me db : ℕ) (key : List ℕ) (part : Place → Moving → Moving) (t : Turn) → Locked c t.node.phase t.node.dbs → (db ≡ 0 → (k : ℕ) → waits_in k t.node.dbs ≡ true → key ≢ name_of c k) → CommitLocked c (at_record c me db key part t).node
unfolding Locked
unlocked c me db key part t h other k w =
    let before = waits_at_record c me db key part t k w in
    let l = h k before in
    record { kind = l.kind; serving = ap is_serving (phase_at_record c me db key part t) ∙ l.serving; lock = lock_at_record c me db key part t (name_of c k) (λ e f. absurd (other e k before (sym f))) l.lock }

unlocks_locked : (c : Config) (me call db : ℕ) (key : List ℕ) (t : Turn) (p : Phase) → t.node.phase ≡ p → CommitLocked c t.node → (db ≡ 0 → (k : ℕ) → waits_in k t.node.dbs ≡ true → key ≢ name_of c k) → CommitLocked c (unlocks c me call db key t p).node
unfolding unlocks is_present
unlocks_locked c me call db key t (Freezing g leader) is h other =
    let none = none_waits c t.node.phase t.node.dbs h (ap is_present is) in
    locked_none c _ _ (frozen_none me g leader (at_record c me db key (λ at o. release call o) t) (λ k w. none k (waits_at_record c me db key _ t k w)))
unlocks_locked c me call db key t _ is h other = unlocked c me db key _ t h other

wants_keeps : (c : Config) (rules : Rules) (me call db : ℕ) (key : List ℕ) (asked : ClientOp) (t : Turn) → KeepsCommits t (at_record c me db key (λ at o. want at rules call asked o) t)
wants_keeps c rules me call db key asked t = at_record_keeps c me db key _ t (want_held rules call asked)

reads_keeps : (c : Config) (rules : Rules) (me call db : ℕ) (key : List ℕ) (t : Turn) → KeepsCommits t (reads c rules me call db key t)
unfolding reads read_pair answers does
reads_keeps c rules me call db key t = either_keeps t _ _ _ keeps_same (wants_keeps c rules me call db key (op.Read db key) t)

same_lock : (c : Config) (db : ℕ) (x : Option Committing) (t : Turn) (key : List ℕ) → locked_in key t.node.dbs ≡ true → locked_in key (set t.node.dbs db (record (or_untouched (slice_get t.node.dbs db)) { commit = x })) ≡ true
unfolding locked_in
same_lock c db x t key h = like_set (λ (d : Database). is_some (or_nothing (look key d.records)).locked) t.node.dbs db _ refl 0 ∙ h

-- a commit begins under its lock
begun_locked : (c : Config) (db : ℕ) (x : Option Committing) (t : Turn) → CommitLocked c t.node → UnderLock c db t.node.phase t.node.dbs → CommitLocked c (with_commit db x t).node
unfolding with_commit with_node with_db db_at Locked
begun_locked c db x t h own k w = ⊎_elim (λ (is : k ≡ db). held (subst (λ (i : ℕ). UnderLock c i t.node.phase t.node.dbs) (sym is) own)) (λ (before : waits_in k t.node.dbs ≡ true). held (h k before)) (waits_begun t.node.dbs db _ k w)
  where
    held : UnderLock c k t.node.phase t.node.dbs → UnderLock c k t.node.phase (set t.node.dbs db (record (or_untouched (slice_get t.node.dbs db)) { commit = x }))
    held l = record { kind = l.kind; serving = l.serving; lock = same_lock c db x t (name_of c k) l.lock }

posts_all_locked : (c : Config) (g me : ℕ) (m : Msg) (ns : List ℕ) (t : Turn) → CommitLocked c t.node → CommitLocked c (posts_all g me ns m t).node
unfolding posts_all posts does
posts_all_locked c g me m [] t h = h
posts_all_locked c g me m (n ∷ ns) t h = posts_all_locked c g me m ns (posts g me n m t) h

awaits_locked : (c : Config) (me call db seq : ℕ) (writes : List Pair) (ns : List ℕ) (t : Turn) → CommitLocked c t.node → UnderLock c db t.node.phase t.node.dbs → CommitLocked c (awaits_others me call db seq writes ns t).node
unfolding awaits_others answers does
awaits_locked c me call db seq writes [] t h own = h
awaits_locked c me call db seq writes (n ∷ ns) t h own = posts_all_locked c _ me _ (n ∷ ns) _ (begun_locked c db _ t h own)

commit_locked_on : (c : Config) (me call db : ℕ) (writes : List Pair) (t : Turn) → CommitLocked c t.node → UnderLock c db t.node.phase t.node.dbs → CommitLocked c (commit me call db writes t).node
unfolding commit commits_at makes
commit_locked_on c me call db writes t h own =
    let seq = (db_at db t.node).store.seq + 1 in
    let k = updates_keeps db seq writes (makes seq t) in
    awaits_locked c me call db seq writes _ (updates db seq writes (makes seq t)) (locked_kept c _ _ _ _ k h) (record { kind = own.kind; serving = k.serving own.serving; lock = k.locks (name_of c db) own.lock })

serves_locked : (c : Config) (rules : Rules) (me call : ℕ) (t : Turn) (asked : ClientOp) → refusal c rules t.node asked ≡ None → CommitLocked c t.node → CommitLocked c (serves c rules me call t asked).node
unfolding serves
serves_locked c rules me call t (op.Read db key) e h = locked_kept c _ _ _ _ (reads_keeps c rules me call db key t) h
serves_locked c rules me call t (op.Store db key v) e h = locked_kept c _ _ _ _ (at_record_keeps c me db key _ t (λ at o held. store_held call v o held)) h
serves_locked c rules me call t (op.Unlock db key) e h = unlocks_locked c me call db key t t.node.phase refl h (no_name c rules t.node db key e)
serves_locked c rules me call t (op.Commit db writes) e h = commit_locked_on c me call db writes t h (under_lock c rules t.node db writes e)
serves_locked c rules me call t (op.Lock db key) e h = locked_kept c _ _ _ _ (wants_keeps c rules me call db key (op.Lock db key) t) h
serves_locked c rules me call t (op.Write db key v) e h = locked_kept c _ _ _ _ (wants_keeps c rules me call db key (op.Write db key v) t) h
serves_locked c rules me call t (op.Apply db key f arg) e h = locked_kept c _ _ _ _ (wants_keeps c rules me call db key (op.Apply db key f arg) t) h

serves_or_locked : (c : Config) (rules : Rules) (me call : ℕ) (t : Turn) (asked : ClientOp) (w : Option Why) → refusal c rules t.node asked ≡ w → CommitLocked c t.node → CommitLocked c (serves_or c rules me call asked (makes call t) w).node
unfolding serves_or answers does makes
serves_or_locked c rules me call t asked (Some w) e h = h
serves_or_locked c rules me call t asked None e h = serves_locked c rules me call (makes call t) asked e h

-- ---- a freeze and an installation

on_freeze_locked : (c : Config) (me h g : ℕ) (t : Turn) → CommitLocked c t.node → CommitLocked c (on_freeze c me h g t).node
unfolding on_freeze posts does
on_freeze_locked c me h g t k = either (nat_lt t.node.promise g) (is_frozen_in g t.node.phase)
  where
    either : (b d : Bool) → CommitLocked c (cond b (frozen_if_unlocked me g h (ends_commits c 0 t.node.dbs (freezes g h t))) (cond d (posts g me h msg.FreezeAck t) t)).node
    either true d = locked_none c _ _ (frozen_none me g h _ (freeze_ends c g h t))
    either false true = k
    either false false = k

pub not_present : (g : ℕ) (p : Phase) → is_frozen_in g p ≡ true → is_present p ≡ false
unfolding is_frozen_in is_present
not_present g (Frozen h) e = refl
not_present g _ e = absurd (cc)

on_push_locked : (c : Config) (me h g : ℕ) (members : List ℕ) (table : List TableRow) (ptables : List PTable) (assigned : List Assigned) (t : Turn) → CommitLocked c t.node → CommitLocked c (on_push c me h g members table ptables assigned t).node
unfolding on_push posts does
on_push_locked c me h g members table ptables assigned t k = either (is_frozen_in g t.node.phase) (is_present_in g t.node) refl
  where
    either : (b d : Bool) → is_frozen_in g t.node.phase ≡ b → CommitLocked c (cond b (posts g me h msg.PushAck (installs c me h g members table ptables assigned t)) (cond d (posts g me h msg.PushAck t) t)).node
    either true d e = locked_none c _ _ (installs_none c me h g members table ptables assigned t (none_waits c t.node.phase t.node.dbs k (not_present g t.node.phase e)))
    either false true e = k
    either false false e = k

-- ---- every event

either_locked : (c : Config) (t u : Turn) (b : Bool) → CommitLocked c u.node → CommitLocked c t.node → CommitLocked c (cond b u t).node
either_locked c t u true h k = h
either_locked c t u false h k = k

unless_dropped : (c : Config) (t u : Turn) (b : Bool) → KeepsCommits t u → CommitLocked c t.node → CommitLocked c (cond b u t).node
unless_dropped c t u b k h = either_locked c t u b (locked_kept c _ _ _ _ k h) h

arrives_locked : (c : Config) (rules : Rules) (me : ℕ) (f : Frame) (t : Turn) (m : Msg) → CommitLocked c t.node → CommitLocked c (arrives c rules me f t m).node
unfolding arrives if_persistent if_sound if_taken_over
arrives_locked c rules me f t (msg.PUpdate db seq writes) h = unless_dropped c t _ _ (on_pupdate_keeps me f.sender db seq writes t) h
arrives_locked c rules me f t (msg.PAck db seq) h = unless_dropped c t _ _ (on_pack_keeps f.sender db seq t) h
arrives_locked c rules me f t (msg.Freeze members) h = either_locked c t _ _ (on_freeze_locked c me f.sender f.generation t h) h
arrives_locked c rules me f t msg.FreezeAck h = unless_dropped c t _ _ (alike_keeps t _ (on_freezeack_alike me f.sender f.generation t t.node.lead)) h
arrives_locked c rules me f t msg.Pull h = unless_dropped c t _ _ (alike_keeps t _ (on_pull_alike c me f.sender f.generation t)) h
arrives_locked c rules me f t (msg.PullReply vbase pbase table ptables addresses) h = unless_dropped c t _ _ (alike_keeps t _ (on_pullreply_alike me f.generation _ t t.node.lead)) h
arrives_locked c rules me f t (msg.Push members table ptables assigned) h = either_locked c t _ _ (on_push_locked c me f.sender f.generation members table ptables assigned t h) h
arrives_locked c rules me f t msg.PushAck h = unless_dropped c t _ _ (alike_keeps t _ (on_pushack_alike c me f.sender f.generation t t.node.lead)) h
arrives_locked c rules me f t msg.Thaw h = unless_dropped c t _ _ (on_thaw_keeps c rules me f.generation t t.node.phase) h
arrives_locked c rules me f t (msg.Release number keep) h = unless_dropped c t _ _ (alike_keeps t _ (on_release_alike me f.sender number keep t)) h
arrives_locked c rules me f t (msg.ReleaseAck number) h = unless_dropped c t _ _ (alike_keeps t _ (on_releaseack_alike me f.sender f.generation number t t.node.lead)) h
arrives_locked c rules me f t (msg.Take number assigned) h = unless_dropped c t _ _ (alike_keeps t _ (on_take_alike c me number assigned t)) h
arrives_locked c rules me f t m h = locked_kept c _ _ _ _ (on_record_of_keeps c rules me f t (record_in m)) h

-- whatever comes: it stays so
pub happens_locked : (c : Config) (rules : Rules) (me : ℕ) (t : Turn) (e : Event) → CommitLocked c t.node → CommitLocked c (happens c rules me t e).node
unfolding happens client
happens_locked c rules me t (event.Client call asked) h = serves_or_locked c rules me call t asked (refusal c rules t.node asked) refl h
happens_locked c rules me t (event.Arrive f) h = arrives_locked c rules me f t f.msg h
happens_locked c rules me t event.Retry h = locked_kept c _ _ _ _ (retry_keeps c me t) h
happens_locked c rules me t (event.Vacuum db) h = locked_kept c _ _ _ _ (vacuums_keeps c me db t) h
happens_locked c rules me t (event.BeginRound ticket members) h = locked_kept c _ _ _ _ (alike_keeps t _ (begin_round_alike me ticket members t)) h
happens_locked c rules me t (event.BeginTakeover able) h = locked_kept c _ _ _ _ (alike_keeps t _ (begin_takeover_alike me able t t.node.lead)) h

-- so it is at the beginning, and after a stop
pub opening_locked : (c : Config) (members : List ℕ) → CommitLocked c (opening c members)
opening_locked c members = locked_none c _ _ (opening_none c members)

pub restarted_locked : (c : Config) (n : Node) → CommitLocked c (restarted c n)
restarted_locked c n = locked_none c _ _ (restarted_none c n)

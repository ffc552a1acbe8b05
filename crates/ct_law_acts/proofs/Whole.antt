-- Whatever comes to a node: every call that waits after it waited before, or is the call of the event.
use Rattle.std.proofs.Common.{◌≡◌, ℕ, ◌+◌, Bool, true, false, cond, List, [], ◌∷◌, Option, Some, None, refl, sym, subst, arith}
use Rattle.ct_values.specs.Words.{others}
use Rattle.ct_values.specs.Client.{db_of, key_of}
use Rattle.ct_values.specs.declared.client.ClientOp.{ClientOp}
use Rattle.ct_values.specs.declared.client.ClientOp.TheVariants as op
use Rattle.ct_values.specs.declared.client.Pair.{Pair}
use Rattle.ct_values.specs.declared.client.Why.{Why}
use Rattle.ct_values.specs.declared.config.Config.{Config}
use Rattle.ct_frame.specs.declared.event.Event.{Event}
use Rattle.ct_frame.specs.declared.event.Event.TheVariants as event
use Rattle.ct_frame.specs.declared.frame.Assigned.{Assigned}
use Rattle.ct_frame.specs.declared.frame.Frame.{Frame}
use Rattle.ct_frame.specs.declared.frame.Msg.{Msg}
use Rattle.ct_frame.specs.declared.frame.Msg.TheVariants as msg
use Rattle.ct_frame.specs.declared.frame.PTable.{PTable}
use Rattle.ct_frame.specs.declared.frame.TableRow.{TableRow}
use Rattle.ct_call.specs.Rules.{Rules}
use Rattle.ct_store.specs.Map.{Pairs}
use Rattle.ct_rules.specs.Parts.{Moving, send, performs, keeps, want}
use Rattle.ct_rules.specs.Moves.{call_again_of, call_again, revoke_again_of, revoke_again, release}
use Rattle.ct_rules.specs.declared.event.Place.{Place}
use Rattle.ct_rules.specs.declared.state.RecState.{RecState}
use Rattle.ct_rules.specs.declared.state.Wish.{Wish}
use Rattle.ct_rules_node.specs.Node.{Node, Phase, Installed, Freezing, Frozen, Database, Committing, is_frozen_in, is_present_in, is_persistent, kind_at, db_at, with_db, state_at, opening, restarted}
use Rattle.ct_rules_node.specs.Turn.{Turn, does, with_node, with_phase, makes, answers, notes, posts, posts_all}
use Rattle.ct_rules_node.specs.Records.{with_state, at_record}
use Rattle.ct_rules_node.specs.Databases.{updates, with_commit, awaits_others, commits_at, commit, acknowledges, on_pupdate, on_pack_of, on_pack, read_pair}
use Rattle.ct_rules_node.specs.Clients.{refusal, frozen_if_unlocked, any_locked, unlocks, reads, serves, serves_or, client}
use Rattle.ct_rules_node.specs.Rounds.{Called, want_again_of, want_again, want_all, thaws, pending_calls, freezes, ends_lock, ends_commit, ends_commits, on_freeze, installed_node, makes_rows, installs, on_push, on_thaw}
use Rattle.ct_rules_node.specs.Retries.{call_all, revoke_all, revoke_in, retry_records, retry}
use Rattle.ct_rules_node.specs.Steps.{on_record_of, if_persistent, if_sound, if_taken_over, arrives, vacuum_all, vacuums, happens}
use Rattle.ct_rules_node.specs.Admission.{record_in}
use Rattle.ct_law_wishes.proofs.Wishing.{Wishful, send_all_same, want_wish, store_wish, release_wish, unlock_wish, vacuum_wish, arrive_wish}
use Rattle.ct_law_plain.proofs.Asides.{Alike, alike_same, begin_round_alike, on_freezeack_alike, on_pull_alike, on_pullreply_alike, on_pushack_alike, begin_takeover_alike, on_release_alike, on_releaseack_alike, on_take_alike, update_in_alike, retry_lead_alike, releases_alike}
use Rattle.ct_law_acts.proofs.Waiting.{OfCommit, EachCall, KeepsWish, kept_wish, look_wish, calls_set, calls_at, at_record_calls, frozen_calls, installed_calls, restarted_calls, untouched_calls}

module _ (P : ℕ → List ℕ → ℕ → ClientOp → Type 0) (Q : ℕ → ℕ → List Pair → Type 0) where
  -- what all calls that wait at a node have
  abbrev pub CallsAre : Node → Type 0
  CallsAre n = EachCall P Q 0 n.dbs

  alike_calls : (t u : Turn) → Alike t u → CallsAre t.node → CallsAre u.node
  alike_calls t u a h = subst (λ (ds : List Database). EachCall P Q 0 ds) (sym a.dbs) h

  either_calls : (t u : Turn) (b : Bool) → CallsAre t.node → CallsAre u.node → CallsAre (cond b t u).node
  either_calls t u true h k = h
  either_calls t u false h k = k

  -- ---- records

  want_again_of_calls : (db : ℕ) (key : List ℕ) (rules : Rules) (at : Place) (o : Moving) (w : Option Wish) → Wishful (P db key) w → Wishful (P db key) o.state.wish → Wishful (P db key) (want_again_of at rules o w).state.wish
  unfolding want_again_of Wishful keeps
  want_again_of_calls db key rules at o None own h = h
  want_again_of_calls db key rules at o (Some w) own h = want_wish (P db key) at rules w.call w.op (keeps (record o.state { wish = None }) o) own tt

  pub want_again_calls : (db : ℕ) (key : List ℕ) (rules : Rules) → KeepsWish P Q db key (want_again rules)
  unfolding want_again
  want_again_calls db key rules at o h = want_again_of_calls db key rules at o o.state.wish h h

  pub call_again_calls : (db : ℕ) (key : List ℕ) → KeepsWish P Q db key call_again
  unfolding call_again call_again_of send performs
  call_again_calls db key at o h = grind (arith, h)

  pub revoke_again_calls : (db : ℕ) (key : List ℕ) → KeepsWish P Q db key revoke_again
  unfolding revoke_again revoke_again_of
  revoke_again_calls db key at o h = grind (arith, h, send_all_same)

  want_all_calls : (c : Config) (rules : Rules) (me : ℕ) (xs : List Called) (t : Turn) → CallsAre t.node → CallsAre (want_all c rules me xs t).node
  unfolding want_all
  want_all_calls c rules me [] t h = h
  want_all_calls c rules me (x ∷ xs) t h = want_all_calls c rules me xs _ (at_record_calls P Q c me x.db x.key (want_again rules) t (want_again_calls x.db x.key rules) h)

  pub call_all_calls : (c : Config) (me : ℕ) (xs : List Called) (t : Turn) → CallsAre t.node → CallsAre (call_all c me xs t).node
  unfolding call_all
  call_all_calls c me [] t h = h
  call_all_calls c me (x ∷ xs) t h = call_all_calls c me xs _ (at_record_calls P Q c me x.db x.key call_again t (call_again_calls x.db x.key) h)

  revoke_all_calls : (c : Config) (me db : ℕ) (m : Pairs RecState) (t : Turn) → CallsAre t.node → CallsAre (revoke_all c me db m t).node
  unfolding revoke_all
  revoke_all_calls c me db [] t h = h
  revoke_all_calls c me db (e ∷ m) t h = revoke_all_calls c me db m _ (at_record_calls P Q c me db e.0 revoke_again t (revoke_again_calls db e.0) h)

  revoke_in_calls : (c : Config) (me i : ℕ) (ds : List Database) (t : Turn) → CallsAre t.node → CallsAre (revoke_in c me i ds t).node
  unfolding revoke_in
  revoke_in_calls c me i [] t h = h
  revoke_in_calls c me i (d ∷ ds) t h = revoke_in_calls c me (i + 1) ds _ (revoke_all_calls c me i d.records t h)

  retry_calls : (c : Config) (me : ℕ) (t : Turn) → CallsAre t.node → CallsAre (retry c me t).node
  unfolding retry retry_records
  retry_calls c me t h = alike_calls _ _ (retry_lead_alike me (retry_records c me t) (retry_records c me t).node.lead)
      (either_calls _ t _ (alike_calls _ _ (update_in_alike me 0 t.node.dbs _ _ (alike_same _)) (revoke_in_calls c me 0 t.node.dbs _ (call_all_calls c me (pending_calls t.node) t h))) h)

  vacuum_all_calls : (c : Config) (me db : ℕ) (m : Pairs RecState) (t : Turn) → CallsAre t.node → CallsAre (vacuum_all c me db m t).node
  unfolding vacuum_all
  vacuum_all_calls c me db [] t h = h
  vacuum_all_calls c me db (e ∷ m) t h = vacuum_all_calls c me db m _ (at_record_calls P Q c me db e.0 _ t (λ at o k. vacuum_wish (P db e.0) at (others me t.node.members) o k) h)

  vacuums_calls : (c : Config) (me db : ℕ) (t : Turn) → CallsAre t.node → CallsAre (vacuums c me db t).node
  unfolding vacuums
  vacuums_calls c me db t h = either_calls _ t _ (vacuum_all_calls c me db _ t h) h

  on_record_of_calls : (c : Config) (rules : Rules) (me : ℕ) (f : Frame) (t : Turn) (r : Option (ℕ × List ℕ)) → CallsAre t.node → CallsAre (on_record_of c rules me f t r).node
  unfolding on_record_of
  on_record_of_calls c rules me f t None h = h
  on_record_of_calls c rules me f t (Some r) h = either_calls _ t _ (at_record_calls P Q c me r.0 r.1 _ t (λ at o k. arrive_wish (P r.0 r.1) at rules f.sender f.msg o k) h) h

  on_thaw_calls : (c : Config) (rules : Rules) (me g : ℕ) (t : Turn) (p : Phase) → CallsAre t.node → CallsAre (on_thaw c rules me g t p).node
  unfolding on_thaw thaws with_phase notes does
  on_thaw_calls c rules me g t Installed h = either_calls _ t _ (want_all_calls c rules me (pending_calls t.node) _ h) h
  on_thaw_calls c rules me g t _ h = h

  -- ---- commits

  updates_calls : (db seq : ℕ) (writes : List Pair) (t : Turn) → CallsAre t.node → CallsAre (updates db seq writes t).node
  unfolding updates with_node with_db db_at
  updates_calls db seq writes t h = calls_set P Q db t.node.dbs _ (λ d. record { wishes = d.wishes; commit = d.commit }) h

  on_pupdate_calls : (me sender db seq : ℕ) (writes : List Pair) (t : Turn) → CallsAre t.node → CallsAre (on_pupdate me sender db seq writes t).node
  unfolding on_pupdate acknowledges posts does
  on_pupdate_calls me sender db seq writes t h = either_calls _ _ _ (updates_calls db seq writes t h) (updates_calls db seq writes t h)

  with_commit_calls : (db : ℕ) (x : Option Committing) (t : Turn) → OfCommit P Q db x → CallsAre t.node → CallsAre (with_commit db x t).node
  unfolding with_commit with_node with_db db_at
  with_commit_calls db x t own h = calls_set P Q db t.node.dbs _ (λ d. record { wishes = d.wishes; commit = own }) h

  acked_commit : (db : ℕ) (x : Committing) (y : Committing) → y.call ≡ x.call → y.writes ≡ x.writes → OfCommit P Q db (Some x) → OfCommit P Q db (Some y)
  unfolding OfCommit
  acked_commit db x y e f h = rw e (rw f h)

  no_commit : (db : ℕ) → OfCommit P Q db None
  unfolding OfCommit
  no_commit db = tt

  on_pack_of_calls : (n db seq : ℕ) (t : Turn) (x : Option Committing) → OfCommit P Q db x → CallsAre t.node → CallsAre (on_pack_of n db seq t x).node
  unfolding on_pack_of answers does
  on_pack_of_calls n db seq t None own h = h
  on_pack_of_calls n db seq t (Some x) own h = either_calls _ _ _ (with_commit_calls db None t (no_commit db) h) (with_commit_calls db _ t (acked_commit db x _ refl refl own) h)

  on_pack_calls : (n db seq : ℕ) (t : Turn) → CallsAre t.node → CallsAre (on_pack n db seq t).node
  unfolding on_pack db_at
  on_pack_calls n db seq t h = on_pack_of_calls n db seq t _ (calls_at P Q db t.node.dbs h).commit h

  posts_all_calls : (g me : ℕ) (m : Msg) (ns : List ℕ) (t : Turn) → CallsAre t.node → CallsAre (posts_all g me ns m t).node
  unfolding posts_all posts does
  posts_all_calls g me m [] t h = h
  posts_all_calls g me m (n ∷ ns) t h = posts_all_calls g me m ns (posts g me n m t) h

  awaits_calls : (me call db seq : ℕ) (writes : List Pair) (ns : List ℕ) (t : Turn) → Q db call writes → CallsAre t.node → CallsAre (awaits_others me call db seq writes ns t).node
  unfolding awaits_others answers does OfCommit
  awaits_calls me call db seq writes [] t own h = h
  awaits_calls me call db seq writes (n ∷ ns) t own h = posts_all_calls _ me _ (n ∷ ns) _ (with_commit_calls db _ t own h)

  commit_calls : (me call db : ℕ) (writes : List Pair) (t : Turn) → Q db call writes → CallsAre t.node → CallsAre (commit me call db writes t).node
  unfolding commit commits_at makes
  commit_calls me call db writes t own h = awaits_calls me call db _ writes _ _ own (updates_calls db _ writes (makes _ t) h)

  -- ---- a freeze and an installation

  ends_lock_calls : (name : List ℕ) (t : Turn) → CallsAre t.node → CallsAre (ends_lock name t).node
  unfolding ends_lock notes does with_node with_state with_db db_at state_at
  ends_lock_calls name t h = calls_set P Q 0 t.node.dbs _ (λ d. record { wishes = kept_wish P Q 0 name _ _ (look_wish P Q 0 name _ d.wishes) d.wishes; commit = d.commit }) h

  ends_commit_calls : (db : ℕ) (name : List ℕ) (t : Turn) (x : Option Committing) → CallsAre t.node → CallsAre (ends_commit db name t x).node
  unfolding ends_commit answers does OfCommit
  ends_commit_calls db name t None h = h
  ends_commit_calls db name t (Some x) h = ends_lock_calls name _ (with_commit_calls db None _ tt h)

  ends_commits_calls : (c : Config) (i : ℕ) (ds : List Database) (t : Turn) → CallsAre t.node → CallsAre (ends_commits c i ds t).node
  unfolding ends_commits
  ends_commits_calls c i [] t h = h
  ends_commits_calls c i (d ∷ ds) t h = ends_commits_calls c (i + 1) ds _ (ends_commit_calls i _ t d.commit h)

  frozen_if_calls : (me g leader : ℕ) (t : Turn) → CallsAre t.node → CallsAre (frozen_if_unlocked me g leader t).node
  unfolding frozen_if_unlocked posts does with_phase
  frozen_if_calls me g leader t h = either_calls t (posts g me leader msg.FreezeAck (with_phase (Frozen g) t)) (any_locked t.node.dbs) h h

  on_freeze_calls : (c : Config) (me k g : ℕ) (t : Turn) → CallsAre t.node → CallsAre (on_freeze c me k g t).node
  unfolding on_freeze freezes with_node posts does
  on_freeze_calls c me k g t h = either_calls _ _ _ (frozen_if_calls me g k _ (ends_commits_calls c 0 t.node.dbs (freezes g k t) (frozen_calls P Q 0 t.node.dbs h)))
      (either_calls (posts g me k msg.FreezeAck t) t (is_frozen_in g t.node.phase) h h)

  installs_calls : (c : Config) (me k g : ℕ) (members : List ℕ) (table : List TableRow) (ptables : List PTable) (assigned : List Assigned) (t : Turn) → CallsAre t.node → CallsAre (installs c me k g members table ptables assigned t).node
  unfolding installs notes does with_node installed_node
  installs_calls c me k g members table ptables assigned t h =
      alike_calls _ _ (releases_alike _ _ _ (alike_same (notes _ (with_node (installed_node c me k g members table ptables assigned t.node) (makes_rows me members table t))))) (installed_calls P Q me 0 members table ptables t.node.dbs h)

  on_push_calls : (c : Config) (me k g : ℕ) (members : List ℕ) (table : List TableRow) (ptables : List PTable) (assigned : List Assigned) (t : Turn) → CallsAre t.node → CallsAre (on_push c me k g members table ptables assigned t).node
  unfolding on_push posts does
  on_push_calls c me k g members table ptables assigned t h = either_calls (posts g me k msg.PushAck (installs c me k g members table ptables assigned t)) _ _ (installs_calls c me k g members table ptables assigned t h)
      (either_calls (posts g me k msg.PushAck t) t (is_present_in g t.node) h h)

  -- ---- clients

  -- what the call of an event is to have, where it may wait: an unlock does not
  unfoldable pub IsNew : Config → Rules → Node → ℕ → ClientOp → Type 0
  IsNew c rules n call (op.Commit db writes) = refusal c rules n (op.Commit db writes) ≡ None → Q db call writes
  IsNew c rules n call (op.Read db key) = refusal c rules n (op.Read db key) ≡ None → is_persistent (kind_at c db) ≡ false → P db key call (op.Read db key)
  IsNew c rules n call (op.Unlock db key) = Unit {0}
  IsNew c rules n call asked = refusal c rules n asked ≡ None → P (db_of asked) (key_of asked) call asked

  wants_calls : (c : Config) (rules : Rules) (me call db : ℕ) (key : List ℕ) (asked : ClientOp) (t : Turn) → P db key call asked → CallsAre t.node → CallsAre (at_record c me db key (λ at o. want at rules call asked o) t).node
  wants_calls c rules me call db key asked t own h = at_record_calls P Q c me db key _ t (λ at o k. want_wish (P db key) at rules call asked o own k) h

  unlocks_calls : (c : Config) (me call db : ℕ) (key : List ℕ) (t : Turn) (p : Phase) → CallsAre t.node → CallsAre (unlocks c me call db key t p).node
  unfolding unlocks
  unlocks_calls c me call db key t (Freezing g leader) h = frozen_if_calls me g leader _ (at_record_calls P Q c me db key (λ at o. release call o) t (λ at o k. release_wish (P db key) call o k) h)
  unlocks_calls c me call db key t _ h = at_record_calls P Q c me db key _ t (λ at o k. unlock_wish (P db key) at call o k) h

  reads_calls : (c : Config) (rules : Rules) (me call db : ℕ) (key : List ℕ) (t : Turn) → (is_persistent (kind_at c db) ≡ false → P db key call (op.Read db key)) → CallsAre t.node → CallsAre (reads c rules me call db key t).node
  unfolding reads read_pair answers does
  reads_calls c rules me call db key t own h = by (is_persistent (kind_at c db)) refl
    where
      by : (b : Bool) → is_persistent (kind_at c db) ≡ b → CallsAre (cond b (read_pair call db key t) (at_record c me db key (λ at o. want at rules call (op.Read db key) o) t)).node
      by true e = h
      by false e = wants_calls c rules me call db key (op.Read db key) t (own e) h

  serves_calls : (c : Config) (rules : Rules) (me call : ℕ) (t : Turn) (asked : ClientOp) → refusal c rules t.node asked ≡ None → IsNew c rules t.node call asked → CallsAre t.node → CallsAre (serves c rules me call t asked).node
  unfolding serves IsNew
  serves_calls c rules me call t (op.Read db key) e own h = reads_calls c rules me call db key t (own e) h
  serves_calls c rules me call t (op.Store db key v) e own h = at_record_calls P Q c me db key _ t (λ at o k. store_wish (P db key) call v o k) h
  serves_calls c rules me call t (op.Unlock db key) e own h = unlocks_calls c me call db key t t.node.phase h
  serves_calls c rules me call t (op.Commit db writes) e own h = commit_calls me call db writes t (own e) h
  serves_calls c rules me call t (op.Lock db key) e own h = wants_calls c rules me call db key (op.Lock db key) t (own e) h
  serves_calls c rules me call t (op.Write db key v) e own h = wants_calls c rules me call db key (op.Write db key v) t (own e) h
  serves_calls c rules me call t (op.Apply db key f arg) e own h = wants_calls c rules me call db key (op.Apply db key f arg) t (own e) h

  serves_or_calls : (c : Config) (rules : Rules) (me call : ℕ) (t : Turn) (asked : ClientOp) (w : Option Why) → refusal c rules t.node asked ≡ w → IsNew c rules t.node call asked → CallsAre t.node → CallsAre (serves_or c rules me call asked (makes call t) w).node
  unfolding serves_or answers does makes
  serves_or_calls c rules me call t asked (Some w) e own h = h
  serves_or_calls c rules me call t asked None e own h = serves_calls c rules me call (makes call t) asked e own h

  -- ---- every event

  arrives_calls : (c : Config) (rules : Rules) (me : ℕ) (f : Frame) (t : Turn) (m : Msg) → CallsAre t.node → CallsAre (arrives c rules me f t m).node
  unfolding arrives if_persistent if_sound if_taken_over
  arrives_calls c rules me f t (msg.PUpdate db seq writes) h = either_calls _ t _ (on_pupdate_calls me f.sender db seq writes t h) h
  arrives_calls c rules me f t (msg.PAck db seq) h = either_calls _ t _ (on_pack_calls f.sender db seq t h) h
  arrives_calls c rules me f t (msg.Freeze members) h = either_calls _ t _ (on_freeze_calls c me f.sender f.generation t h) h
  arrives_calls c rules me f t msg.FreezeAck h = either_calls _ t _ (alike_calls t _ (on_freezeack_alike me f.sender f.generation t t.node.lead) h) h
  arrives_calls c rules me f t msg.Pull h = either_calls _ t _ (alike_calls t _ (on_pull_alike c me f.sender f.generation t) h) h
  arrives_calls c rules me f t (msg.PullReply vbase pbase table ptables addresses) h = either_calls _ t _ (alike_calls t _ (on_pullreply_alike me f.generation _ t t.node.lead) h) h
  arrives_calls c rules me f t (msg.Push members table ptables assigned) h = either_calls _ t _ (on_push_calls c me f.sender f.generation members table ptables assigned t h) h
  arrives_calls c rules me f t msg.PushAck h = either_calls _ t _ (alike_calls t _ (on_pushack_alike c me f.sender f.generation t t.node.lead) h) h
  arrives_calls c rules me f t msg.Thaw h = either_calls _ t _ (on_thaw_calls c rules me f.generation t t.node.phase h) h
  arrives_calls c rules me f t (msg.Release number keep) h = either_calls _ t _ (alike_calls t _ (on_release_alike me f.sender number keep t) h) h
  arrives_calls c rules me f t (msg.ReleaseAck number) h = either_calls _ t _ (alike_calls t _ (on_releaseack_alike me f.sender f.generation number t t.node.lead) h) h
  arrives_calls c rules me f t (msg.Take number assigned) h = either_calls _ t _ (alike_calls t _ (on_take_alike c me number assigned t) h) h
  arrives_calls c rules me f t m h = on_record_of_calls c rules me f t (record_in m) h

  -- what the call of an event is to have
  unfoldable pub IsNewCall : Config → Rules → Node → Event → Type 0
  IsNewCall c rules n (event.Client call asked) = IsNew c rules n call asked
  IsNewCall c rules n e = Unit {0}

  -- whatever comes: it stays so
  pub happens_calls : (c : Config) (rules : Rules) (me : ℕ) (t : Turn) (e : Event) → IsNewCall c rules t.node e → CallsAre t.node → CallsAre (happens c rules me t e).node
  unfolding happens client IsNewCall
  happens_calls c rules me t (event.Client call asked) own h = serves_or_calls c rules me call t asked (refusal c rules t.node asked) refl own h
  happens_calls c rules me t (event.Arrive f) own h = arrives_calls c rules me f t f.msg h
  happens_calls c rules me t event.Retry own h = retry_calls c me t h
  happens_calls c rules me t (event.Vacuum db) own h = vacuums_calls c me db t h
  happens_calls c rules me t (event.BeginRound ticket members) own h = alike_calls t _ (begin_round_alike me ticket members t) h
  happens_calls c rules me t (event.BeginTakeover able) own h = alike_calls t _ (begin_takeover_alike me able t t.node.lead) h

  pub opening_calls : (c : Config) (members : List ℕ) → CallsAre (opening c members)
  unfolding opening
  opening_calls c members = untouched_calls P Q 0 c.dbs

  pub stopped_calls : (c : Config) (n : Node) → CallsAre (restarted c n)
  unfolding restarted
  stopped_calls c n = restarted_calls P Q 0 n.dbs

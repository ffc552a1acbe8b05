-- A node removes a record only as its location master, which then has no entry of it: so it is of every event.
use Rattle.std.proofs.Common.{◌≡◌, ◌≢◌, ℕ, ◌+◌, Bool, true, false, List, [], ◌∷◌, Option, Some, None, refl, sym, ap, ◌∙◌, subst, ⊎_elim}
use Rattle.std.specs.Prelude.{◌⊎◌, ◌&&◌}
use Rattle.std.specs.List.{AllByRecursion}
use Rattle.std.specs.List.Sorted.{IsStrictlySortedBy}
use Rattle.std.specs.Map.{keys_of}
use Rattle.std.specs.Ordering.{is_eq}
use Rattle.std.specs.declared.cmp.Ordering.TheVariants.{Less}
use Rattle.std.proofs.lemmas.Bool.{cond_both, cases_Bool}
use Rattle.ct_values.specs.Key.{key_cmp}
use Rattle.ct_values.specs.Words.{others}
use Rattle.ct_values.specs.declared.client.ClientOp.{ClientOp}
use Rattle.ct_values.specs.declared.client.ClientOp.TheVariants as op
use Rattle.ct_values.specs.declared.client.Why.{Why}
use Rattle.ct_values.specs.declared.config.Config.{Config}
use Rattle.ct_frame.specs.declared.event.Event.{Event}
use Rattle.ct_frame.specs.declared.event.Event.TheVariants as event
use Rattle.ct_frame.specs.declared.frame.Frame.{Frame}
use Rattle.ct_frame.specs.declared.frame.Msg.{Msg}
use Rattle.ct_frame.specs.declared.frame.Msg.TheVariants as msg
use Rattle.ct_call.specs.Rules.{Rules}
use Rattle.ct_store.specs.Map.{Pairs, Ascends}
use Rattle.ct_rules.specs.Parts.{Moving, want}
use Rattle.ct_rules.specs.Moves.{vacuum, arrive, call_again, revoke_again}
use Rattle.ct_rules.specs.declared.event.Place.{Place}
use Rattle.ct_rules.specs.declared.state.RecState.{RecState}
use Rattle.ct_rules_node.specs.Node.{Database, Phase, Idle, Serving, Installed, Freezing, Frozen, master_of, state_at, db_at, is_serving, has_records, kind_at}
use Rattle.ct_rules_node.specs.Turn.{Turn}
use Rattle.ct_rules_node.specs.Records.{view, acted, put_back, at_record, place_of}
use Rattle.ct_rules_node.specs.Clients.{unlocks, reads, serves, serves_or, client, refusal}
use Rattle.ct_rules_node.specs.Rounds.{Called, pending_calls, want_again, want_all, thaws, on_thaw}
use Rattle.ct_rules_node.specs.Retries.{call_all, revoke_all, revoke_in, retry_records, retry}
use Rattle.ct_rules_node.specs.Steps.{on_record_of, if_persistent, if_sound, if_taken_over, arrives, vacuum_all, vacuums, happens}
use Rattle.ct_rules_node.specs.Admission.{record_in, is_current}
use Rattle.ct_law_rules_node.specs.NodeLaws.{NodeAscends, left_by}
use Rattle.ct_law_rules_node.proofs.AtRecord.{moves_at, at_ascends}
use Rattle.ct_law_rules_node.proofs.Installed.{own_key}
use Rattle.ct_rules_cluster.specs.declared.step.PendingCall.{PendingCall}
use Rattle.ct_register.specs.Lines.{Lines}
use Rattle.ct_promise.specs.Marked.{removes, is_removed}
use Rattle.ct_law_generation.specs.Shown.{labels_of}
use Rattle.ct_law_generation.proofs.Finishing.{Unfinished, Finishes, want_unfinished, store_unfinished, release_unfinished, unlock_unfinished, call_again_unfinished, revoke_again_unfinished, want_again_unfinished, vacuum_finishes, arrive_finishes}
use Rattle.ct_law_generation.proofs.Removing.{removed_by, done_where_told, unfinished_at, finished_at, IsGone}
use Rattle.ct_law_generation.proofs.Unremoved.{Silent, either, with_phase_silent, makes_silent, answers_silent, notes_silent, commit_silent, on_pupdate_silent, on_pack_silent, read_pair_silent, begin_round_silent, frozen_silent, on_freeze_silent, on_freezeack_silent, on_pull_silent, on_pullreply_silent, on_push_silent, on_pushack_silent, begin_takeover_silent, on_release_silent, on_releaseack_silent, on_take_silent, update_in_silent, retry_lead_silent}
use Rattle.ct_law_generation.proofs.Vacuumed.{vacuumed}

-- ---- a step at one record that removes nothing

at_record_silent : {d : ℕ} {k : List ℕ} (c : Config) (n db : ℕ) (key : List ℕ) (part : Place → Moving → Moving) (t : Turn) → ((at : Place) (o : Moving) → Unfinished o.acts → Unfinished (part at o).acts) → Silent d k t → Silent d k (at_record c n db key part t)
unfolding view Unfinished
at_record_silent {d} {k} c n db key part t f s = record { none = unfinished_at c n db key part t d k (f (place_of c n db key t.node) (view db key t.node) tt) ∙ s.none }

-- ---- clients

unlocks_silent : {d : ℕ} {k : List ℕ} (c : Config) (n call db : ℕ) (key : List ℕ) (t : Turn) (p : Phase) → Silent d k t → Silent d k (unlocks c n call db key t p)
unfolding unlocks
unlocks_silent c n call db key t (Freezing g h) s = frozen_silent n g h (at_record_silent c n db key _ t (λ at o. release_unfinished at call o) s)
unlocks_silent c n call db key t Idle s = at_record_silent c n db key _ t (λ at o. unlock_unfinished at call o) s
unlocks_silent c n call db key t Serving s = at_record_silent c n db key _ t (λ at o. unlock_unfinished at call o) s
unlocks_silent c n call db key t Installed s = at_record_silent c n db key _ t (λ at o. unlock_unfinished at call o) s
unlocks_silent c n call db key t (Frozen g) s = at_record_silent c n db key _ t (λ at o. unlock_unfinished at call o) s

wants_silent : {d : ℕ} {k : List ℕ} (c : Config) (rules : Rules) (n call db : ℕ) (key : List ℕ) (asked : ClientOp) (t : Turn) → Silent d k t → Silent d k (at_record c n db key (λ at o. want at rules call asked o) t)
wants_silent c rules n call db key asked t s = at_record_silent c n db key _ t (λ at o. want_unfinished at rules call asked o) s

serves_silent : {d : ℕ} {k : List ℕ} (c : Config) (rules : Rules) (n call : ℕ) (t : Turn) (asked : ClientOp) → Silent d k t → Silent d k (serves c rules n call t asked)
unfolding serves reads
serves_silent c rules n call t (op.Read db key) s = either _ (read_pair_silent call db key s) (wants_silent c rules n call db key (op.Read db key) t s)
serves_silent c rules n call t (op.Store db key v) s = at_record_silent c n db key _ t (λ at o. store_unfinished at call v o) s
serves_silent c rules n call t (op.Unlock db key) s = unlocks_silent c n call db key t t.node.phase s
serves_silent c rules n call t (op.Commit db writes) s = commit_silent n call db writes s
serves_silent c rules n call t (op.Lock db key) s = wants_silent c rules n call db key (op.Lock db key) t s
serves_silent c rules n call t (op.Write db key v) s = wants_silent c rules n call db key (op.Write db key v) t s
serves_silent c rules n call t (op.Apply db key f arg) s = wants_silent c rules n call db key (op.Apply db key f arg) t s

serves_or_silent : {d : ℕ} {k : List ℕ} (c : Config) (rules : Rules) (n call : ℕ) (asked : ClientOp) (t : Turn) (w : Option Why) → Silent d k t → Silent d k (serves_or c rules n call asked t w)
unfolding serves_or
serves_or_silent c rules n call asked t (Some w) s = answers_silent call _ s
serves_or_silent c rules n call asked t None s = serves_silent c rules n call t asked s

pub client_silent : {d : ℕ} {k : List ℕ} (c : Config) (rules : Rules) (n call : ℕ) (asked : ClientOp) (t : Turn) → Silent d k t → Silent d k (client c rules n call asked t)
unfolding client
client_silent c rules n call asked t s = serves_or_silent c rules n call asked _ (refusal c rules t.node asked) (makes_silent call s)

-- ---- thaws

pub want_all_silent : {d : ℕ} {k : List ℕ} (c : Config) (rules : Rules) (n : ℕ) (xs : List Called) (t : Turn) → Silent d k t → Silent d k (want_all c rules n xs t)
unfolding want_all
want_all_silent c rules n [] t s = s
want_all_silent c rules n (x ∷ xs) t s = want_all_silent c rules n xs _ (at_record_silent c n x.db x.key (want_again rules) t (want_again_unfinished rules) s)

pub on_thaw_silent : {d : ℕ} {k : List ℕ} (c : Config) (rules : Rules) (n g : ℕ) (t : Turn) (p : Phase) → Silent d k t → Silent d k (on_thaw c rules n g t p)
unfolding on_thaw thaws removes
on_thaw_silent c rules n g t Installed s = either _ (want_all_silent c rules n _ _ (notes_silent _ refl (with_phase_silent Serving s))) s
on_thaw_silent c rules n g t Idle s = s
on_thaw_silent c rules n g t Serving s = s
on_thaw_silent c rules n g t (Freezing h l) s = s
on_thaw_silent c rules n g t (Frozen h) s = s

-- ---- sending again

call_all_silent : {d : ℕ} {k : List ℕ} (c : Config) (n : ℕ) (xs : List Called) (t : Turn) → Silent d k t → Silent d k (call_all c n xs t)
unfolding call_all
call_all_silent c n [] t s = s
call_all_silent c n (x ∷ xs) t s = call_all_silent c n xs _ (at_record_silent c n x.db x.key call_again t call_again_unfinished s)

revoke_all_silent : {d : ℕ} {k : List ℕ} (c : Config) (n db : ℕ) (m : Pairs RecState) (t : Turn) → Silent d k t → Silent d k (revoke_all c n db m t)
unfolding revoke_all
revoke_all_silent c n db [] t s = s
revoke_all_silent c n db (e ∷ m) t s = revoke_all_silent c n db m _ (at_record_silent c n db e.0 revoke_again t revoke_again_unfinished s)

revoke_in_silent : {d : ℕ} {k : List ℕ} (c : Config) (n i : ℕ) (dbs : List Database) (t : Turn) → Silent d k t → Silent d k (revoke_in c n i dbs t)
unfolding revoke_in
revoke_in_silent c n i [] t s = s
revoke_in_silent c n i (x ∷ xs) t s = revoke_in_silent c n (i + 1) xs _ (revoke_all_silent c n i x.records t s)

retry_records_silent : {d : ℕ} {k : List ℕ} (c : Config) (n : ℕ) (t : Turn) → Silent d k t → Silent d k (retry_records c n t)
unfolding retry_records
retry_records_silent c n t s = either _ (update_in_silent n 0 t.node.dbs _ (revoke_in_silent c n 0 t.node.dbs _ (call_all_silent c n (pending_calls t.node) t s))) s

pub retry_silent : {d : ℕ} {k : List ℕ} (c : Config) (n : ℕ) (t : Turn) → Silent d k t → Silent d k (retry c n t)
unfolding retry
retry_silent c n t s = retry_lead_silent n (retry_records c n t) (retry_records c n t).node.lead (retry_records_silent c n t s)

-- ---- what a turn may remove

-- where the turn has removed this record, its node is the location master and has no entry of it
abbrev pub MayRemove : ℕ → ℕ → List ℕ → Turn → Turn → Type 0
MayRemove n db key t u = removed_by db key u.outs ≡ true → IsGone n db key t u

pub silent_removes : (n db : ℕ) (key : List ℕ) (t u : Turn) → Silent db key u → MayRemove n db key t u
silent_removes n db key t u s told = absurd (let k = sym told ∙ s.none in cc)

not_before : {X : Type 0} (a : Bool) → a ≡ false → (a ≡ true) ⊎ X → X
not_before {X} a none h = ⊎_elim (λ (t : a ≡ true). absurd (let k = sym none ∙ t in cc)) (λ (x : X). x) h

-- a rule that may remove its record, after nothing was removed
at_record_removes : (c : Config) (n db : ℕ) (key : List ℕ) (part : Place → Moving → Moving) (t : Turn) (d : ℕ) (k : List ℕ) → NodeAscends t.node → Silent d k t → Finishes (place_of c n db key t.node) (left_by c n db key part t) →
    removed_by d k (at_record c n db key part t).outs ≡ true → (db ≡ d) × (key ≡ k) × IsGone n d k t (at_record c n db key part t)
at_record_removes c n db key part t d k h s may told = not_before (removed_by d k t.outs) s.none (finished_at c n db key part t d k h may told)

-- ---- the vacuum of a database

vacuumed_at : (c : Config) (n db : ℕ) (key : List ℕ) (t : Turn) → Finishes (place_of c n db key t.node) (left_by c n db key (vacuumed n t) t)
unfolding view Unfinished
vacuumed_at c n db key t = vacuum_finishes (place_of c n db key t.node) (others n t.node.members) (view db key t.node) tt

members_stay : (c : Config) (n db : ℕ) (key : List ℕ) (part : Place → Moving → Moving) (t : Turn) → (at_record c n db key part t).node.members ≡ t.node.members
unfolding at_record acted put_back
members_stay c n db key part t = refl

not_less : (k q : List ℕ) → key_cmp k q ≡ Less → k ≢ q
not_less k q l e = absurd (let a : is_eq (key_cmp k k) ≡ false = ap is_eq (subst (λ (x : List ℕ). key_cmp k x ≡ Less) (sym e) l) in let b = own_key k in cc)

-- no key comes again after it
apart_from : (k : List ℕ) (qs : List (List ℕ)) → AllByRecursion (λ q. key_cmp k q ≡ Less) qs → AllByRecursion (λ q. k ≢ q) qs
apart_from k [] h = tt
apart_from k (q ∷ qs) h = (not_less k q h.0, apart_from k qs h.1)

-- the vacuum of other keys leaves what there is of this one
others_stay : (c : Config) (n db : ℕ) (m : Pairs RecState) (t : Turn) (k : List ℕ) → NodeAscends t.node → AllByRecursion (λ q. k ≢ q) (keys_of m) → state_at db k (vacuum_all c n db m t).node ≡ state_at db k t.node
unfolding vacuum_all
others_stay c n db [] t k h apart = refl
others_stay c n db (x ∷ m) t k h apart =
    let a = moves_at c n db x.0 (vacuumed n t) t h in others_stay c n db m (at_record c n db x.0 (vacuumed n t) t) k a.order apart.1 ∙ a.other_keys k apart.0

vacuum_all_removes : (c : Config) (n db : ℕ) (m : Pairs RecState) (t : Turn) (d : ℕ) (k : List ℕ) → NodeAscends t.node → Ascends m → Silent d k t → MayRemove n d k t (vacuum_all c n db m t)
unfolding vacuum_all IsStrictlySortedBy
vacuum_all_removes c n db [] t d k h order s told = silent_removes n d k t t s told
vacuum_all_removes c n db (x ∷ m) t d k h order s told =
    let u = at_record c n db x.0 (vacuumed n t) t in
    let a = moves_at c n db x.0 (vacuumed n t) t h in
    ⊎_elim
    (λ (now : removed_by d k u.outs ≡ true). (let g = at_record_removes c n db x.0 (vacuumed n t) t d k h s (vacuumed_at c n db x.0 t) now in
    let stays : state_at d k (vacuum_all c n db m u).node ≡ state_at d k u.node = subst (λ (b : ℕ). state_at b k (vacuum_all c n db m u).node ≡ state_at b k u.node) g.0
    (subst (λ (q : List ℕ). state_at db q (vacuum_all c n db m u).node ≡ state_at db q u.node) g.1 (others_stay c n db m u x.0 a.order (apart_from x.0 (keys_of m) order.0))) in
    (g.2.0, ap (λ (s : RecState). s.entry) stays ∙ g.2.1)))
    (λ (not_yet : removed_by d k u.outs ≡ false). (let g = vacuum_all_removes c n db m u d k a.order order.1 (record { none = not_yet }) told in
    (g.0 ∙ ap (λ (ms : List ℕ). master_of ms k) (members_stay c n db x.0 (vacuumed n t) t), g.1)))
    (cases_Bool (removed_by d k u.outs))

pub vacuums_remove : (c : Config) (n db : ℕ) (t : Turn) (d : ℕ) (k : List ℕ) → NodeAscends t.node → Silent d k t → MayRemove n d k t (vacuums c n db t)
unfolding vacuums db_at
vacuums_remove c n db t d k h s = cond_both (is_serving t.node.phase) (vacuum_all c n db (db_at db t.node).records t) t (λ (u : Turn). MayRemove n d k t u)
    (λ _. vacuum_all_removes c n db (db_at db t.node).records t d k h (at_ascends t.node.dbs db h) s) (λ _. silent_removes n d k t t s)

-- ---- messages

arrived_at : (c : Config) (rules : Rules) (n db : ℕ) (key : List ℕ) (sender : ℕ) (m : Msg) (t : Turn) → Finishes (place_of c n db key t.node) (left_by c n db key (λ at o. arrive at rules sender m o) t)
unfolding view Unfinished
arrived_at c rules n db key sender m t = arrive_finishes (place_of c n db key t.node) rules sender m (view db key t.node) tt

on_record_of_removes : (c : Config) (rules : Rules) (n : ℕ) (f : Frame) (t : Turn) (r : Option (ℕ × List ℕ)) (d : ℕ) (k : List ℕ) → NodeAscends t.node → Silent d k t → MayRemove n d k t (on_record_of c rules n f t r)
unfolding on_record_of
on_record_of_removes c rules n f t None d k h s = silent_removes n d k t t s
on_record_of_removes c rules n f t (Some r) d k h s =
    let part : Place → Moving → Moving = λ at o. arrive at rules f.sender f.msg o in
    cond_both (is_current f t.node && has_records (kind_at c r.0)) (at_record c n r.0 r.1 part t) t (λ (u : Turn). MayRemove n d k t u)
    (λ _ told. (let g = at_record_removes c n r.0 r.1 part t d k h s (arrived_at c rules n r.0 r.1 f.sender f.msg t) told in g.2))
    (λ _. silent_removes n d k t t s)

pub arrives_remove : (c : Config) (rules : Rules) (n : ℕ) (f : Frame) (t : Turn) (m : Msg) (d : ℕ) (k : List ℕ) → NodeAscends t.node → Silent d k t → MayRemove n d k t (arrives c rules n f t m)
unfolding arrives if_persistent if_sound if_taken_over
arrives_remove c rules n f t (msg.PUpdate db seq writes) d k h s = silent_removes n d k t _ (either _ (on_pupdate_silent n f.sender db seq writes s) s)
arrives_remove c rules n f t (msg.PAck db seq) d k h s = silent_removes n d k t _ (either _ (on_pack_silent f.sender db seq s) s)
arrives_remove c rules n f t (msg.Freeze members) d k h s = silent_removes n d k t _ (either _ (on_freeze_silent c n f.sender f.generation s) s)
arrives_remove c rules n f t msg.FreezeAck d k h s = silent_removes n d k t _ (either _ (on_freezeack_silent n f.sender f.generation t t.node.lead s) s)
arrives_remove c rules n f t msg.Pull d k h s = silent_removes n d k t _ (either _ (on_pull_silent c n f.sender f.generation s) s)
arrives_remove c rules n f t (msg.PullReply vbase pbase table ptables addresses) d k h s = silent_removes n d k t _ (either _ (on_pullreply_silent n f.generation _ t t.node.lead s) s)
arrives_remove c rules n f t (msg.Push members table ptables assigned) d k h s = silent_removes n d k t _ (either _ (on_push_silent c n f.sender f.generation members table ptables assigned s) s)
arrives_remove c rules n f t msg.PushAck d k h s = silent_removes n d k t _ (either _ (on_pushack_silent c n f.sender f.generation t t.node.lead s) s)
arrives_remove c rules n f t msg.Thaw d k h s = silent_removes n d k t _ (either _ (on_thaw_silent c rules n f.generation t t.node.phase s) s)
arrives_remove c rules n f t (msg.Release number keep) d k h s = silent_removes n d k t _ (either _ (on_release_silent n f.sender number keep s) s)
arrives_remove c rules n f t (msg.ReleaseAck number) d k h s = silent_removes n d k t _ (either _ (on_releaseack_silent n f.sender f.generation number t t.node.lead s) s)
arrives_remove c rules n f t (msg.Take number assigned) d k h s = silent_removes n d k t _ (either _ (on_take_silent c n number assigned s) s)
arrives_remove c rules n f t m d k h s = on_record_of_removes c rules n f t (record_in m) d k h s

-- ---- every event

pub happens_remove : (c : Config) (rules : Rules) (n : ℕ) (t : Turn) (e : Event) (d : ℕ) (k : List ℕ) → NodeAscends t.node → Silent d k t → MayRemove n d k t (happens c rules n t e)
unfolding happens
happens_remove c rules n t (event.Client call asked) d k h s = silent_removes n d k t _ (client_silent c rules n call asked t s)
happens_remove c rules n t (event.Arrive f) d k h s = arrives_remove c rules n f t f.msg d k h s
happens_remove c rules n t event.Retry d k h s = silent_removes n d k t _ (retry_silent c n t s)
happens_remove c rules n t (event.Vacuum db) d k h s = vacuums_remove c n db t d k h s
happens_remove c rules n t (event.BeginRound ticket members) d k h s = silent_removes n d k t _ (begin_round_silent n ticket members s)
happens_remove c rules n t (event.BeginTakeover able) d k h s = silent_removes n d k t _ (begin_takeover_silent n able t t.node.lead s)

-- ---- in labels

-- a turn that begins has removed nothing
pub starts_silent : (d : ℕ) (k : List ℕ) (t : Turn) → t.outs ≡ [] → Silent d k t
starts_silent d k t e = record { none = ap (removed_by d k) e }

-- and where those of a turn tell one, its node is the location master and has no entry
pub told_removal : (r : Lines) (g d : ℕ) (k : List ℕ) (n : ℕ) (calls : List PendingCall) (t u : Turn) → MayRemove n d k t u → is_removed r g d k (labels_of n calls u.outs) ≡ true → (n ≡ master_of t.node.members k) × ((state_at d k u.node).entry ≡ None)
told_removal r g d k n calls t u may told = may (done_where_told r g d k n calls u.outs told)

-- Only the location master of a record has an entry of it: every turn of a node and every step of the cluster leaves it so.
use Rattle.std.proofs.Common.{◌≡◌, ◌≢◌, ℕ, ◌+◌, Bool, true, false, List, [], ◌∷◌, length, Option, Some, None, refl, sym, ap, ◌∙◌, subst, ⊎_elim}
use Rattle.std.specs.Prelude.{nat_lt, Result, Ok, Err}
use Rattle.std.proofs.lemmas.Bool.{cond_both, cases_eq, ltb-true, ltb-false, cases_Bool}
use Rattle.ct_values.specs.Words.{others}
use Rattle.ct_values.specs.declared.client.ClientOp.{ClientOp}
use Rattle.ct_values.specs.declared.client.ClientOp.TheVariants as op
use Rattle.ct_values.specs.declared.client.Why.{Why}
use Rattle.ct_values.specs.declared.config.Config.{Config}
use Rattle.ct_frame.specs.declared.event.Event.{Event}
use Rattle.ct_frame.specs.declared.event.Event.TheVariants as event
use Rattle.ct_frame.specs.declared.frame.Frame.{Frame}
use Rattle.ct_frame.specs.declared.frame.Msg.{Msg}
use Rattle.ct_frame.specs.declared.frame.Msg.TheVariants as msg
use Rattle.ct_call.specs.Rules.{Rules}
use Rattle.ct_store.specs.Map.{Pairs, look}
use Rattle.ct_rules.specs.Parts.{Moving, want}
use Rattle.ct_rules.specs.Moves.{call_again, revoke_again}
use Rattle.ct_rules.specs.declared.event.Place.{Place}
use Rattle.ct_rules.specs.declared.state.RecState.{RecState}
use Rattle.ct_rules_node.specs.Node.{Node, Database, Phase, Idle, Serving, Installed, Freezing, Frozen, master_of, state_at, db_at, or_nothing, untouched, restarted_db, restarted}
use Rattle.ct_rules_node.specs.Turn.{Turn, begins}
use Rattle.ct_rules_node.specs.Records.{view, acted, put_back, at_record, place_of}
use Rattle.ct_rules_node.specs.Clients.{unlocks, reads, serves, serves_or, client, refusal}
use Rattle.ct_rules_node.specs.Rounds.{Called, pending_calls, want_again, want_all, thaws, on_thaw}
use Rattle.ct_rules_node.specs.Retries.{call_all, revoke_all, revoke_in, retry_records, retry}
use Rattle.ct_rules_node.specs.Steps.{on_record_of, if_persistent, if_sound, if_taken_over, arrives, vacuum_all, vacuums, happens}
use Rattle.ct_rules_node.specs.Admission.{record_in}
use Rattle.ct_law_rules_node.specs.NodeLaws.{AllAscend, NodeAscends}
use Rattle.ct_law_rules_node.proofs.AtRecord.{moves_at}
use Rattle.ct_law_rules_node.proofs.Starting.{restarts_in_order}
use Rattle.ct_law_rules_node.proofs.Rounds.{restarts_each}
use Rattle.ct_rules_cluster.specs.Cluster.{Cluster, Sent, Fate, Delivered, Dropped, absent, is_up, node_at, sent_at, able_from}
use Rattle.ct_rules_cluster.specs.Faults.{fault_of, is_allowed}
use Rattle.ct_rules_cluster.specs.Steps.{Stepped, with_node, put, fed, done, with_fate, deliver, drop, repeat, stop, recover, steps, steps_or, applied}
use Rattle.ct_law_generation.specs.Waiting.{unchanged, came_of, outcome}
use Rattle.ct_rules_cluster.specs.declared.step.Line.{Line}
use Rattle.ct_rules_cluster.specs.declared.step.Line.TheVariants as line
use Rattle.ct_rules_cluster.specs.declared.step.Step.{Step}
use Rattle.ct_rules_cluster.specs.declared.step.Step.TheVariants as step
use Rattle.ct_rules_cluster.specs.declared.step.StepFault.{StepFault}
use Rattle.ct_law_generation.specs.Shown.{is_it}
use Rattle.ct_law_generation.proofs.Weave.{it_is}
use Rattle.ct_law_generation.proofs.Amid.{other_state}
use Rattle.ct_law_generation.proofs.Putting.{own_node, other_node}
use Rattle.ct_law_generation.proofs.Fed.{fed_is}
use Rattle.ct_law_generation.proofs.Removing.{entry_after}
use Rattle.ct_law_generation.proofs.Clearing.{past_node, absent_entry, same_node}
use Rattle.ct_law_generation.proofs.Homing.{LeavesNone, want_away, want_again_away, store_away, release_away, unlock_away, vacuum_away, arrive_away, call_again_away, revoke_again_away}
use Rattle.ct_law_generation.proofs.Leaving.{AtHome, either, with_phase_home, makes_home, answers_home, notes_home, commit_home, on_pupdate_home, on_pack_home, read_pair_home, begin_round_home, frozen_home, on_freeze_home, on_freezeack_home, on_pull_home, on_pullreply_home, on_push_home, on_pushack_home, begin_takeover_home, on_release_home, on_releaseack_home, on_take_home, update_in_home, retry_lead_home}

-- ---- a step at one record

at_record_home : (c : Config) (n db : ℕ) (key : List ℕ) (part : Place → Moving → Moving) (t : Turn) → LeavesNone part → AtHome n t → AtHome n (at_record c n db key part t)
unfolding at_record acted put_back place_of view
at_record_home c n db key part t none s = record {
  order = (moves_at c n db key part t s.order).order;
  entry = λ d k ne. ⊎_elim
      (λ (is : is_it d k db key ≡ true). (let p = it_is d db k key is in
      subst (λ (x : ℕ). (state_at x k (at_record c n db key part t).node).entry ≡ None) p.0 (subst (λ (x : List ℕ). (state_at db x (at_record c n db key part t).node).entry ≡ None) p.1
      (entry_after c n db key part t s.order (none (place_of c n db key t.node) (view db key t.node) (own d k p.1 ne) (s.entry db key (own d k p.1 ne)))))))
      (λ (unlike : is_it d k db key ≡ false). ap (λ (x : RecState). x.entry) (other_state c n db d key k part t s.order unlike) ∙ s.entry d k ne)
      (cases_Bool (is_it d k db key));
}
  where
    own : (d : ℕ) (k : List ℕ) → key ≡ k → n ≢ master_of t.node.members k → n ≢ master_of t.node.members key
    own d k same ne is = ne (is ∙ ap (λ (q : List ℕ). master_of t.node.members q) same)

-- ---- clients

unlocks_home : (c : Config) (n call db : ℕ) (key : List ℕ) (t : Turn) (p : Phase) → AtHome n t → AtHome n (unlocks c n call db key t p)
unfolding unlocks
unlocks_home c n call db key t (Freezing g h) s = frozen_home n g h (at_record_home c n db key _ t (λ at o ne. release_away call o) s)
unlocks_home c n call db key t Idle s = at_record_home c n db key _ t (λ at o ne. unlock_away at call o) s
unlocks_home c n call db key t Serving s = at_record_home c n db key _ t (λ at o ne. unlock_away at call o) s
unlocks_home c n call db key t Installed s = at_record_home c n db key _ t (λ at o ne. unlock_away at call o) s
unlocks_home c n call db key t (Frozen g) s = at_record_home c n db key _ t (λ at o ne. unlock_away at call o) s

wants_home : (c : Config) (rules : Rules) (n call db : ℕ) (key : List ℕ) (asked : ClientOp) (t : Turn) → AtHome n t → AtHome n (at_record c n db key (λ at o. want at rules call asked o) t)
wants_home c rules n call db key asked t s = at_record_home c n db key _ t (want_away rules call asked) s

serves_home : (c : Config) (rules : Rules) (n call : ℕ) (t : Turn) (asked : ClientOp) → AtHome n t → AtHome n (serves c rules n call t asked)
unfolding serves reads
serves_home c rules n call t (op.Read db key) s = either _ (read_pair_home call db key s) (wants_home c rules n call db key (op.Read db key) t s)
serves_home c rules n call t (op.Store db key v) s = at_record_home c n db key _ t (λ at o ne. store_away call v o) s
serves_home c rules n call t (op.Unlock db key) s = unlocks_home c n call db key t t.node.phase s
serves_home c rules n call t (op.Commit db writes) s = commit_home n call db writes s
serves_home c rules n call t (op.Lock db key) s = wants_home c rules n call db key (op.Lock db key) t s
serves_home c rules n call t (op.Write db key v) s = wants_home c rules n call db key (op.Write db key v) t s
serves_home c rules n call t (op.Apply db key f arg) s = wants_home c rules n call db key (op.Apply db key f arg) t s

serves_or_home : (c : Config) (rules : Rules) (n call : ℕ) (asked : ClientOp) (t : Turn) (w : Option Why) → AtHome n t → AtHome n (serves_or c rules n call asked t w)
unfolding serves_or
serves_or_home c rules n call asked t (Some w) s = answers_home call _ s
serves_or_home c rules n call asked t None s = serves_home c rules n call t asked s

pub client_home : (c : Config) (rules : Rules) (n call : ℕ) (asked : ClientOp) (t : Turn) → AtHome n t → AtHome n (client c rules n call asked t)
unfolding client
client_home c rules n call asked t s = serves_or_home c rules n call asked _ (refusal c rules t.node asked) (makes_home call s)

-- ---- thaws

pub want_all_home : (c : Config) (rules : Rules) (n : ℕ) (xs : List Called) (t : Turn) → AtHome n t → AtHome n (want_all c rules n xs t)
unfolding want_all
want_all_home c rules n [] t s = s
want_all_home c rules n (x ∷ xs) t s = want_all_home c rules n xs _ (at_record_home c n x.db x.key (want_again rules) t (want_again_away rules) s)

pub on_thaw_home : (c : Config) (rules : Rules) (n g : ℕ) (t : Turn) (p : Phase) → AtHome n t → AtHome n (on_thaw c rules n g t p)
unfolding on_thaw thaws
on_thaw_home c rules n g t Installed s = either _ (want_all_home c rules n _ _ (notes_home _ (with_phase_home Serving s))) s
on_thaw_home c rules n g t Idle s = s
on_thaw_home c rules n g t Serving s = s
on_thaw_home c rules n g t (Freezing h l) s = s
on_thaw_home c rules n g t (Frozen h) s = s

-- ---- sending again

call_all_home : (c : Config) (n : ℕ) (xs : List Called) (t : Turn) → AtHome n t → AtHome n (call_all c n xs t)
unfolding call_all
call_all_home c n [] t s = s
call_all_home c n (x ∷ xs) t s = call_all_home c n xs _ (at_record_home c n x.db x.key call_again t (λ at o ne. call_again_away at o) s)

revoke_all_home : (c : Config) (n db : ℕ) (m : Pairs RecState) (t : Turn) → AtHome n t → AtHome n (revoke_all c n db m t)
unfolding revoke_all
revoke_all_home c n db [] t s = s
revoke_all_home c n db (e ∷ m) t s = revoke_all_home c n db m _ (at_record_home c n db e.0 revoke_again t (λ at o ne. revoke_again_away at o) s)

revoke_in_home : (c : Config) (n i : ℕ) (dbs : List Database) (t : Turn) → AtHome n t → AtHome n (revoke_in c n i dbs t)
unfolding revoke_in
revoke_in_home c n i [] t s = s
revoke_in_home c n i (x ∷ xs) t s = revoke_in_home c n (i + 1) xs _ (revoke_all_home c n i x.records t s)

retry_records_home : (c : Config) (n : ℕ) (t : Turn) → AtHome n t → AtHome n (retry_records c n t)
unfolding retry_records
retry_records_home c n t s = either _ (update_in_home n 0 t.node.dbs _ (revoke_in_home c n 0 t.node.dbs _ (call_all_home c n (pending_calls t.node) t s))) s

pub retry_home : (c : Config) (n : ℕ) (t : Turn) → AtHome n t → AtHome n (retry c n t)
unfolding retry
retry_home c n t s = retry_lead_home n (retry_records c n t) (retry_records c n t).node.lead (retry_records_home c n t s)

-- ---- the vacuum of a database

vacuum_all_home : (c : Config) (n db : ℕ) (m : Pairs RecState) (t : Turn) → AtHome n t → AtHome n (vacuum_all c n db m t)
unfolding vacuum_all
vacuum_all_home c n db [] t s = s
vacuum_all_home c n db (x ∷ m) t s = vacuum_all_home c n db m _ (at_record_home c n db x.0 _ t (vacuum_away (others n t.node.members)) s)

pub vacuums_home : (c : Config) (n db : ℕ) (t : Turn) → AtHome n t → AtHome n (vacuums c n db t)
unfolding vacuums
vacuums_home c n db t s = either _ (vacuum_all_home c n db _ t s) s

-- ---- messages

on_record_of_home : (c : Config) (rules : Rules) (n : ℕ) (f : Frame) (t : Turn) (r : Option (ℕ × List ℕ)) → AtHome n t → AtHome n (on_record_of c rules n f t r)
unfolding on_record_of
on_record_of_home c rules n f t None s = s
on_record_of_home c rules n f t (Some r) s = either _ (at_record_home c n r.0 r.1 _ t (arrive_away rules f.sender f.msg) s) s

pub arrives_home : (c : Config) (rules : Rules) (n : ℕ) (f : Frame) (t : Turn) (m : Msg) → AtHome n t → AtHome n (arrives c rules n f t m)
unfolding arrives if_persistent if_sound if_taken_over
arrives_home c rules n f t (msg.PUpdate db seq writes) s = either _ (on_pupdate_home n f.sender db seq writes s) s
arrives_home c rules n f t (msg.PAck db seq) s = either _ (on_pack_home f.sender db seq s) s
arrives_home c rules n f t (msg.Freeze members) s = either _ (on_freeze_home c n f.sender f.generation s) s
arrives_home c rules n f t msg.FreezeAck s = either _ (on_freezeack_home n f.sender f.generation t t.node.lead s) s
arrives_home c rules n f t msg.Pull s = either _ (on_pull_home c n f.sender f.generation s) s
arrives_home c rules n f t (msg.PullReply vbase pbase table ptables addresses) s = either _ (on_pullreply_home n f.generation _ t t.node.lead s) s
arrives_home c rules n f t (msg.Push members table ptables assigned) s = either _ (on_push_home c f.sender f.generation members table ptables assigned s) s
arrives_home c rules n f t msg.PushAck s = either _ (on_pushack_home c n f.sender f.generation t t.node.lead s) s
arrives_home c rules n f t msg.Thaw s = either _ (on_thaw_home c rules n f.generation t t.node.phase s) s
arrives_home c rules n f t (msg.Release number keep) s = either _ (on_release_home n f.sender number keep s) s
arrives_home c rules n f t (msg.ReleaseAck number) s = either _ (on_releaseack_home n f.sender f.generation number t t.node.lead s) s
arrives_home c rules n f t (msg.Take number assigned) s = either _ (on_take_home c n number assigned s) s
arrives_home c rules n f t m s = on_record_of_home c rules n f t (record_in m) s

-- ---- every event

pub happens_home : (c : Config) (rules : Rules) (n : ℕ) (t : Turn) (e : Event) → AtHome n t → AtHome n (happens c rules n t e)
unfolding happens
happens_home c rules n t (event.Client call asked) s = client_home c rules n call asked t s
happens_home c rules n t (event.Arrive f) s = arrives_home c rules n f t f.msg s
happens_home c rules n t event.Retry s = retry_home c n t s
happens_home c rules n t (event.Vacuum db) s = vacuums_home c n db t s
happens_home c rules n t (event.BeginRound ticket members) s = begin_round_home n ticket members s
happens_home c rules n t (event.BeginTakeover able) s = begin_takeover_home n able t t.node.lead s

-- ---- the cluster

-- so it is of all nodes
abbrev pub AllAtHome : Cluster → Type 0
AllAtHome w = (n : ℕ) → AtHome n (begins (node_at n w))

-- a node that keeps nothing of any record
pub empty_home : (n : ℕ) (x : Node) → NodeAscends x → ((db : ℕ) → (db_at db x).records ≡ []) → AtHome n (begins x)
unfolding state_at or_nothing
empty_home n x order none = record { order = order; entry = λ db key ne. ap (λ (m : Pairs RecState). (or_nothing (look key m)).entry) (none db) }

absent_home : (n : ℕ) → AtHome n (begins absent)
unfolding absent AllAscend
absent_home n = record { order = tt; entry = λ db key ne. absent_entry db key }

-- another state of one node
node_home : (n : ℕ) (x : Node) (w : Cluster) → AllAtHome w → AtHome n (begins x) → AllAtHome (with_node n x w)
unfolding with_node node_at
node_home n x w all mine k = ⊎_elim
    (λ (is : k ≡ n). subst (λ (j : ℕ). AtHome j (begins (node_at j (with_node n x w)))) (sym is) (cond_both (nat_lt n (length w.nodes)) true false (λ (_ : Bool). AtHome n (begins (node_at n (with_node n x w))))
    (λ t. subst (λ (y : Node). AtHome n (begins y)) (sym (own_node n x w (ltb-true n (length w.nodes) t))) mine)
    (λ f. subst (λ (y : Node). AtHome n (begins y)) (sym (past_node w.nodes n x (ltb-false n (length w.nodes) f))) (absent_home n))))
    (λ (ne : k ≢ n). subst (λ (y : Node). AtHome k (begins y)) (sym (other_node n k x w ne)) (all k))
    (cases_eq k n)

began : (n : ℕ) (u : Turn) → AtHome n u → AtHome n (begins u.node)
began n u s = record { order = s.order; entry = s.entry }

fed_home : (c : Config) (rules : Rules) (n : ℕ) (e : Event) (own : List Line) (v : Cluster) (x : Stepped) → AllAtHome v → fed c rules n e own v ≡ Ok x → AllAtHome x.cluster
unfolding put node_at with_node
fed_home c rules n e own v x all ok =
    let u = happens c rules n (begins (node_at n v)) e in
    subst (λ (y : Stepped). AllAtHome y.cluster) (sym (fed_is c rules n e own v x ok).1) (node_home n u.node v all (began n u (happens_home c rules n (begins (node_at n v)) e (all n))))

done_home : (lines : List Line) (v : Cluster) (x : Stepped) → AllAtHome v → done lines v ≡ Ok x → AllAtHome x.cluster
unfolding done
done_home lines v x all ok = (let same : record { cluster = v; lines = lines } ≡ x = cc in subst (λ (y : Stepped). AllAtHome y.cluster) same all)

fate_home : (k : ℕ) (m : Sent) (f : Fate) (w : Cluster) → AllAtHome w → AllAtHome (with_fate k m f w)
fate_home k m f w all n = subst (λ (y : Node). AtHome n (begins y)) (sym (same_node k n m f w)) (all n)

-- ---- every step

deliver_home : (c : Config) (rules : Rules) (k : ℕ) (w : Cluster) (m : Option Sent) (x : Stepped) → AllAtHome w → deliver c rules k w m ≡ Ok x → AllAtHome x.cluster
unfolding deliver
deliver_home c rules k w None x all ok = done_home [] w x all ok
deliver_home c rules k w (Some m) x all ok = cond_both (is_up m.frame.receiver w) (fed c rules m.frame.receiver (event.Arrive m.frame) [] (with_fate k m Delivered w)) _ (λ (y : Result Stepped StepFault). y ≡ Ok x → AllAtHome x.cluster)
    (λ _ is. fed_home c rules m.frame.receiver (event.Arrive m.frame) [] (with_fate k m Delivered w) x (fate_home k m Delivered w all) is) (λ _ is. done_home (line.Lost k ∷ []) _ x (fate_home k m Dropped w all) is) ok

repeat_home : (c : Config) (rules : Rules) (k : ℕ) (w : Cluster) (m : Option Sent) (x : Stepped) → AllAtHome w → repeat c rules k w m ≡ Ok x → AllAtHome x.cluster
unfolding repeat
repeat_home c rules k w None x all ok = done_home [] w x all ok
repeat_home c rules k w (Some m) x all ok = cond_both (is_up m.frame.receiver w) (fed c rules m.frame.receiver (event.Arrive m.frame) [] w) _ (λ (y : Result Stepped StepFault). y ≡ Ok x → AllAtHome x.cluster)
    (λ _ is. fed_home c rules m.frame.receiver (event.Arrive m.frame) [] w x all is) (λ _ is. done_home (line.Lost k ∷ []) _ x all is) ok

drop_home : (k : ℕ) (w : Cluster) (m : Option Sent) (x : Stepped) → AllAtHome w → drop k w m ≡ Ok x → AllAtHome x.cluster
unfolding drop
drop_home k w None x all ok = done_home [] w x all ok
drop_home k w (Some m) x all ok = done_home [] _ x (fate_home k m Dropped w all) ok

restarted_home : (c : Config) (n : ℕ) (y : Node) → AtHome n (begins (restarted c y))
unfolding restarted_db untouched
restarted_home c n y = empty_home n (restarted c y) (restarts_in_order c y).1 (λ db. ap (λ (d : Database). d.records) (restarts_each c y db))

steps_home : (c : Config) (rules : Rules) (w : Cluster) (s : Step) (x : Stepped) → AllAtHome w → steps c rules w s ≡ Ok x → AllAtHome x.cluster
unfolding steps stop recover node_at with_node
steps_home c rules w (step.Client n o) x all ok = fed_home c rules n (event.Client (w.calls + 1) o) [] (record w { calls = w.calls + 1 }) x all ok
steps_home c rules w (step.Deliver k) x all ok = deliver_home c rules k w (sent_at k w) x all ok
steps_home c rules w (step.Drop k) x all ok = drop_home k w (sent_at k w) x all ok
steps_home c rules w (step.Repeat k) x all ok = repeat_home c rules k w (sent_at k w) x all ok
steps_home c rules w (step.Retry n) x all ok = fed_home c rules n event.Retry [] w x all ok
steps_home c rules w (step.Vacuum n db) x all ok = fed_home c rules n (event.Vacuum db) [] w x all ok
steps_home c rules w (step.Recover n members) x all ok = fed_home c rules n (event.BeginRound (w.ticket + 1) members) (line.Ticket (w.ticket + 1) n ∷ []) (record w { holder = Some n; ticket = w.ticket + 1 }) x all ok
steps_home c rules w (step.Yield n) x all ok = done_home (line.Yielded n ∷ []) _ x all ok
steps_home c rules w (step.Stop n) x all ok = done_home _ _ x (node_home n (restarted c (node_at n w)) w all (restarted_home c n (node_at n w))) ok
steps_home c rules w (step.Start n) x all ok = done_home (line.Started n ∷ []) _ x all ok
steps_home c rules w (step.Takeover n) x all ok = fed_home c rules n (event.BeginTakeover (able_from 0 w.able)) [] w x all ok
steps_home c rules w (step.Able n able) x all ok = done_home [] _ x all ok

applied_home : (c : Config) (rules : Rules) (w : Cluster) (s : Step) (x : Stepped) (f : Option StepFault) → AllAtHome w → steps_or c rules w s f ≡ Ok x → AllAtHome x.cluster
unfolding steps_or
applied_home c rules w s x (Some f) all ok = absurd (cc)
applied_home c rules w s x None all ok = steps_home c rules w s x all ok

taken_home : (c : Config) (rules : Rules) (w : Cluster) (s : Step) (y : Result Stepped StepFault) → AllAtHome w → applied c rules w s ≡ y → AllAtHome (came_of w s y).cluster
unfolding came_of unchanged applied
taken_home c rules w s (Ok x) all is = applied_home c rules w s x (fault_of c w s) all is
taken_home c rules w s (Err f) all is = all

-- every step of the cluster leaves it so
pub step_home : (c : Config) (rules : Rules) (w : Cluster) (s : Step) → AllAtHome w → AllAtHome (outcome c rules w s).cluster
unfolding outcome unchanged
step_home c rules w s all = ⊎_elim
    (λ (t : is_allowed s ≡ true). rw t (taken_home c rules w s (applied c rules w s) all refl))
    (λ (f : is_allowed s ≡ false). rw f all)
    (cases_Bool (is_allowed s))

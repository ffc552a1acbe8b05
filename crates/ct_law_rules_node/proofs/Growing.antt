-- What a step of a node adds to: the promise, the next request number, what was spent and what is done.
use Rattle.std.proofs.Common.{◌≡◌, ℕ, ◌+◌, ◌≤◌, ◌==◌, Bool, true, false, cond, ◌||◌, List, [], ◌∷◌, ◌++◌, length, map, Option, Some, None, refl, sym, ap, ◌∙◌, append_assoc, append-nil, arith}
use Rattle.std.proofs.lemmas.List.{length-set}
use Rattle.ct_values.specs.Words.{others}
use Rattle.std.proofs.lemmas.Bool.{or_left}
use Rattle.ct_values.specs.declared.client.ClientOp.{ClientOp}
use Rattle.ct_values.specs.declared.client.ClientOp.TheVariants as op
use Rattle.ct_values.specs.declared.client.Why.{Why}
use Rattle.ct_values.specs.declared.config.Config.{Config}
use Rattle.ct_frame.specs.declared.event.Event.{Event}
use Rattle.ct_frame.specs.declared.event.Event.TheVariants as event
use Rattle.ct_frame.specs.declared.frame.Frame.{Frame}
use Rattle.ct_frame.specs.declared.frame.Msg.{Msg}
use Rattle.ct_frame.specs.declared.frame.Msg.TheVariants as msg
use Rattle.ct_call.specs.Rules.{Rules}
use Rattle.ct_tracking.specs.Tracked.{Revocation}
use Rattle.ct_store.specs.Map.{Pairs}
use Rattle.ct_rules.specs.Parts.{Moving, performs, send, send_all, reply, keeps, want}
use Rattle.ct_rules.specs.Moves.{release, call_again_of, call_again, revoke_again_of, revoke_again}
use Rattle.ct_law_rules.specs.Laws.{Grows}
use Rattle.ct_rules.specs.declared.event.Act.{Act}
use Rattle.ct_rules.specs.declared.event.MoveEvent.TheVariants as move_event
use Rattle.ct_rules.specs.declared.event.Place.{Place}
use Rattle.ct_rules.specs.declared.state.RecState.{RecState}
use Rattle.ct_rules.specs.declared.state.Wish.{Wish}
use Rattle.ct_law_rules.proofs.Growing.{front_same, front_more, front_after, grows_same, release_grows, call_again_grows, revoke_again_grows, move_grows}
use Rattle.ct_rules_node.specs.Node.{Database, Phase, Idle, Serving, Installed, Freezing, Frozen, with_db}
use Rattle.ct_rules_node.specs.Turn.{Turn}
use Rattle.ct_rules_node.specs.Records.{out_of, put_back, acted, at_record, place_of, view}
use Rattle.ct_rules_node.specs.Clients.{unlocks, reads, serves, serves_or, client, refusal}
use Rattle.ct_rules_node.specs.Rounds.{Called, pending_calls, want_again_of, want_again, want_all, thaws, on_thaw}
use Rattle.ct_rules_node.specs.Retries.{call_all, revoke_all, revoke_in, retry_records, retry}
use Rattle.ct_rules_node.specs.Steps.{on_record_of, if_persistent, if_sound, if_taken_over, arrives, vacuum_all, vacuums, happens}
use Rattle.ct_rules_node.specs.Admission.{record_in}
use Rattle.ct_law_rules_node.specs.NodeLaws.{TurnGrows, StaysInOrder}
use Rattle.ct_law_rules_node.proofs.AtRecord.{moves_at}
use Rattle.ct_law_rules_node.proofs.BesideRecords.{Steady, same, steady_grows, with_phase_steady, answers_steady, notes_steady, makes_steady, commit_steady, on_pupdate_steady, on_pack_steady, read_pair_steady, begin_round_steady, frozen_steady, on_freeze_steady, on_freezeack_steady, on_pull_steady, on_pullreply_steady, on_push_steady, on_pushack_steady, begin_takeover_steady, on_release_steady, on_releaseack_steady, on_take_steady, update_in_steady, retry_lead_steady}

-- ---- the parts of the rules of one record that are not events of their own

keeps_grows : (s : RecState) (o p : Moving) → Grows (keeps s o) p → Grows o p
unfolding keeps
keeps_grows s o p g = record { next = g.next; floor = g.floor; spent = g.spent; acts = g.acts }

want_again_of_grows : (at : Place) (rules : Rules) (o : Moving) (w : Option Wish) → Grows o (want_again_of at rules o w)
unfolding want_again_of
want_again_of_grows at rules o None = grows_same o
want_again_of_grows at rules o (Some w) = keeps_grows (record o.state { wish = None }) o _ (move_grows at rules (move_event.Want w.call w.op) (keeps (record o.state { wish = None }) o))

pub want_again_grows : (rules : Rules) (at : Place) (o : Moving) → Grows o (want_again rules at o)
unfolding want_again
want_again_grows rules at o = want_again_of_grows at rules o o.state.wish

-- ---- a step at one record

-- what grows, and what stays
pub record Grown (t u : Turn) : Type 0 where
  pub grows : TurnGrows t u
  pub stays : StaysInOrder t u

turn_grows_after : (t u v : Turn) → TurnGrows t u → TurnGrows u v → TurnGrows t v
turn_grows_after t u v f g = record { promise = omega arith; next = omega arith; spent = λ e. g.spent (f.spent e); outs = front_after t.outs u.outs v.outs f.outs g.outs }

stays_after : (t u v : Turn) → StaysInOrder t u → StaysInOrder u v → StaysInOrder t v
stays_after t u v f g = record { dbs = g.dbs ∙ f.dbs; order = λ h. g.order (f.order h) }

pub grown_after : {t u v : Turn} → Grown t u → Grown u v → Grown t v
grown_after {t} {u} {v} f g = record { grows = turn_grows_after t u v f.grows g.grows; stays = stays_after t u v f.stays g.stays }

pub steadily : (t u : Turn) → Steady t u → Grown t u
steadily t u s = record { grows = steady_grows t u s; stays = record { dbs = s.dbs; order = s.order } }

pub grown_same : {t : Turn} → Grown t t
grown_same {t} = steadily t t same

pub either_grown : {t u v : Turn} (b : Bool) → Grown t u → Grown t v → Grown t (cond b u v)
either_grown true f g = f
either_grown false f g = g

-- a part that looks at no record comes after
pub steady_grown : {t u v : Turn} → Steady u v → Grown t u → Grown t v
steady_grown {t} {u} {v} s g = grown_after g (steadily u v s)

acted_grows : (me db : ℕ) (key : List ℕ) (o : Moving) (u : Turn) → u.node.next ≤ o.next → TurnGrows u (acted me db key o u)
unfolding acted put_back
acted_grows me db key o u l = record { promise = omega arith; next = l; spent = λ e. or_left u.spent o.spent e; outs = front_more u.outs u.outs (map (out_of u.node.generation me db key) o.acts) (front_same u.outs) }

acted_dbs : (me db : ℕ) (key : List ℕ) (o : Moving) (u : Turn) → length (acted me db key o u).node.dbs ≡ length u.node.dbs
unfolding acted put_back with_db
acted_dbs me db key o u = length-set u.node.dbs db _

pub at_record_grown : {t : Turn} (c : Config) (me db : ℕ) (key : List ℕ) (part : Place → Moving → Moving) (u : Turn) → ((at : Place) (o : Moving) → Grows o (part at o)) → Grown t u → Grown t (at_record c me db key part u)
unfolding at_record view
at_record_grown c me db key part u f g =
    let p = f (place_of c me db key u.node) (view db key u.node) in
    grown_after g (record { grows = acted_grows me db key _ u p.next; stays = record { dbs = acted_dbs me db key _ u; order = λ h. (moves_at c me db key part u h).order } })

-- ---- clients

unlocks_grown : {t : Turn} (c : Config) (me call db : ℕ) (key : List ℕ) (u : Turn) (p : Phase) (rules : Rules) → Grown t u → Grown t (unlocks c me call db key u p)
unfolding unlocks
unlocks_grown c me call db key u (Freezing g h) rules s = steady_grown (frozen_steady me g h same) (at_record_grown c me db key _ u (λ at o. release_grows call o) s)
unlocks_grown c me call db key u Idle rules s = at_record_grown c me db key _ u (λ at o. move_grows at rules (move_event.Unlock call) o) s
unlocks_grown c me call db key u Serving rules s = at_record_grown c me db key _ u (λ at o. move_grows at rules (move_event.Unlock call) o) s
unlocks_grown c me call db key u Installed rules s = at_record_grown c me db key _ u (λ at o. move_grows at rules (move_event.Unlock call) o) s
unlocks_grown c me call db key u (Frozen g) rules s = at_record_grown c me db key _ u (λ at o. move_grows at rules (move_event.Unlock call) o) s

wants_grown : {t : Turn} (c : Config) (rules : Rules) (me call db : ℕ) (key : List ℕ) (asked : ClientOp) (u : Turn) → Grown t u → Grown t (at_record c me db key (λ at o. want at rules call asked o) u)
wants_grown c rules me call db key asked u s = at_record_grown c me db key _ u (λ at o. move_grows at rules (move_event.Want call asked) o) s

serves_grown : {t : Turn} (c : Config) (rules : Rules) (me call : ℕ) (u : Turn) (asked : ClientOp) → Grown t u → Grown t (serves c rules me call u asked)
unfolding serves reads
serves_grown c rules me call u (op.Read db key) s = either_grown _ (steady_grown (read_pair_steady call db key same) s) (wants_grown c rules me call db key (op.Read db key) u s)
serves_grown c rules me call u (op.Store db key v) s = at_record_grown c me db key _ u (λ at o. move_grows at rules (move_event.Store call v) o) s
serves_grown c rules me call u (op.Unlock db key) s = unlocks_grown c me call db key u u.node.phase rules s
serves_grown c rules me call u (op.Commit db writes) s = steady_grown (commit_steady me call db writes same) s
serves_grown c rules me call u (op.Lock db key) s = wants_grown c rules me call db key (op.Lock db key) u s
serves_grown c rules me call u (op.Write db key v) s = wants_grown c rules me call db key (op.Write db key v) u s
serves_grown c rules me call u (op.Apply db key f arg) s = wants_grown c rules me call db key (op.Apply db key f arg) u s

serves_or_grown : {t : Turn} (c : Config) (rules : Rules) (me call : ℕ) (asked : ClientOp) (u : Turn) (w : Option Why) → Grown t u → Grown t (serves_or c rules me call asked u w)
unfolding serves_or
serves_or_grown c rules me call asked u (Some w) s = steady_grown (answers_steady call _ same) s
serves_or_grown c rules me call asked u None s = serves_grown c rules me call u asked s

client_grown : (c : Config) (rules : Rules) (me call : ℕ) (asked : ClientOp) (u : Turn) → Grown u (client c rules me call asked u)
unfolding client
client_grown c rules me call asked u = serves_or_grown c rules me call asked _ (refusal c rules u.node asked) (steady_grown (makes_steady call same) grown_same)

-- ---- thaws

want_all_grown : {t : Turn} (c : Config) (rules : Rules) (me : ℕ) (xs : List Called) (u : Turn) → Grown t u → Grown t (want_all c rules me xs u)
unfolding want_all
want_all_grown c rules me [] u s = s
want_all_grown c rules me (x ∷ xs) u s = want_all_grown c rules me xs _ (at_record_grown c me x.db x.key (want_again rules) u (want_again_grows rules) s)

on_thaw_grown : (c : Config) (rules : Rules) (me g : ℕ) (u : Turn) (p : Phase) → Grown u (on_thaw c rules me g u p)
unfolding on_thaw thaws
on_thaw_grown c rules me g u Installed = either_grown _ (want_all_grown c rules me _ _ (steady_grown (notes_steady _ (with_phase_steady Serving same)) grown_same)) grown_same
on_thaw_grown c rules me g u Idle = grown_same
on_thaw_grown c rules me g u Serving = grown_same
on_thaw_grown c rules me g u (Freezing h l) = grown_same
on_thaw_grown c rules me g u (Frozen h) = grown_same

-- ---- sending again

call_all_grown : {t : Turn} (c : Config) (me : ℕ) (xs : List Called) (u : Turn) → Grown t u → Grown t (call_all c me xs u)
unfolding call_all
call_all_grown c me [] u s = s
call_all_grown c me (x ∷ xs) u s = call_all_grown c me xs _ (at_record_grown c me x.db x.key call_again u call_again_grows s)

revoke_all_grown : {t : Turn} (c : Config) (me db : ℕ) (m : Pairs RecState) (u : Turn) → Grown t u → Grown t (revoke_all c me db m u)
unfolding revoke_all
revoke_all_grown c me db [] u s = s
revoke_all_grown c me db (e ∷ m) u s = revoke_all_grown c me db m _ (at_record_grown c me db e.0 revoke_again u revoke_again_grows s)

revoke_in_grown : {t : Turn} (c : Config) (me i : ℕ) (dbs : List Database) (u : Turn) → Grown t u → Grown t (revoke_in c me i dbs u)
unfolding revoke_in
revoke_in_grown c me i [] u s = s
revoke_in_grown c me i (d ∷ ds) u s = revoke_in_grown c me (i + 1) ds _ (revoke_all_grown c me i d.records u s)

retry_records_grown : (c : Config) (me : ℕ) (u : Turn) → Grown u (retry_records c me u)
unfolding retry_records
retry_records_grown c me u = either_grown _ (steady_grown (update_in_steady me 0 u.node.dbs _ same) (revoke_in_grown c me 0 u.node.dbs _ (call_all_grown c me (pending_calls u.node) u grown_same))) grown_same

retry_grown : (c : Config) (me : ℕ) (u : Turn) → Grown u (retry c me u)
unfolding retry
retry_grown c me u = steady_grown (retry_lead_steady me (retry_records c me u) (retry_records c me u).node.lead same) (retry_records_grown c me u)

-- ---- vacuums

vacuum_all_grown : {t : Turn} (c : Config) (me db : ℕ) (rules : Rules) (m : Pairs RecState) (u : Turn) → Grown t u → Grown t (vacuum_all c me db m u)
unfolding vacuum_all
vacuum_all_grown c me db rules [] u s = s
vacuum_all_grown c me db rules (e ∷ m) u s = vacuum_all_grown c me db rules m _ (at_record_grown c me db e.0 _ u (λ at o. move_grows at rules (move_event.Vacuum (others me u.node.members)) o) s)

vacuums_grown : (c : Config) (rules : Rules) (me db : ℕ) (u : Turn) → Grown u (vacuums c me db u)
unfolding vacuums
vacuums_grown c rules me db u = either_grown _ (vacuum_all_grown c me db rules _ u grown_same) grown_same

-- ---- messages

on_record_of_grown : (c : Config) (rules : Rules) (me : ℕ) (f : Frame) (u : Turn) (r : Option (ℕ × List ℕ)) → Grown u (on_record_of c rules me f u r)
unfolding on_record_of
on_record_of_grown c rules me f u None = grown_same
on_record_of_grown c rules me f u (Some r) = either_grown _ (at_record_grown c me r.0 r.1 _ u (λ at o. move_grows at rules (move_event.Arrive f.sender f.msg) o) grown_same) grown_same

calm : {t u : Turn} (b : Bool) → Steady t u → Grown t (cond b u t)
calm {t} {u} b s = either_grown b (steadily t u s) grown_same

arrives_grown : (c : Config) (rules : Rules) (me : ℕ) (f : Frame) (u : Turn) (m : Msg) → Grown u (arrives c rules me f u m)
unfolding arrives if_persistent if_sound if_taken_over
arrives_grown c rules me f u (msg.PUpdate db seq writes) = calm _ (on_pupdate_steady me f.sender db seq writes same)
arrives_grown c rules me f u (msg.PAck db seq) = calm _ (on_pack_steady f.sender db seq same)
arrives_grown c rules me f u (msg.Freeze members) = calm _ (on_freeze_steady c me f.sender f.generation same)
arrives_grown c rules me f u msg.FreezeAck = calm _ (on_freezeack_steady me f.sender f.generation u u.node.lead same)
arrives_grown c rules me f u msg.Pull = calm _ (on_pull_steady c me f.sender f.generation same)
arrives_grown c rules me f u (msg.PullReply vbase pbase table ptables addresses) = calm _ (on_pullreply_steady me f.generation _ u u.node.lead same)
arrives_grown c rules me f u (msg.Push members table ptables assigned) = calm _ (on_push_steady c me f.sender f.generation members table ptables assigned same)
arrives_grown c rules me f u msg.PushAck = calm _ (on_pushack_steady c me f.sender f.generation u u.node.lead same)
arrives_grown c rules me f u msg.Thaw = either_grown _ (on_thaw_grown c rules me f.generation u u.node.phase) grown_same
arrives_grown c rules me f u (msg.Release number keep) = calm _ (on_release_steady me f.sender number keep same)
arrives_grown c rules me f u (msg.ReleaseAck number) = calm _ (on_releaseack_steady me f.sender f.generation number u u.node.lead same)
arrives_grown c rules me f u (msg.Take number assigned) = calm _ (on_take_steady c me number assigned same)
arrives_grown c rules me f u m = on_record_of_grown c rules me f u (record_in m)

-- ---- every event

happens_grown : (c : Config) (rules : Rules) (me : ℕ) (u : Turn) (e : Event) → Grown u (happens c rules me u e)
unfolding happens
happens_grown c rules me u (event.Client call o) = client_grown c rules me call o u
happens_grown c rules me u (event.Arrive f) = arrives_grown c rules me f u f.msg
happens_grown c rules me u event.Retry = retry_grown c me u
happens_grown c rules me u (event.Vacuum db) = vacuums_grown c rules me db u
happens_grown c rules me u (event.BeginRound ticket members) = steadily _ _ (begin_round_steady me ticket members same)
happens_grown c rules me u (event.BeginTakeover able) = steadily _ _ (begin_takeover_steady me able u u.node.lead same)

pub happens_grows : (c : Config) (rules : Rules) (me : ℕ) (u : Turn) (e : Event) → TurnGrows u (happens c rules me u e)
happens_grows c rules me u e = (happens_grown c rules me u e).grows

pub happens_in_order : (c : Config) (rules : Rules) (me : ℕ) (u : Turn) (e : Event) → StaysInOrder u (happens c rules me u e)
happens_in_order c rules me u e = (happens_grown c rules me u e).stays

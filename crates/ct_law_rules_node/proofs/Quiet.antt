-- A node that is not present sends no message of a record.
use Rattle.std.proofs.Common.{◌≡◌, ℕ, Bool, true, false, cond, not, ◌&&◌, ◌||◌, List, [], ◌++◌, map, Option, Some, None, refl, ap, ◌∙◌, append-nil}
use Rattle.std.proofs.lemmas.Bool.{or_left}
use Rattle.std.specs.Prelude.{is_none, is_some, nat_eq}
use Rattle.ct_values.specs.Client.{db_of, is_read, key_of}
use Rattle.ct_values.specs.declared.client.Answer.TheVariants as answer
use Rattle.ct_values.specs.declared.client.ClientOp.{ClientOp}
use Rattle.ct_values.specs.declared.client.ClientOp.TheVariants as op
use Rattle.ct_values.specs.declared.client.Why.{Why}
use Rattle.ct_values.specs.declared.config.Config.{Config}
use Rattle.ct_frame.specs.declared.event.Event.{Event}
use Rattle.ct_frame.specs.declared.event.Event.TheVariants as event
use Rattle.ct_frame.specs.declared.event.Out.{Out}
use Rattle.ct_frame.specs.declared.frame.Frame.{Frame}
use Rattle.ct_frame.specs.declared.frame.Msg.{Msg}
use Rattle.ct_frame.specs.declared.frame.Msg.TheVariants as msg
use Rattle.ct_call.specs.Rules.{Rules}
use Rattle.ct_rules.specs.State.{is_mastered, is_for_reading, value_of}
use Rattle.ct_rules.specs.Parts.{Moving, performs, reply, keeps, opened_at_home, want_of, want}
use Rattle.ct_rules.specs.Moves.{store, release}
use Rattle.ct_rules.specs.declared.event.Place.{Place}
use Rattle.ct_rules_node.specs.Node.{Node, Phase, Idle, Serving, Installed, Freezing, Frozen, is_serving, is_present, is_present_in, is_freezing, is_persistent, has_records, kind_at, state_at}
use Rattle.ct_rules_node.specs.Turn.{Turn, makes}
use Rattle.ct_rules_node.specs.Records.{out_of, acted, at_record, place_of, view}
use Rattle.ct_rules_node.specs.Clients.{is_under_lock, is_locked, may_finish, not_serving, refusal, unlocks, reads, serves, serves_or, client}
use Rattle.ct_rules_node.specs.Rounds.{on_thaw}
use Rattle.ct_rules_node.specs.Retries.{retry_records, retry}
use Rattle.ct_rules_node.specs.Steps.{on_record_of, if_persistent, if_sound, if_taken_over, arrives, vacuums, happens}
use Rattle.ct_rules_node.specs.Admission.{record_in, is_current}
use Rattle.ct_law_rules_node.specs.NodeLaws.{sends_of_record, record_sends, HoldsLocks}
use Rattle.ct_law_rules_node.proofs.Refusals.{first_none, not_refused}
use Rattle.ct_law_rules_node.proofs.BesideRecords.{sends_more, Steady, same, either, answers_steady, commit_steady, on_pupdate_steady, on_pack_steady, read_pair_steady, begin_round_steady, frozen_steady, on_freeze_steady, on_freezeack_steady, on_pull_steady, on_pullreply_steady, on_push_steady, on_pushack_steady, begin_takeover_steady, on_release_steady, on_releaseack_steady, on_take_steady, retry_lead_steady}

abbrev Quiet : Turn → Turn → Type 0
Quiet t u = record_sends u.outs ≡ record_sends t.outs

-- ---- one record

at_record_quiet : (c : Config) (me db : ℕ) (key : List ℕ) (part : Place → Moving → Moving) (u : Turn)
    → record_sends (map (out_of u.node.generation me db key) (part (place_of c me db key u.node) (view db key u.node)).acts) ≡ [] → Quiet u (at_record c me db key part u)
unfolding at_record acted
at_record_quiet c me db key part u e = sends_more u.outs _ ∙ ap (λ (l : List Out). record_sends u.outs ++ l) e ∙ append-nil (record_sends u.outs)

release_quiet : (c : Config) (me call db : ℕ) (key : List ℕ) (u : Turn) → Quiet u (at_record c me db key (λ at o. release call o) u)
unfolding release reply keeps performs out_of view record_sends sends_of_record
release_quiet c me call db key u = at_record_quiet c me db key _ u refl

store_quiet : (c : Config) (me call db : ℕ) (key v : List ℕ) (u : Turn) → Quiet u (at_record c me db key (λ at o. store call v o) u)
unfolding store reply keeps performs out_of view record_sends sends_of_record
store_quiet c me call db key v u = at_record_quiet c me db key _ u refl

pub skipped : {X : Type 0} (b : Bool) (t u : X) → b ≡ false → cond b u t ≡ t
skipped true t u e = absurd (cc)
skipped false t u e = refl

pub taken : {X : Type 0} (b : Bool) (t u : X) → b ≡ true → cond b u t ≡ u
taken true t u e = refl
taken false t u e = absurd (cc)

pub not_both : (a b : Bool) → b ≡ false → (a && b) ≡ false
not_both true b e = e
not_both false b e = refl

-- a read of a locked record at its holder is answered
read_locked : (at : Place) (rules : Rules) (call db : ℕ) (key : List ℕ) (o : Moving) → is_none o.state.locked ≡ false → is_mastered at.me o.state.copy ≡ true → want at rules call (op.Read db key) o ≡ reply call (answer.Read (value_of o.state.copy)) o
unfolding want opened_at_home want_of is_read
read_locked at rules call db key o l h =
    ap (want_of at rules call (op.Read db key)) (skipped (nat_eq at.me at.lmaster && is_none o.state.locked) o _ (not_both _ _ l))
    ∙ taken (is_mastered at.me o.state.copy || is_for_reading o.state.copy) _ (reply call (answer.Read (value_of o.state.copy)) o) (or_left _ _ h)

pub some_none : {X : Type 0} (x : Option X) → is_some x ≡ true → is_none x ≡ false
some_none None e = absurd (cc)
some_none (Some x) e = refl

read_quiet : (c : Config) (rules : Rules) (me call db : ℕ) (key : List ℕ) (u : Turn) → is_some (state_at db key u.node).locked ≡ true → is_mastered me (state_at db key u.node).copy ≡ true → Quiet u (at_record c me db key (λ at o. want at rules call (op.Read db key) o) u)
unfolding place_of view reply performs out_of record_sends sends_of_record
read_quiet c rules me call db key u l h =
    at_record_quiet c me db key _ u
    (ap (λ (o : Moving). record_sends (map (out_of u.node.generation me db key) o.acts)) (read_locked (place_of c me db key u.node) rules call db key (view db key u.node) (some_none _ l) h))

-- ---- clients

may : (serving may : Bool) → serving ≡ false → (not serving && not may) ≡ false → may ≡ true
may true m s e = absurd (cc)
may false true s e = refl
may false false s e = absurd (cc)

not_serving_none : (c : Config) (rules : Rules) (n : Node) (o : ClientOp) → refusal c rules n o ≡ None → not_serving n o ≡ None
unfolding refusal
not_serving_none c rules n o e = (first_none _ _ (first_none _ _ (first_none _ _ e).1).1).0

present_serving : (p : Phase) → is_present p ≡ false → is_serving p ≡ false
unfolding is_present is_serving
present_serving Idle e = refl
present_serving Serving e = e
present_serving Installed e = refl
present_serving (Freezing g h) e = refl
present_serving (Frozen g) e = refl

finishes : (c : Config) (rules : Rules) (n : Node) (o : ClientOp) → is_present n.phase ≡ false → refusal c rules n o ≡ None → may_finish n o ≡ true
unfolding not_serving
finishes c rules n o p e = may (is_serving n.phase) (may_finish n o) (present_serving n.phase p) (not_refused _ _ (not_serving_none c rules n o e))

unlocks_quiet : (c : Config) (me call db : ℕ) (key : List ℕ) (u : Turn) (p : Phase) → is_freezing p ≡ true → Quiet u (unlocks c me call db key u p)
unfolding unlocks is_freezing
unlocks_quiet c me call db key u (Freezing g h) e = (frozen_steady me g h same).quiet ∙ release_quiet c me call db key u
unlocks_quiet c me call db key u Idle e = absurd (cc)
unlocks_quiet c me call db key u Serving e = absurd (cc)
unlocks_quiet c me call db key u Installed e = absurd (cc)
unlocks_quiet c me call db key u (Frozen g) e = absurd (cc)

first : (a b d : Bool) → (a && b && d) ≡ true → a ≡ true
first true b d e = refl
first false b d e = absurd (cc)

second : (a b d : Bool) → (a && b && d) ≡ true → b ≡ true
second a true d e = refl
second true false d e = absurd (cc)
second false false d e = absurd (cc)

third : (a b d : Bool) → (a && b && d) ≡ true → d ≡ true
third a b true e = refl
third true true false e = absurd (cc)
third true false false e = absurd (cc)
third false b false e = absurd (cc)

both_quiet : (t u v : Turn) (b : Bool) → Quiet t u → Quiet t v → Quiet t (cond b u v)
both_quiet t u v true p q = p
both_quiet t u v false p q = q

serves_quiet : (c : Config) (rules : Rules) (me call : ℕ) (u : Turn) (o : ClientOp) → HoldsLocks me u.node → may_finish u.node o ≡ true → Quiet u (serves c rules me call u o)
unfolding serves reads may_finish is_read is_under_lock is_locked HoldsLocks
serves_quiet c rules me call u (op.Read db key) h e = both_quiet u _ _ (is_persistent (kind_at c db)) (read_pair_steady call db key same).quiet (let l = third (is_freezing u.node.phase) _ _ e in read_quiet c rules me call db key u l (h db key l))
serves_quiet c rules me call u (op.Store db key v) h e = store_quiet c me call db key v u
serves_quiet c rules me call u (op.Unlock db key) h e = unlocks_quiet c me call db key u u.node.phase (first _ _ _ e)
serves_quiet c rules me call u (op.Commit db writes) h e = (commit_steady me call db writes same).quiet
serves_quiet c rules me call u (op.Lock db key) h e = absurd (let n = second (is_freezing u.node.phase) _ _ e in cc)
serves_quiet c rules me call u (op.Write db key v) h e = absurd (let n = second (is_freezing u.node.phase) _ _ e in cc)
serves_quiet c rules me call u (op.Apply db key f arg) h e = absurd (let n = second (is_freezing u.node.phase) _ _ e in cc)

serves_or_quiet : (c : Config) (rules : Rules) (me call : ℕ) (o : ClientOp) (u : Turn) (w : Option Why) → HoldsLocks me u.node → (w ≡ None → may_finish u.node o ≡ true) → Quiet u (serves_or c rules me call o u w)
unfolding serves_or
serves_or_quiet c rules me call o u (Some w) h e = (answers_steady call _ same).quiet
serves_or_quiet c rules me call o u None h e = serves_quiet c rules me call u o h (e refl)

client_quiet : (c : Config) (rules : Rules) (me call : ℕ) (o : ClientOp) (u : Turn) → is_present u.node.phase ≡ false → HoldsLocks me u.node → Quiet u (client c rules me call o u)
unfolding client makes
client_quiet c rules me call o u p h = serves_or_quiet c rules me call o (makes call u) (refusal c rules u.node o) h (finishes c rules u.node o p)

-- ---- what only a present node follows

on_thaw_quiet : (c : Config) (rules : Rules) (me g : ℕ) (u : Turn) (p : Phase) → is_present p ≡ false → Quiet u (on_thaw c rules me g u p)
unfolding on_thaw is_present
on_thaw_quiet c rules me g u Installed e = absurd (cc)
on_thaw_quiet c rules me g u Idle e = refl
on_thaw_quiet c rules me g u Serving e = refl
on_thaw_quiet c rules me g u (Freezing h l) e = refl
on_thaw_quiet c rules me g u (Frozen h) e = refl

no_records : (c : Config) (me : ℕ) (u : Turn) → is_present u.node.phase ≡ false → retry_records c me u ≡ u
unfolding retry_records
no_records c me u p = skipped (is_present u.node.phase) u _ p

retry_quiet : (c : Config) (me : ℕ) (u : Turn) → is_present u.node.phase ≡ false → Quiet u (retry c me u)
unfolding retry
retry_quiet c me u p =
    (retry_lead_steady me (retry_records c me u) (retry_records c me u).node.lead same).quiet ∙ ap (λ (t : Turn). record_sends t.outs) (no_records c me u p)

vacuums_quiet : (c : Config) (me db : ℕ) (u : Turn) → is_present u.node.phase ≡ false → Quiet u (vacuums c me db u)
unfolding vacuums
vacuums_quiet c me db u p = ap (λ (t : Turn). record_sends t.outs) (skipped (is_serving u.node.phase) u _ (present_serving u.node.phase p))

not_first : (a b : Bool) → a ≡ false → (a && b) ≡ false
not_first true b e = absurd (cc)
not_first false b e = refl

absent : (f : Frame) (n : Node) (b : Bool) → is_present n.phase ≡ false → (is_current f n && b) ≡ false
unfolding is_current is_present_in
absent f n b p = not_first _ _ (not_first _ _ (not_first _ _ (not_first _ _ p)))

on_record_of_quiet : (c : Config) (rules : Rules) (me : ℕ) (f : Frame) (u : Turn) (r : Option (ℕ × List ℕ)) → is_present u.node.phase ≡ false → Quiet u (on_record_of c rules me f u r)
unfolding on_record_of
on_record_of_quiet c rules me f u None p = refl
on_record_of_quiet c rules me f u (Some r) p = ap (λ (t : Turn). record_sends t.outs) (skipped (is_current f u.node && has_records (kind_at c r.0)) u _ (absent f u.node _ p))

calm : {t u : Turn} (b : Bool) → Steady t u → Quiet t (cond b u t)
calm {t} {u} b s = (either b s same).quiet

quiet_if : (t u : Turn) (b : Bool) → Quiet t u → Quiet t (cond b u t)
quiet_if t u true q = q
quiet_if t u false q = refl

arrives_quiet : (c : Config) (rules : Rules) (me : ℕ) (f : Frame) (u : Turn) (m : Msg) → is_present u.node.phase ≡ false → Quiet u (arrives c rules me f u m)
unfolding arrives if_persistent if_sound if_taken_over
arrives_quiet c rules me f u (msg.PUpdate db seq writes) p = calm _ (on_pupdate_steady me f.sender db seq writes same)
arrives_quiet c rules me f u (msg.PAck db seq) p = calm _ (on_pack_steady f.sender db seq same)
arrives_quiet c rules me f u (msg.Freeze members) p = calm _ (on_freeze_steady c me f.sender f.generation same)
arrives_quiet c rules me f u msg.FreezeAck p = calm _ (on_freezeack_steady me f.sender f.generation u u.node.lead same)
arrives_quiet c rules me f u msg.Pull p = calm _ (on_pull_steady c me f.sender f.generation same)
arrives_quiet c rules me f u (msg.PullReply vbase pbase table ptables addresses) p = calm _ (on_pullreply_steady me f.generation _ u u.node.lead same)
arrives_quiet c rules me f u (msg.Push members table ptables assigned) p = calm _ (on_push_steady c me f.sender f.generation members table ptables assigned same)
arrives_quiet c rules me f u msg.PushAck p = calm _ (on_pushack_steady c me f.sender f.generation u u.node.lead same)
arrives_quiet c rules me f u msg.Thaw p = quiet_if u (on_thaw c rules me f.generation u u.node.phase) _ (on_thaw_quiet c rules me f.generation u u.node.phase p)
arrives_quiet c rules me f u (msg.Release number keep) p = calm _ (on_release_steady me f.sender number keep same)
arrives_quiet c rules me f u (msg.ReleaseAck number) p = calm _ (on_releaseack_steady me f.sender f.generation number u u.node.lead same)
arrives_quiet c rules me f u (msg.Take number assigned) p = calm _ (on_take_steady c me number assigned same)
arrives_quiet c rules me f u m p = on_record_of_quiet c rules me f u (record_in m) p

-- ---- every event

pub happens_quiet : (c : Config) (rules : Rules) (me : ℕ) (u : Turn) (e : Event) → is_present u.node.phase ≡ false → HoldsLocks me u.node → record_sends (happens c rules me u e).outs ≡ record_sends u.outs
unfolding happens
happens_quiet c rules me u (event.Client call o) p h = client_quiet c rules me call o u p h
happens_quiet c rules me u (event.Arrive f) p h = arrives_quiet c rules me f u f.msg p
happens_quiet c rules me u event.Retry p h = retry_quiet c me u p
happens_quiet c rules me u (event.Vacuum db) p h = vacuums_quiet c me db u p
happens_quiet c rules me u (event.BeginRound ticket members) p h = (begin_round_steady me ticket members same).quiet
happens_quiet c rules me u (event.BeginTakeover able) p h = (begin_takeover_steady me able u u.node.lead same).quiet

-- Every event leaves the calls of its node even.
use Rattle.std.proofs.Common.{◌≡◌, ℕ, ◌+◌, List, [], ◌∷◌, length, Option, Some, None, refl, arith}
use Rattle.ct_values.specs.Words.{others}
use Rattle.ct_values.specs.declared.client.ClientOp.{ClientOp}
use Rattle.ct_values.specs.declared.config.Config.{Config}
use Rattle.ct_frame.specs.declared.event.Event.{Event}
use Rattle.ct_frame.specs.declared.event.Event.TheVariants as event
use Rattle.ct_frame.specs.declared.frame.Frame.{Frame}
use Rattle.ct_frame.specs.declared.frame.Msg.{Msg}
use Rattle.ct_frame.specs.declared.frame.Msg.TheVariants as msg
use Rattle.ct_call.specs.Rules.{Rules}
use Rattle.ct_store.specs.Map.{Pairs}
use Rattle.ct_tracking.specs.Tracked.{Revocation}
use Rattle.ct_rules.specs.Parts.{Moving, keeps, send, performs}
use Rattle.ct_rules.specs.Moves.{call_again_of, call_again, revoke_again_of, revoke_again}
use Rattle.ct_rules.specs.declared.event.Place.{Place}
use Rattle.ct_rules.specs.declared.state.RecState.{RecState}
use Rattle.ct_rules.specs.declared.state.Wish.{Wish}
use Rattle.ct_rules_node.specs.Node.{Node, Database, Phase, Idle, Serving, Installed, Freezing, Frozen}
use Rattle.ct_rules_node.specs.Turn.{Turn, begins}
use Rattle.ct_rules_node.specs.Rounds.{Called, pending_calls, want_again_of, want_again, want_all, thaws, on_thaw}
use Rattle.ct_rules_node.specs.Retries.{call_all, revoke_all, revoke_in, retry_records, retry}
use Rattle.ct_rules_node.specs.Steps.{on_record_of, if_persistent, if_sound, if_taken_over, arrives, vacuum_all, vacuums, happens}
use Rattle.ct_rules_node.specs.Admission.{record_in}
use Rattle.ct_law_wishes.proofs.Wishing.{Wishful, arrive_wish, vacuum_wish, want_again_wish, call_again_wish, revoke_again_wish}
use Rattle.ct_law_record.proofs.Even.{arrive_even, vacuum_even, want_again_even, call_again_even, revoke_again_even}
use Rattle.ct_law_generation.proofs.Opened.{Opened, answered_by, AllOpen, without_all}
use Rattle.ct_law_generation.proofs.Accounts.{Stands, Account, with_call}
use Rattle.ct_law_generation.proofs.Records.{at_record_kept}
use Rattle.ct_law_generation.proofs.BirthClients.{client_kept}
use Rattle.ct_law_generation.proofs.Turns.{either, with_phase_kept, notes_kept, on_pupdate_kept, on_pack_kept, begin_round_kept, on_freeze_kept, on_freezeack_kept, on_pull_kept, on_pullreply_kept, on_push_kept, on_pushack_kept, begin_takeover_kept, on_release_kept, on_releaseack_kept, on_take_kept, update_in_kept, retry_lead_kept}

-- ---- thaws

pub want_all_kept : {who : Opened} (c : Config) (rules : Rules) (n : ℕ) (xs : List Called) (t : Turn) → Account who n t → Account who n (want_all c rules n xs t)
unfolding want_all
want_all_kept c rules n [] t s = s
want_all_kept c rules n (x ∷ xs) t s = want_all_kept c rules n xs _ (at_record_kept c x.db x.key (want_again rules) t (λ xs at o h. want_again_even xs rules at o h) (λ P at o h. want_again_wish P rules at o h) s)

pub on_thaw_kept : {who : Opened} (c : Config) (rules : Rules) (n g : ℕ) (t : Turn) (p : Phase) → Account who n t → Account who n (on_thaw c rules n g t p)
unfolding on_thaw thaws
on_thaw_kept c rules n g t Installed s = either _ (want_all_kept c rules n _ _ (notes_kept _ (with_phase_kept Serving s))) s
on_thaw_kept c rules n g t Idle s = s
on_thaw_kept c rules n g t Serving s = s
on_thaw_kept c rules n g t (Freezing h l) s = s
on_thaw_kept c rules n g t (Frozen h) s = s

-- ---- sending again

call_all_kept : {who : Opened} (c : Config) (n : ℕ) (xs : List Called) (t : Turn) → Account who n t → Account who n (call_all c n xs t)
unfolding call_all
call_all_kept c n [] t s = s
call_all_kept c n (x ∷ xs) t s = call_all_kept c n xs _ (at_record_kept c x.db x.key call_again t (λ xs at o h. call_again_even xs at o h) (λ P at o h. call_again_wish P at o h) s)

revoke_all_kept : {who : Opened} (c : Config) (n db : ℕ) (m : Pairs RecState) (t : Turn) → Account who n t → Account who n (revoke_all c n db m t)
unfolding revoke_all
revoke_all_kept c n db [] t s = s
revoke_all_kept c n db (e ∷ m) t s = revoke_all_kept c n db m _ (at_record_kept c db e.0 revoke_again t (λ xs at o h. revoke_again_even xs at o h) (λ P at o h. revoke_again_wish P at o h) s)

revoke_in_kept : {who : Opened} (c : Config) (n i : ℕ) (dbs : List Database) (t : Turn) → Account who n t → Account who n (revoke_in c n i dbs t)
unfolding revoke_in
revoke_in_kept c n i [] t s = s
revoke_in_kept c n i (x ∷ xs) t s = revoke_in_kept c n (i + 1) xs _ (revoke_all_kept c n i x.records t s)

retry_records_kept : {who : Opened} (c : Config) (n : ℕ) (t : Turn) → Account who n t → Account who n (retry_records c n t)
unfolding retry_records
retry_records_kept c n t s = either _ (update_in_kept n 0 t.node.dbs _ (revoke_in_kept c n 0 t.node.dbs _ (call_all_kept c n (pending_calls t.node) t s))) s

pub retry_kept : {who : Opened} (c : Config) (n : ℕ) (t : Turn) → Account who n t → Account who n (retry c n t)
unfolding retry
retry_kept c n t s = retry_lead_kept n (retry_records c n t) (retry_records c n t).node.lead (retry_records_kept c n t s)

-- ---- the vacuum of a database

vacuum_all_kept : {who : Opened} (c : Config) (n db : ℕ) (m : Pairs RecState) (t : Turn) → Account who n t → Account who n (vacuum_all c n db m t)
unfolding vacuum_all
vacuum_all_kept c n db [] t s = s
vacuum_all_kept c n db (x ∷ m) t s = vacuum_all_kept c n db m _ (at_record_kept c db x.0 _ t (λ xs at o h. vacuum_even xs at (others n t.node.members) o h) (λ P at o h. vacuum_wish P at (others n t.node.members) o h) s)

pub vacuums_kept : {who : Opened} (c : Config) (n db : ℕ) (t : Turn) → Account who n t → Account who n (vacuums c n db t)
unfolding vacuums
vacuums_kept c n db t s = either _ (vacuum_all_kept c n db _ t s) s

-- ---- messages

on_record_of_kept : {who : Opened} (c : Config) (rules : Rules) (n : ℕ) (f : Frame) (t : Turn) (r : Option (ℕ × List ℕ)) → Account who n t → Account who n (on_record_of c rules n f t r)
unfolding on_record_of
on_record_of_kept c rules n f t None s = s
on_record_of_kept c rules n f t (Some r) s = either _ (at_record_kept c r.0 r.1 _ t (λ xs at o h. arrive_even xs at rules f.sender f.msg o h) (λ P at o h. arrive_wish P at rules f.sender f.msg o h) s) s

pub arrives_kept : {who : Opened} (c : Config) (rules : Rules) (n : ℕ) (f : Frame) (t : Turn) (m : Msg) → Account who n t → Account who n (arrives c rules n f t m)
unfolding arrives if_persistent if_sound if_taken_over
arrives_kept c rules n f t (msg.PUpdate db seq writes) s = either _ (on_pupdate_kept n f.sender db seq writes s) s
arrives_kept c rules n f t (msg.PAck db seq) s = either _ (on_pack_kept f.sender db seq s) s
arrives_kept c rules n f t (msg.Freeze members) s = either _ (on_freeze_kept c n f.sender f.generation s) s
arrives_kept c rules n f t msg.FreezeAck s = either _ (on_freezeack_kept n f.sender f.generation t t.node.lead s) s
arrives_kept c rules n f t msg.Pull s = either _ (on_pull_kept c n f.sender f.generation s) s
arrives_kept c rules n f t (msg.PullReply vbase pbase table ptables addresses) s = either _ (on_pullreply_kept n f.generation _ t t.node.lead s) s
arrives_kept c rules n f t (msg.Push members table ptables assigned) s = either _ (on_push_kept c f.sender f.generation members table ptables assigned s) s
arrives_kept c rules n f t msg.PushAck s = either _ (on_pushack_kept c n f.sender f.generation t t.node.lead s) s
arrives_kept c rules n f t msg.Thaw s = either _ (on_thaw_kept c rules n f.generation t t.node.phase s) s
arrives_kept c rules n f t (msg.Release number keep) s = either _ (on_release_kept n f.sender number keep s) s
arrives_kept c rules n f t (msg.ReleaseAck number) s = either _ (on_releaseack_kept n f.sender f.generation number t t.node.lead s) s
arrives_kept c rules n f t (msg.Take number assigned) s = either _ (on_take_kept c n number assigned s) s
arrives_kept c rules n f t m s = on_record_of_kept c rules n f t (record_in m) s

-- ---- every event

-- what is open once a client's call is, if the event is one
unfoldable pub open_at : ℕ → Event → Opened → Opened
open_at n (event.Client call asked) who = with_call call (n, asked) who
open_at n e who = who

-- a client's call is new, and there is a state for each database
unfoldable pub IsNew : Config → Event → Opened → Turn → Type 0
IsNew c (event.Client call asked) who t = (who call ≡ None) × (length t.node.dbs ≡ length c.dbs)
IsNew c e who t = Unit {0}

begun_kept : {who : Opened} {n : ℕ} (x : Node) → Stands n who x → Account who n (begins x)
unfolding answered_by AllOpen without_all
begun_kept x s = record { asked = tt; stands = s }

-- every event leaves the calls of its node even
pub happens_kept : (who : Opened) (c : Config) (rules : Rules) (n : ℕ) (x : Node) (e : Event) → IsNew c e who (begins x) → Stands n who x → Account (open_at n e who) n (happens c rules n (begins x) e)
unfolding happens open_at IsNew
happens_kept who c rules n x (event.Client call asked) new s = client_kept who c rules n call asked (begins x) (record { nothing = refl; fresh = new.0; size = new.1; stands = s })
happens_kept who c rules n x (event.Arrive f) new s = arrives_kept c rules n f (begins x) f.msg (begun_kept x s)
happens_kept who c rules n x event.Retry new s = retry_kept c n (begins x) (begun_kept x s)
happens_kept who c rules n x (event.Vacuum db) new s = vacuums_kept c n db (begins x) (begun_kept x s)
happens_kept who c rules n x (event.BeginRound ticket members) new s = begin_round_kept n ticket members (begun_kept x s)
happens_kept who c rules n x (event.BeginTakeover able) new s = begin_takeover_kept n able (begins x) x.lead (begun_kept x s)
